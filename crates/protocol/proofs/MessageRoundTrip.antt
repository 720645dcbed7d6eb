-- Every message that fits its own head has a line that fits, and reads back as the same message.
--   few-digits, line-short   a number of 32 bits has at most ten digits; a line of n such numbers at most 11 × n bytes
--   sent-size                no message has more than 3,072 residues
--   message-line-short       so no message's line is too long
--   message-round-trip       what is written reads back, with all that a reader judges
--   message-was-read         only what can be written is read
-- Assumes nothing.
use mathlib.Core.Path.{◌≡◌, refl, ap, ◌∙◌, subst}
use mathlib.Core.Bool.{true}
use mathlib.Core.List.{List, [], ◌∷◌}
use mathlib.Core.Option.{Option, some, none}
use Prim.Native.Nat.{ℕ, zero, suc, ◌+◌, ◌*◌, ◌/◌, ◌^◌, ◌≤◌, ◌<◌}
use native.Mathlib.Nat.{pow-suc, div-lt_iff_lt-mul, mul-le-mul}
use native.Mathlib.Omega.{arith}
use native.Mathlib.Decide.{dec_lt}
use lib.Dec.{leb}
use lib.ListN.{length, drop, length-append}
use borrow.Author.Tests.{le-leb, leb-true, ltb-true}
use Rattle.algebra.proofs.Tests.{and_left, and_right, and_both}
use Rattle.protocol.specs.declared.Terms.{Terms}
use Rattle.protocol.specs.Judge.{done}
use Rattle.protocol.specs.Bounds.{within, columns, all_below, Sort, product, system, sides_fit, terms_tests}
use Rattle.protocol.specs.Message.{Message, kind_known, kind_sort, message_layout, message_size, message_tests}
use Rattle.protocol.specs.Line.{decimal, end_byte, line, numbers_of, message_numbers, message_line, message_from, parse_message, read_from, read_message, most_sent}
use Rattle.protocol.proofs.Judge.{Pass, split, here, rest, accepts, passed, refused≢done}
use Rattle.protocol.proofs.Residues.{residues-below}
use Rattle.protocol.proofs.Tests.{TermsFit, terms-tests, product-sides, system-sides, input-tests}
use Rattle.protocol.proofs.DecimalLaws.{length-small, length-large}
use Rattle.protocol.proofs.LineRoundTrip.{Words, line-reads-back, message-was-written}

-- ---- lengths

few : (d n : ℕ) → n < 10 ^ suc d → length (decimal n) ≤ suc d
few zero n h = omega (arith, length-small n h)
few (suc d) n h =
    elim (dec_lt n 10) [
      | yes l ↦ omega (arith, length-small n l)
      | no l ↦ (let big : 10 ≤ n = omega arith in
          let rec = few d (n / 10) ((div-lt_iff_lt-mul {k = 10} {x = n} {y = 10 ^ suc d} (omega arith)).1 (rw (pow-suc 10 (suc d)) at h)) in
          omega (arith, length-large n big, rec))
    ]

pub few-digits : (n : ℕ) → n < 2 ^ 32 → length (decimal n) ≤ 10
few-digits n h = few 9 n (omega arith)

pub line-short : (xs : List ℕ) → Words xs → length (line xs) ≤ 11 * length xs
line-short [] w = omega arith
line-short (x ∷ xs) w =
    omega (arith, length-append (decimal x) (end_byte (length xs) ∷ line xs), few-digits x w.0, line-short xs w.1)

-- ---- counts

-- X1 and R1 of a product have the most; a system's messages are short
product-size : (t : Terms) → TermsFit product t → (t.k * t.p ≤ most_sent) × (t.m * t.k + t.m * t.p ≤ most_sent)
product-size t f =
    let s = (product-sides t.m t.k t.p).0 f.sides in
    (omega (arith, s.few-y), omega (arith, s.few-x, mul-le-mul {n₁ = t.m} {m₁ = t.p} {n₂ = 32} {m₂ = 32} s.few-m s.few-p))

system-size : (t : Terms) → TermsFit system t → (t.m * t.k ≤ 256) × (t.m * columns t.m t.p ≤ 16)
unfolding columns
system-size t f =
    let s = (system-sides t.m t.k t.p).0 f.sides in
    let one : columns t.m t.p ≤ 1 = omega (arith, s.high) in (
      mul-le-mul {n₁ = t.m} {m₁ = t.k} {n₂ = 16} {m₂ = 16} s.few (omega (arith, s.few, s.k-is)),
      mul-le-mul {n₁ = t.m} {m₁ = columns t.m t.p} {n₂ = 16} {m₂ = 1} s.few one,
    )

pub sent-size : (kind : ℕ) (t : Terms) → kind_known kind ≡ true → TermsFit (kind_sort kind) t → message_size kind t ≤ most_sent
unfolding within kind_sort message_size message_layout
sent-size zero t k f = absurd (let l : 1 ≤ 0 = leb-true 1 0 (and_left _ _ k) in omega arith)
sent-size (suc zero) t k f = (product-size t f).0
sent-size (suc (suc zero)) t k f = (product-size t f).1
sent-size (suc (suc (suc zero))) t k f = omega (arith, (system-size t f).0)
sent-size (suc (suc (suc (suc zero)))) t k f = omega (arith, (system-size t f).0, (system-size t f).1)
sent-size (suc (suc (suc (suc (suc zero))))) t k f = omega (arith, (system-size t f).1)
sent-size (suc (suc (suc (suc (suc (suc zero)))))) t k f = omega arith
sent-size (suc (suc (suc (suc (suc (suc (suc n))))))) t k f =
    absurd (let l : suc (suc (suc (suc (suc (suc (suc n)))))) ≤ 6 = leb-true _ _ (and_right _ _ k) in omega arith)

-- ---- messages

below-words : (q : ℕ) (l : List ℕ) → q ≤ 2 ^ 32 → all_below q l ≡ true → Words l
unfolding all_below
below-words q [] h b = tt
below-words q (x ∷ l) h b = (let k : x < q = ltb-true x q (and_left _ _ b) in omega arith, below-words q l h (and_right _ _ b))

small-sides : (sort : Sort) {m k p : ℕ} → sides_fit sort m k p ≡ true → (m < 2 ^ 32) × (k < 2 ^ 32) × (p < 2 ^ 32)
small-sides product {m} {k} {p} e =
    let s = (product-sides m k p).0 e in
    (omega (arith, s.few-m), omega (arith, s.few-k), omega (arith, s.few-p))
small-sides system {m} {k} {p} e =
    let s = (system-sides m k p).0 e in
    (omega (arith, s.few), omega (arith, s.few, s.k-is), omega (arith, s.few, s.high))

module _ (a : Message) (session : a.head.terms.session.0 < 2 ^ 32) (tape : a.head.terms.tape.0 < 2 ^ 32) (fits : Pass (message_tests a)) where
  known : kind_known a.head.kind ≡ true
  unfolding message_tests
  known = here fits

  terms : TermsFit (kind_sort a.head.kind) a.head.terms
  unfolding message_tests
  terms = (terms-tests _ _).0 (split {ts = terms_tests (kind_sort a.head.kind) a.head.terms} (rest (rest fits))).0

  sides : (a.head.terms.m < 2 ^ 32) × (a.head.terms.k < 2 ^ 32) × (a.head.terms.p < 2 ^ 32)
  sides = small-sides (kind_sort a.head.kind) terms.sides

  words : Words (message_numbers a)
  unfolding message_tests within
  words =
      let r = (input-tests _ _ _).0 (split {ts = terms_tests (kind_sort a.head.kind) a.head.terms} (rest (rest fits))).1 in
      let kind : a.head.kind ≤ 6 = leb-true _ _ (and_right _ _ known) in (
        omega arith,
        (
          session,
          (
            tape,
            (
              omega (arith, terms.small),
              (sides.0, (sides.1, (sides.2, below-words a.head.terms.q a.residues (omega (arith, terms.small)) (residues-below r)))),
            ),
          ),
        ),
      )

  pub message-line-short : length (message_line a) ≤ 65536
  unfolding message_line message_tests
  message-line-short =
      let r = (input-tests _ _ _).0 (split {ts = terms_tests (kind_sort a.head.kind) a.head.terms} (rest (rest fits))).1 in
      let n : length a.residues ≤ most_sent = omega (arith, r.size, sent-size a.head.kind a.head.terms known terms) in
      omega (arith, line-short (message_numbers a) words)

  -- DEMAND 2: what is written reads back
  pub message-round-trip : read_message (message_line a) ≡ done a
  unfolding read_message message_line within
  message-round-trip = rw (line-reads-back (message_numbers a) words room) (accepts _ a (seven, fits.all))
    where
      seven : leb 7 (length (message_numbers a)) ≡ true
      seven = le-leb 7 (length (message_numbers a)) (omega arith)

      some : 1 ≤ length (line (message_numbers a))
      some = omega (arith, length-append (decimal a.head.kind) (44 ∷ line (drop 1 (message_numbers a))))

      room : within 1 65536 (length (line (message_numbers a))) ≡ true
      room = and_both (le-leb 1 _ some) (le-leb _ 65536 message-line-short)

-- and only lines that can be written are read: the line of that message, which fits its own head
pub message-was-read : (bs : List ℕ) (a : Message) → read_message bs ≡ done a → (bs ≡ message_line a) × Pass (message_tests a)
unfolding read_message parse_message message_tests
message-was-read bs a p = go (numbers_of bs) refl p
  where
    go : (r : Option (List ℕ)) → numbers_of bs ≡ r → read_from r ≡ done a → (bs ≡ message_line a) × Pass (message_tests a)
    go none e q = absurd (refused≢done q)
    go (some xs) e q =
        let (tests, same) = passed _ q in
        let parses : parse_message bs ≡ done a = rw e (accepts _ (message_from xs) (tests.0, (tests.1.0, tt)) ∙ ap done same) in
        (message-was-written bs a parses, subst (λ (m : Message). Pass (message_tests m)) same (record { all = tests.1 }))
