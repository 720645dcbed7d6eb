-- The longest line of a kind.
--   line_same       the bytes of a line of one number, written n times
--   line-most       a line of numbers below q has no more bytes than with q − 1 for each
--   longest-length  the bytes of the longest message's line, by its head and its residues
--   no-line-longer  no message of the kind, with these q, m, k, p, has a longer line
--   none-written-longer   the same of every message that passes its own tests
-- Assumes nothing.
use mathlib.Core.Path.{◌≡◌, ap, ap₂, ◌∙◌}
use mathlib.Core.Bool.{true}
use mathlib.Core.List.{List, [], ◌∷◌}
use Prim.Native.Nat.{ℕ, zero, suc, ◌+◌, ◌*◌, ◌-◌, ◌^◌, ◌≤◌, ◌<◌}
use native.Mathlib.Omega.{arith}
use lib.ListN.{length, length-append}
use borrow.Author.Tests.{ltb-true, leb-true, le-leb}
use Rattle.algebra.specs.Matrix.{tabulate, Residues}
use Rattle.algebra.proofs.Tests.{and_left, and_right, and_both}
use Rattle.protocol.specs.declared.Head.{Head}
use Rattle.protocol.specs.Bounds.{within, all_below, terms_tests}
use Rattle.protocol.specs.Message.{Message, message_with, kind_known, kind_sort, message_size, message_tests}
use Rattle.protocol.specs.Line.{decimal, end_byte, line, message_line}
use Rattle.protocol.proofs.Tests.{TermsFit, terms-tests, input-tests}
use Rattle.protocol.proofs.Judge.{Pass, split, here, rest}
use Rattle.protocol.proofs.Residues.{residues-below}
use Rattle.protocol.proofs.MessageRoundTrip.{sent-size}
use Rattle.decimal.specs.Writing.{head_numbers}
use Rattle.decimal.proofs.Powers.{length-le}
use Rattle.decimal.proofs.Stores.{before-length}
use Rattle.decimal.proofs.Messages.{message-bytes}
use Rattle.sizes.specs.Sizes.{largest_id, longest_terms, longest_message, kind_fits, longest_line}

-- ---- lines of residues

pub line_same : (n x : ℕ) → length (line (tabulate n (λ i. x))) ≡ n * (length (decimal x) + 1)
unfolding tabulate
line_same zero x = omega arith
line_same (suc n) x =
    omega (arith, line_same n x, length-append (decimal x) (end_byte (length (tabulate n (λ i. x))) ∷ line (tabulate n (λ i. x))))

pub line-most : (q : ℕ) (xs : List ℕ) → all_below q xs ≡ true → length (line xs) ≤ length xs * (length (decimal (q - 1)) + 1)
unfolding all_below
line-most q [] b = omega arith
line-most q (x ∷ xs) b =
    let h : x < q = ltb-true x q (and_left _ _ b) in
    let l : length (decimal x) ≤ length (decimal (q - 1)) = length-le x (q - 1) (omega arith) in
    let e = length-append (decimal x) (end_byte (length xs) ∷ line xs) in
    omega (arith, line-most q xs (and_right _ _ b), e)

-- ---- messages

-- the bytes of a head's numbers and of the residues
pub message-length : (h : Head) (rs : List ℕ) → length (message_line (message_with h rs)) ≡ length (line (head_numbers h)) + length (line rs)
message-length h rs = message-bytes h rs ∙ ap₂ (λ (a b : ℕ). a + b) (before-length (length rs) (head_numbers h)) (before-length 0 rs)

module _ (kind q m k p : ℕ) where
  pub longest-length : length (message_line (longest_message kind q m k p))
      ≡ length (line (kind ∷ largest_id ∷ largest_id ∷ q ∷ m ∷ k ∷ p ∷ [])) + message_size kind (longest_terms q m k p) * (length (decimal (q - 1)) + 1)
  unfolding longest_message
  longest-length =
      let t = longest_terms q m k p in
      message-length (record { kind = kind; terms = t }) (tabulate (message_size kind t) (λ i. q - 1))
      ∙ ap (λ (n : ℕ). length (line (kind ∷ largest_id ∷ largest_id ∷ q ∷ m ∷ k ∷ p ∷ [])) + n) (line_same (message_size kind t) (q - 1))

  -- what fits, one by one
  pub fit-kind : kind_fits kind q m k p ≡ true → kind_known kind ≡ true
  unfolding kind_fits
  fit-kind e = and_left _ _ e

  pub fit-terms : kind_fits kind q m k p ≡ true → TermsFit (kind_sort kind) (longest_terms q m k p)
  unfolding kind_fits within
  fit-terms e =
      let e1 = and_right _ _ e in
      let e2 = and_right _ _ e1 in
      record {
        session = omega arith;
        big = leb-true 2 q (and_left _ _ (and_left _ _ e1));
        small = leb-true q 2147483647 (and_right _ _ (and_left _ _ e1));
        field = and_left _ _ e2;
        sides = and_left _ _ (and_right _ _ e2);
        tape = omega arith;
      }

  pub few-residues : kind_fits kind q m k p ≡ true → message_size kind (longest_terms q m k p) ≤ 3072
  few-residues e = sent-size kind (longest_terms q m k p) (fit-kind e) (fit-terms e)

-- ---- no line is longer

line_first : (x : ℕ) (xs : List ℕ) → length (line (x ∷ xs)) ≡ length (decimal x) + 1 + length (line xs)
line_first x xs = omega (arith, length-append (decimal x) (end_byte (length xs) ∷ line xs))

-- session and tape number have at most as many digits as the largest
head-most : (kind session tape : ℕ) (rest : List ℕ) → session < 2 ^ 32 → tape < 2 ^ 32
    → length (line (kind ∷ session ∷ tape ∷ rest)) ≤ length (line (kind ∷ largest_id ∷ largest_id ∷ rest))
head-most kind session tape rest s t =
    let a = length-le session largest_id (omega arith) in
    let b = length-le tape largest_id (omega arith) in
    omega (
      arith,
      line_first kind (session ∷ tape ∷ rest),
      line_first session (tape ∷ rest),
      line_first tape rest,
      line_first kind (largest_id ∷ largest_id ∷ rest),
      line_first largest_id (largest_id ∷ rest),
      line_first largest_id rest,
    )

module _ (a : Message) (session : a.head.terms.session.0 < 2 ^ 32) (tape : a.head.terms.tape.0 < 2 ^ 32) where
  -- residues below q, as many as the kind and the sides give
  pub no-line-longer : kind_fits a.head.kind a.head.terms.q a.head.terms.m a.head.terms.k a.head.terms.p ≡ true
      → Residues a.head.terms.q (message_size a.head.kind a.head.terms) a.residues
      → length (message_line a) ≤ longest_line a.head.kind a.head.terms.q a.head.terms.m a.head.terms.k a.head.terms.p
  unfolding longest_line message_size
  no-line-longer fits r =
      let h = a.head in
      let t = h.terms in
      let whole = message-length h a.residues in
      let head = head-most h.kind t.session.0 t.tape.0 (t.q ∷ t.m ∷ t.k ∷ t.p ∷ []) session tape in
      let most : length (line a.residues) ≤ message_size h.kind t * (length (decimal (t.q - 1)) + 1) =
      rw r.size at (line-most t.q a.residues (residues-below r)) in
      rw fits (omega (arith, longest-length h.kind t.q t.m t.k t.p))

  -- every message that `write` writes, and that a reader takes
  pub none-written-longer : Pass (message_tests a)
      → length (message_line a) ≤ longest_line a.head.kind a.head.terms.q a.head.terms.m a.head.terms.k a.head.terms.p
  unfolding message_tests kind_fits within
  none-written-longer p =
      let h = a.head in
      let s = split {ts = terms_tests (kind_sort h.kind) h.terms} (rest (rest p)) in
      let t = (terms-tests _ _).0 s.0 in
      let modulus = and_both (le-leb 2 h.terms.q t.big) (le-leb h.terms.q 2147483647 t.small) in
      no-line-longer (and_both (here p) (and_both modulus (and_both t.field (and_both t.sides (here (rest p)))))) ((input-tests _ _ _).0 s.1)
