-- The tests that steps share, on what a call looks at.
--   first-seen, open-seen, later-seen   the same tests, where the sides fit and the slot lies in its pool
--   both-no, early-size, early-turn     elsewhere: a refusal by 4 or by 5 applies, whatever is looked at
--   message-cases, opening-cases, session-cases, first-cases   what can be the case
--   opening-judged                      a first step's tests are judged alike on the message that it looks at
--   message-whole, opening-whole, words-whole   what fits is looked at whole
--   few-reply                           how many residues later messages of a system have at most
-- Assumes nothing.
use mathlib.Core.Path.{◌≡◌, refl, sym, ap, subst, ◌∙◌}
use mathlib.Core.Bool.{Bool, true, false, cond, false≢true}
use mathlib.Core.List.{List, [], ◌∷◌, ◌++◌}
use Prim.Native.Nat.{ℕ, zero, suc, ◌+◌, ◌*◌, ◌-◌, ◌≤◌, ◌<◌}
use native.Mathlib.Nat.{mul-le-mul}
use native.Mathlib.Omega.{arith}
use lib.Dec.{leb, eqb}
use lib.ListN.{length, take, drop, length-drop}
use lib.Seq.{take_all, length-take-le}
use borrow.Author.Tests.{ne_eqb, eqb-true, le-leb, leb-true, leb-false}
use Rattle.algebra.specs.Count.{both, total}
use Rattle.protocol.specs.declared.Terms.{Terms}
use Rattle.protocol.specs.declared.Refusal.{Refusal}
use Rattle.protocol.specs.declared.Refusal.TheVariants.{Form, Modulus, Composite, Size, Turn, Mark, Stranger, Residue, Dry, Singular}
use Rattle.protocol.specs.Judge.{place_of, place_in, Test, needs, given, clear, Judged, refused, done, judge}
use Rattle.protocol.specs.Bounds.{Sort, product, system, columns, within, field_fits, sides_fit, shape_tests, terms_tests, input_tests, room_tests, most_residues}
use Rattle.protocol.specs.Tape.{Slot, slot_at, is_slot, slot_words, Role, sort_of, tape_size, slot_tests, half_tests, tape_tests, body_tests}
use Rattle.protocol.specs.Message.{Message, message_with, kind_known, kind_sort, last_kind, last_fits, message_layout, message_size, message_tests, due_tests}
use Rattle.protocol.specs.Line.{most_sent}
use Rattle.protocol.specs.System.{side_size}
use Rattle.protocol.specs.Step.{first_tests, is_open, open_tests, later_tests}
use Rattle.algebra.proofs.Tests.{and_left, and_right}
use Rattle.protocol.proofs.Judge.{earlier, clear-append}
use Rattle.protocol.proofs.Tests.{product-sides, system-sides, MessageFits}
use Rattle.tape.proofs.Sides.{Sides, sides-of}
use Rattle.judging.proofs.KindLaws.{few-columns, last-system}
use Rattle.judging.specs.InOrder.{judged}
use Rattle.local.proofs.Outcomes.{early}
use Rattle.local.specs.Seen.{seen_size, seen, seen_words, seen_message, most_reply}
use Rattle.local.specs.Seen.{sent_size, is_reply, shrunk, opening_head, opening_count, opening_message}
use Rattle.local.proofs.Slots.{seen-inside, room-seen, tape-seen, body-seen}

-- ---- where the sides fit and the slot lies in its pool

module _ (role : Role) (t : Terms) (s : Slot) (sides : sides_fit (sort_of role) t.m t.k t.p ≡ true) (inside : is_slot s ≡ true) where
  slot_seen : slot_tests (seen role t s) ≡ slot_tests s
  unfolding slot_tests
  slot_seen = rw (seen-inside role t s) refl

  half-seen : half_tests role t.m t.k t.p (seen role t s) ≡ half_tests role t.m t.k t.p s
  unfolding half_tests seen
  half-seen = rw (room-seen role t s sides inside) refl

  pub first-seen : first_tests role t (seen role t s) ≡ first_tests role t s
  unfolding first_tests
  first-seen = rw (slot_seen, half-seen, tape-seen role t s sides inside 1, body-seen role t s sides inside) refl

  pub open-seen : (due : ℕ) → open_tests role due t (seen role t s) ≡ open_tests role due t s
  unfolding open_tests
  open-seen due = rw (slot_seen, half-seen, tape-seen role t s sides inside 2) refl

  pub later-seen : (kind due : ℕ) → later_tests role kind due t (seen role t s) ≡ later_tests role kind due t s
  unfolding later_tests
  later-seen kind due = rw (open-seen due, body-seen role t s sides inside) refl

-- ---- elsewhere

-- for `simp`, where a test in the middle of a list fails
pub both-no : (a : Bool) → both a false ≡ false
unfolding both
both-no true = refl
both-no false = refl

-- ---- two lists up to 4, and up to 5

pub early-size : (ts us : List Test) → clear Form ts ≡ clear Form us → clear Modulus ts ≡ clear Modulus us → clear Composite ts ≡ clear Composite us
    → clear Size ts ≡ false → clear Size us ≡ false → judged ts ≡ judged us
unfolding place_of place_in
early-size ts us f m c e g =
    early ts us Size (earlier (λ r. clear r ts ≡ clear r us) Size (omega arith) (f, (m, (c, tt)))) e g

pub early-turn : (ts us : List Test) → clear Form ts ≡ clear Form us → clear Modulus ts ≡ clear Modulus us → clear Composite ts ≡ clear Composite us
    → clear Size ts ≡ clear Size us → clear Turn ts ≡ false → clear Turn us ≡ false → judged ts ≡ judged us
unfolding place_of place_in
early-turn ts us f m c z e g =
    early ts us Turn (earlier (λ r. clear r ts ≡ clear r us) Turn (omega arith) (f, (m, (c, (z, tt))))) e g

-- ---- a message that is longer than any

mul-pos : {a b : ℕ} → 0 < a → 0 < b → 0 < a * b
mul-pos {a} {b} h k = mul-le-mul {n₁ = 1} {m₁ = 1} {n₂ = a} {m₂ = b} h k

-- n by n, and n by one column or none
system-bounds : (t : Terms) → sides_fit system t.m t.k t.p ≡ true
    → (0 < t.m * t.k) × (t.m * t.k ≤ 256) × (t.m * (t.p - t.m) ≤ 16)
system-bounds t f =
    let s = (system-sides t.m t.k t.p).0 f in
    let most : t.p - t.m ≤ 1 = omega (arith, s.high) in
    let mk : t.k ≡ t.m = s.k-is in (
      mul-pos s.some (omega (arith, s.some, mk)),
      mul-le-mul {n₁ = t.m} {m₁ = t.k} {n₂ = 16} {m₂ = 16} s.few (omega (arith, s.few, mk)),
      mul-le-mul {n₁ = t.m} {m₁ = t.p - t.m} {n₂ = 16} {m₂ = 1} s.few most,
    )

-- a message of kind 5 has the one column
side-some : (t : Terms) → sides_fit system t.m t.k t.p ≡ true → eqb 5 (last_kind t.m t.p) ≡ true → 0 < t.m * (t.p - t.m)
side-some t f l =
    let s = (system-sides t.m t.k t.p).0 f in
    let other : t.p ≡ t.m → ⊥ = last-system t.m t.p (sym (eqb-true 5 (last_kind t.m t.p) l)) in
    mul-pos s.some (omega (arith, s.low, other))

-- the count of a message whose sides fit; only of kind 2 it may be more than most_residues
size-bounds : (kind : ℕ) (t : Terms) → kind_known kind ≡ true → last_fits kind t.m t.p ≡ true → sides_fit (kind_sort kind) t.m t.k t.p ≡ true
    → (0 < message_size kind t) × (message_size kind t ≤ most_sent) × (eqb kind 2 ≡ false → message_size kind t ≤ most_residues)
unfolding within kind_sort last_fits message_size message_layout columns
size-bounds zero t k o f = absurd (let l : 1 ≤ 0 = leb-true 1 0 (and_left _ _ k) in omega arith)
size-bounds (suc zero) t k o f =
    let s = (product-sides t.m t.k t.p).0 f in
    (mul-pos s.some-k s.some-p, omega (arith, s.few-y), λ n. s.few-y)
size-bounds (suc (suc zero)) t k o f =
    let s = (product-sides t.m t.k t.p).0 f in
    let mk : 0 < t.m * t.k = mul-pos s.some-m s.some-k in
    let mp : t.m * t.p ≤ 1024 = mul-le-mul {n₁ = t.m} {m₁ = t.p} {n₂ = 32} {m₂ = 32} s.few-m s.few-p in
    (omega (arith, mk), omega (arith, s.few-x, mp), λ n. absurd (false≢true (sym n)))
size-bounds (suc (suc (suc zero))) t k o f = let b = system-bounds t f in (b.0, omega (arith, b.1), λ n. omega (arith, b.1))
size-bounds (suc (suc (suc (suc zero)))) t k o f =
    let b = system-bounds t f in
    (omega (arith, b.0), omega (arith, b.1, b.2), λ n. omega (arith, b.1, b.2))
size-bounds (suc (suc (suc (suc (suc zero))))) t k o f =
    let b = system-bounds t f in
    (side-some t f o, omega (arith, b.2), λ n. omega (arith, b.2))
size-bounds (suc (suc (suc (suc (suc (suc zero)))))) t k o f = (omega arith, omega arith, λ n. omega arith)
size-bounds (suc (suc (suc (suc (suc (suc (suc n))))))) t k o f =
    absurd (let l : suc (suc (suc (suc (suc (suc (suc n)))))) ≤ 6 = leb-true _ _ (and_right _ _ k) in omega arith)

-- ---- what can be the case of a call that takes a message

-- its head's sides fit
abbrev pub head_fits : Message → Bool
head_fits a = sides_fit (kind_sort a.head.kind) a.head.terms.m a.head.terms.k a.head.terms.p

-- and are those of its kind, where it is a last one
abbrev pub head_last : Message → Bool
head_last a = last_fits a.head.kind a.head.terms.m a.head.terms.p

-- and its count of residues
abbrev pub head_size : Message → ℕ
head_size a = message_size a.head.kind a.head.terms

abbrev pub head_counts : Message → Bool
head_counts a = eqb (length a.residues) (head_size a)

module _ (P : Message → Type 0) (a : Message) where
  kept-is : leb (length a.residues) most_sent ≡ true → P a → P (seen_message a)
  unfolding seen_message
  kept-is e h = rw e h

  empty-is : leb (length a.residues) most_sent ≡ false → P (message_with a.head []) → P (seen_message a)
  unfolding seen_message
  empty-is e h = rw e h

  -- a message that is longer than any has wrong sides or a wrong count, and so has an empty one
  pub message-cases : kind_known a.head.kind ≡ true
      → (head_last a ≡ false → P (message_with a.head []))
      → (head_fits a ≡ false → P (message_with a.head []))
      → (head_counts a ≡ false → eqb 0 (head_size a) ≡ false → P (message_with a.head []))
      → P a
      → P (seen_message a)
  message-cases known wrong-last wrong-sides wrong-count fits = go (leb (length a.residues) most_sent) refl
    where
      counts : (b c : Bool) → head_fits a ≡ b → head_last a ≡ c → most_sent < length a.residues → P (message_with a.head [])
      counts b false e o l = wrong-last o
      counts false true e o l = wrong-sides e
      counts true true e o l =
          let z = size-bounds a.head.kind a.head.terms known o e in
          wrong-count (ne_eqb (length a.residues) (head_size a) (λ f. omega (arith, l, z.1, f))) (ne_eqb 0 (head_size a) (λ f. omega (arith, z.0, f)))

      go : (b : Bool) → leb (length a.residues) most_sent ≡ b → P (seen_message a)
      go true e = kept-is e fits
      go false e = empty-is e (counts (head_fits a) (head_last a) refl refl (leb-false (length a.residues) most_sent e))

-- ---- the message of a first step

-- a long one of kind 2, with sides 1 and as many residues as these have
abbrev pub short : Message → Message
short a = message_with (shrunk a.head) (take 2 a.residues)

module _ (a : Message) where
  abbrev is-reply : Bool
  is-reply = is_reply a.head (length a.residues)

  reply-size : a.head.kind ≡ 2 → sent_size a.head ≡ cond (head_fits a) (head_size a) 0
  unfolding sent_size kind_sort
  reply-size k = rw k refl

  -- a reply has sides that fit and the right count
  reply-fits : 0 < length a.residues → is-reply ≡ true → (a.head.kind ≡ 2) × (head_fits a ≡ true) × (head_counts a ≡ true)
  unfolding is_reply
  reply-fits some r = go (head_fits a) refl (subst (λ (n : ℕ). eqb (length a.residues) n ≡ true) (reply-size two) (and_right _ _ r))
    where
      two : a.head.kind ≡ 2
      two = eqb-true a.head.kind 2 (and_left _ _ r)

      go : (b : Bool) → head_fits a ≡ b → eqb (length a.residues) (cond b (head_size a) 0) ≡ true
          → (a.head.kind ≡ 2) × (head_fits a ≡ true) × (head_counts a ≡ true)
      go true e f = (two, e, f)
      go false e f = absurd (let z : length a.residues ≡ 0 = eqb-true _ 0 f in omega (arith, some, z))

  reply-counts : a.head.kind ≡ 2 → head_fits a ≡ true → is-reply ≡ head_counts a
  unfolding is_reply both
  reply-counts k e = rw (reply-size k, e, k) refl

  short-fits : a.head.kind ≡ 2 → head_fits (short a) ≡ true
  unfolding shrunk kind_sort sides_fit within both
  short-fits k = rw k refl

  short-last : a.head.kind ≡ 2 → head_last a ≡ head_last (short a)
  unfolding shrunk last_fits
  short-last k = rw k refl

  short-counts : a.head.kind ≡ 2 → 2 ≤ length a.residues → head_counts (short a) ≡ true
  unfolding shrunk message_size message_layout
  short-counts k l = rw (k, length-take-le 2 a.residues l) refl

  -- of the other kinds none with sides that fit is as long
  long-counts : kind_known a.head.kind ≡ true → head_last a ≡ true → head_fits a ≡ true → most_residues < length a.residues → is-reply ≡ false
      → head_counts a ≡ false
  long-counts known o e l r = go (eqb a.head.kind 2) refl
    where
      go : (b : Bool) → eqb a.head.kind 2 ≡ b → head_counts a ≡ false
      go true k = sym (reply-counts (eqb-true a.head.kind 2 k) e) ∙ r
      go false k =
          let z = (size-bounds a.head.kind a.head.terms known o e).2 k in
          ne_eqb (length a.residues) (head_size a) (λ f. omega (arith, l, z, f))

module _ (P : Message → Type 0) (a : Message) where
  opened-is : leb (length a.residues) most_residues ≡ true → P a → P (opening_message a)
  unfolding opening_message opening_head opening_count
  opened-is e h = rw (e, take_all (length a.residues) a.residues (omega arith)) h

  reply-is : leb (length a.residues) most_residues ≡ false → is-reply a ≡ true → P (short a) → P (opening_message a)
  unfolding opening_message opening_head opening_count
  reply-is e r h = rw (e, r) h

  other-is : leb (length a.residues) most_residues ≡ false → is-reply a ≡ false → P (message_with a.head []) → P (opening_message a)
  unfolding opening_message opening_head opening_count
  other-is e r h = rw (e, r) h

  -- a message that is longer than any of kind 1 has wrong sides or a wrong count, and so has an empty one; or it is of kind 2, and its short one fits as well
  pub opening-cases : kind_known a.head.kind ≡ true
      → (head_last a ≡ false → P (message_with a.head []))
      → (head_fits a ≡ false → P (message_with a.head []))
      → (head_counts a ≡ false → eqb 0 (head_size a) ≡ false → P (message_with a.head []))
      → (a.head.kind ≡ 2 → head_last a ≡ head_last (short a) → head_fits a ≡ head_fits (short a) → head_counts a ≡ head_counts (short a) → P (short a))
      → P a
      → P (opening_message a)
  opening-cases known wrong-last wrong-sides wrong-count reply fits = go (leb (length a.residues) most_residues) (is-reply a) refl refl
    where
      counts : (b c : Bool) → head_fits a ≡ b → head_last a ≡ c → most_residues < length a.residues → is-reply a ≡ false → P (message_with a.head [])
      counts b false e o l r = wrong-last o
      counts false true e o l r = wrong-sides e
      counts true true e o l r =
          let z = (size-bounds a.head.kind a.head.terms known o e).0 in
          wrong-count (long-counts a known o e l r) (ne_eqb 0 (head_size a) (λ f. omega (arith, z, f)))

      go : (b c : Bool) → leb (length a.residues) most_residues ≡ b → is-reply a ≡ c → P (opening_message a)
      go true c e r = opened-is e fits
      go false true e r =
          let l = leb-false (length a.residues) most_residues e in
          let f = reply-fits a (omega (arith, l)) r in
          reply-is e r (reply f.0 (short-last a f.0) (f.1 ∙ sym (short-fits a f.0)) (f.2 ∙ sym (short-counts a f.0 (omega (arith, l)))))
      go false false e r = other-is e r (counts (head_fits a) (head_last a) refl refl (leb-false (length a.residues) most_residues e) r)

-- the tests of a first step: `us` stand between those of its message, and `vs` after them
abbrev pub opening : Terms → (us vs : List Test) → Message → List Test
opening t us vs a = message_tests a ++ (us ++ (due_tests 1 t a ++ vs))

due-cut : (t : Terms) (us vs : List Test) (r : Refusal) (a : Message)
    → clear r (us ++ (due_tests 1 t a ++ vs)) ≡ both (clear r us) (clear r (due_tests 1 t a ++ vs))
due-cut t us vs r a = clear-append r us (due_tests 1 t a ++ vs)

-- where the messages differ, both are refused alike, by 4 or 5 at the latest
pub opening-judged : (t : Terms) (us vs : List Test) (a : Message) → kind_known a.head.kind ≡ true
    → judged (opening t us vs a) ≡ judged (opening t us vs (opening_message a))
unfolding message_tests terms_tests shape_tests input_tests due_tests shrunk clear both
opening-judged t us vs a known =
    let ts = opening t us vs in
    let none = message_with a.head [] in
    let b = short a in
    let cut = due-cut t us vs in
    opening-cases (λ c. judged (ts a) ≡ judged (ts c)) a known
    (λ h. early-size (ts a) (ts none) refl refl refl (rw h) (rw h))
    (λ h. early-size (ts a) (ts none) refl refl refl (rw h (simp both-no)) (rw h (simp both-no)))
    (λ h g. early-size (ts a) (ts none) refl refl refl (rw h (simp both-no)) (rw g (simp both-no)))
    (λ k o e f.
    let other : eqb a.head.kind 1 ≡ false = rw k refl in
    early-turn (ts a) (ts b) (rw (cut Form a, cut Form b) refl) (rw (cut Modulus a, cut Modulus b) refl) (rw (cut Composite a, cut Composite b) refl)
    (rw (o, e, f, cut Size a, cut Size b) refl) (rw (cut Turn a, other) (both-no (clear Turn us))) (rw (cut Turn b, other) (both-no (clear Turn us))))
    refl

-- the session of a later step or a drop: closed, its sides don't fit, its slot isn't in the pool, or none of these
pub session-cases : {P : Type 0} (role : Role) (due : ℕ) (t : Terms) (s : Slot)
    → (is_open due ≡ false → P)
    → (is_open due ≡ true → sides_fit (sort_of role) t.m t.k t.p ≡ false → P)
    → (is_open due ≡ true → is_slot s ≡ false → P)
    → (sides_fit (sort_of role) t.m t.k t.p ≡ true → is_slot s ≡ true → P)
    → P
session-cases {P} role due t s closed wrong-sides outside fits = go (is_open due) refl
  where
    inner : (b c : Bool) → sides_fit (sort_of role) t.m t.k t.p ≡ b → is_slot s ≡ c → is_open due ≡ true → P
    inner false c e f o = wrong-sides o e
    inner true false e f o = outside o f
    inner true true e f o = fits e f

    go : (b : Bool) → is_open due ≡ b → P
    go false o = closed o
    go true o = inner (sides_fit (sort_of role) t.m t.k t.p) (is_slot s) refl refl o

-- the same of a first step, whose input may be longer than any
pub first-cases : (P : List ℕ → Type 0) (role : Role) (t : Terms) (s : Slot) (input : List ℕ)
    → ((l : List ℕ) → sides_fit (sort_of role) t.m t.k t.p ≡ false → P l)
    → ((l : List ℕ) → is_slot s ≡ false → P l)
    → (most_residues < length input → sides_fit (sort_of role) t.m t.k t.p ≡ true → P [])
    → (sides_fit (sort_of role) t.m t.k t.p ≡ true → is_slot s ≡ true → P input)
    → P (seen_words input)
unfolding seen_words
first-cases P role t s input wrong-sides outside long fits = go (sides_fit (sort_of role) t.m t.k t.p) (is_slot s) refl refl
  where
    inner : (b : Bool) → leb (length input) most_residues ≡ b → sides_fit (sort_of role) t.m t.k t.p ≡ true → is_slot s ≡ true
        → P (cond b input [])
    inner true l e f = fits e f
    inner false l e f = long (leb-false (length input) most_residues l) e

    go : (b c : Bool) → sides_fit (sort_of role) t.m t.k t.p ≡ b → is_slot s ≡ c → P (cond (leb (length input) most_residues) input [])
    go false c e f = wrong-sides _ e
    go true false e f = outside _ f
    go true true e f = inner (leb (length input) most_residues) refl e f

-- a message that fits is looked at whole
pub few-sent : (sort : Sort) (kind : ℕ) (t : Terms) → sides_fit sort t.m t.k t.p ≡ true → message_size kind t ≤ most_sent
unfolding message_size message_layout
few-sent sort kind t e = go (eqb kind 1) (eqb kind 2) (eqb kind 3) (eqb kind 4) (eqb kind 5)
  where
    z : Sides t.m t.k t.p
    z = sides-of sort t.m t.k t.p e

    c : t.m * columns t.m t.p ≤ t.m * t.p
    c = few-columns t.m t.p

    go : (a b c d f : Bool) → total (cond a (t.k * t.p ∷ []) (cond b (t.m * t.k ∷ t.m * t.p ∷ []) (cond c (t.m * t.k ∷ [])
        (cond d (t.m * t.k ∷ t.m * columns t.m t.p ∷ []) (cond f (t.m * columns t.m t.p ∷ []) (1 ∷ [])))))) ≤ most_sent
    go true b c' d f = omega (arith, z.few-kp)
    go false true c' d f = omega (arith, z.few-mk, z.few-mp)
    go false false true d f = omega (arith, z.few-mk)
    go false false false true f = omega (arith, z.few-mk, z.few-mp, c)
    go false false false false true = omega (arith, z.few-mp, c)
    go false false false false false = omega arith

pub message-whole : (sort : Sort) (kind : ℕ) (t : Terms) (a : Message) → sides_fit sort t.m t.k t.p ≡ true → MessageFits kind t a → seen_message a ≡ a
unfolding seen_message
message-whole sort kind t a e f =
    rw (le-leb (length a.residues) most_sent (omega (arith, f.residues.size, few-sent sort kind t e))) refl

pub opening-whole : (sort : Sort) (t : Terms) (a : Message) → sides_fit sort t.m t.k t.p ≡ true → MessageFits 1 t a → opening_message a ≡ a
unfolding message_size message_layout
opening-whole sort t a e f =
    let z = sides-of sort t.m t.k t.p e in
    opened-is (λ (b : Message). b ≡ a) a (le-leb (length a.residues) most_residues (omega (arith, f.residues.size, z.few-kp))) refl

-- and an input
pub words-whole : (l : List ℕ) → length l ≤ most_residues → seen_words l ≡ l
unfolding seen_words
words-whole l h = rw (le-leb (length l) most_residues h) refl

-- X and Y have residues
pub some-mk : (sort : Sort) (t : Terms) → sides_fit sort t.m t.k t.p ≡ true → 0 < t.m * t.k
some-mk product t e = let s = (product-sides t.m t.k t.p).0 e in mul-pos s.some-m s.some-k
some-mk system t e = (system-bounds t e).0

pub some-kp : (sort : Sort) (t : Terms) → sides_fit sort t.m t.k t.p ≡ true → 0 < t.k * t.p
some-kp product t e = let s = (product-sides t.m t.k t.p).0 e in mul-pos s.some-k s.some-p
some-kp system t e =
    let s = (system-sides t.m t.k t.p).0 e in
    mul-pos (omega (arith, s.some, s.k-is)) (omega (arith, s.some, s.low))

-- a system's matrix, and the vector behind it
pub cut-length : (n : ℕ) (l : List ℕ) → length l ≤ n + length (drop n l)
cut-length n l = omega (arith, length-drop n l)

pub few-square : (t : Terms) → sides_fit system t.m t.k t.p ≡ true
    → (0 < t.m * t.m) × (t.m * t.p ≤ 272) × (t.m * t.m ≤ 256) × (side_size t ≤ 16)
unfolding side_size columns
few-square t e =
    let s = (system-sides t.m t.k t.p).0 e in
    let b = system-bounds t e in (
      mul-pos s.some s.some,
      mul-le-mul {n₁ = t.m} {m₁ = t.p} {n₂ = 16} {m₂ = 17} s.few (omega (arith, s.few, s.high)),
      mul-le-mul {n₁ = t.m} {m₁ = t.m} {n₂ = 16} {m₂ = 16} s.few s.few,
      b.2,
    )

-- kinds 3 to 6
pub few-reply : (t : Terms) → sides_fit system t.m t.k t.p ≡ true
    → (message_size 3 t ≤ most_reply) × (message_size 4 t ≤ most_reply) × (message_size 5 t ≤ most_reply) × (message_size 6 t ≤ most_reply)
unfolding message_size message_layout columns
few-reply t e = let b = system-bounds t e in (omega (arith, b.1), omega (arith, b.1, b.2), omega (arith, b.2), omega arith)
