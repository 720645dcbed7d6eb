-- The words of a slot that a call looks at.
--   seen-length, seen-words, seen-inside   it is a slot where the slot is one, and has these words
--   seen-fits, seen-short                  where the sides fit: the half, or the whole slot where it has no room for the half
--   tape-seen, body-seen, room-seen        its tests are those of the slot
--   matrices-seen, in-use-seen, spent_seen, kept_seen   its matrices, and what a step leaves of it
-- Assumes nothing.
use mathlib.Core.Path.{◌≡◌, refl, sym, ap, ◌∙◌}
use mathlib.Core.Bool.{Bool, true, false, cond}
use mathlib.Core.List.{List, [], ◌∷◌, ◌++◌, append_assoc}
use Prim.Native.Nat.{ℕ, zero, suc, ◌+◌, ◌*◌, ◌/◌, ◌≤◌, ◌<◌}
use native.Mathlib.Nat.{div_self, div-zero}
use native.Mathlib.Omega.{arith}
use native.Mathlib.Decide.{dec_le, dec_lt}
use lib.Dec.{leb, ltb}
use lib.ListN.{length, get_or, take, drop, take-append-drop, length-take}
use lib.Seq.{get_or-take, take-take, take_all, drop-drop, length-take-le}
use borrow.Author.Tests.{le-leb, lt-leb, ltb-true, lt-ltb}
use Rattle.algebra.specs.Matrix.{zeros}
use Rattle.algebra.specs.Words.{over, written_at}
use Rattle.protocol.specs.declared.Terms.{Terms}
use Rattle.protocol.specs.Bounds.{sides_fit}
use Rattle.protocol.specs.Tape.{Slot, slot_at, is_slot, slot_words, pool_with, header_size, Role, sort_of, layout, body_size, tape_size, body, matrices, status_of, tape_tests, body_tests, with_status, words_in_use, spent, words_spent}
use Rattle.protocol.proofs.Slots.{slot-length, slot-room}
use Rattle.protocol.proofs.Matrices.{part-of-start}
use Rattle.tape.proofs.Slots.{zeros-count}
use Rattle.vectors.proofs.Written.{written-length}
use Rattle.local.specs.Seen.{least, half_size, seen_size, seen, behind}

-- ---- a pool of one slot

pub one-words : (ws : List ℕ) (n : ℕ) → length ws ≡ n → slot_words (slot_at ws n 0) ≡ ws
unfolding slot_words
one-words ws n e =
    let z : 0 * n ≡ 0 = omega arith in
    rw z (take_all n ws (omega arith))

pub one_inside : (ws : List ℕ) (n : ℕ) → length ws ≡ n → 0 < n → is_slot (slot_at ws n 0) ≡ true
unfolding is_slot
one_inside ws n e h = rw (e, div_self {n = n} h) (lt-ltb 0 1 (omega arith))

pub no-inside : is_slot (slot_at [] 0 0) ≡ false
unfolding is_slot
no-inside = refl

-- ---- how many words are looked at

pub least-left : (a b : ℕ) → a ≤ b → least a b ≡ a
unfolding least
least-left a b h = rw (le-leb a b h)

pub least-right : (a b : ℕ) → b < a → least a b ≡ b
unfolding least
least-right a b h = rw (lt-leb a b h)

pub least-below : (a b : ℕ) → (least a b ≤ a) × (least a b ≤ b)
least-below a b =
    elim (dec_le a b) [
      | yes h ↦ (omega (arith, least-left a b h), omega (arith, least-left a b h))
      | no h ↦ let g : b < a = omega arith in (omega (arith, least-right a b g), omega (arith, least-right a b g))
    ]

-- it is one of the two
least-some : (a b : ℕ) → 0 < a → 0 < b → 0 < least a b
least-some a b p r =
    elim (dec_le a b) [
      | yes h ↦ omega (arith, least-left a b h)
      | no h ↦ let g : b < a = omega arith in omega (arith, least-right a b g)
    ]

half-some : (role : Role) (t : Terms) → 0 < half_size role t
unfolding half_size tape_size
half-some role t = go (sides_fit (sort_of role) t.m t.k t.p)
  where
    go : (b : Bool) → 0 < cond b (header_size + body_size role t.m t.k t.p) header_size
    go true = omega arith
    go false = omega arith

size-some : (s : Slot) → is_slot s ≡ true → 0 < s.size
unfolding is_slot
size-some s e = go s.size refl
  where
    go : (n : ℕ) → s.size ≡ n → 0 < n
    go (suc n) f = omega arith
    go zero f =
        let z : length s.pool / s.size ≡ 0 = rw (f, div-zero) refl in
        let h : s.index < length s.pool / s.size = ltb-true _ _ e in
        absurd (omega (arith, z, h))

module _ (role : Role) (t : Terms) (s : Slot) where
  inside-size : is_slot s ≡ true → seen_size role t s ≡ least s.size (half_size role t)
  unfolding seen_size
  inside-size e = rw e refl

  pub outside-size : is_slot s ≡ false → seen_size role t s ≡ 0
  unfolding seen_size
  outside-size e = rw e refl

  pub seen-length : length (take (seen_size role t s) (slot_words s)) ≡ seen_size role t s
  seen-length = go (is_slot s) refl
    where
      go : (b : Bool) → is_slot s ≡ b → length (take (seen_size role t s) (slot_words s)) ≡ seen_size role t s
      go true e =
          length-take-le (seen_size role t s) (slot_words s) (omega (arith, slot-length s e, inside-size e, least-below s.size (half_size role t)))
      go false e = rw (outside-size e) refl

  pub seen-words : slot_words (seen role t s) ≡ take (seen_size role t s) (slot_words s)
  unfolding seen
  seen-words = one-words _ _ seen-length

  pub seen-inside : is_slot (seen role t s) ≡ is_slot s
  unfolding seen
  seen-inside = go (is_slot s) refl
    where
      go : (b : Bool) → is_slot s ≡ b → is_slot (slot_at (take (seen_size role t s) (slot_words s)) (seen_size role t s) 0) ≡ b
      go true e =
          one_inside _ _ seen-length (omega (arith, inside-size e, least-some s.size (half_size role t) (size-some s e) (half-some role t)))
      go false e = rw (outside-size e) no-inside

-- ---- where the sides fit, and the slot lies in its pool

module _ (role : Role) (t : Terms) (s : Slot) (sides : sides_fit (sort_of role) t.m t.k t.p ≡ true) (inside : is_slot s ≡ true) where
  half_is : half_size role t ≡ tape_size role t.m t.k t.p
  unfolding half_size
  half_is = rw sides refl

  pub seen-fits : tape_size role t.m t.k t.p ≤ s.size → seen_size role t s ≡ tape_size role t.m t.k t.p
  seen-fits h =
      elim (dec_le s.size (tape_size role t.m t.k t.p)) [
        | yes g ↦ inside-size role t s inside ∙ (ap (least s.size) half_is ∙ (least-left _ _ g ∙ omega arith))
        | no g ↦ inside-size role t s inside ∙ (ap (least s.size) half_is ∙ least-right _ _ (omega arith))
      ]

  pub seen-short : s.size < tape_size role t.m t.k t.p → seen_size role t s ≡ s.size
  seen-short h = inside-size role t s inside ∙ (ap (least s.size) half_is ∙ least-left _ _ (omega arith))

  whole_words : s.size < tape_size role t.m t.k t.p → slot_words (seen role t s) ≡ slot_words s
  whole_words h = seen-words role t s ∙ (ap (λ (n : ℕ). take n (slot_words s)) (seen-short h) ∙ take_all s.size (slot_words s) (omega (arith, slot-length s inside)))

  pub room-seen : leb (tape_size role t.m t.k t.p) (seen_size role t s) ≡ leb (tape_size role t.m t.k t.p) s.size
  room-seen =
      elim (dec_le (tape_size role t.m t.k t.p) s.size) [
        | yes h ↦ ap (leb (tape_size role t.m t.k t.p)) (seen-fits h)
            ∙ (le-leb (tape_size role t.m t.k t.p) (tape_size role t.m t.k t.p) (omega arith) ∙ sym (le-leb _ _ h))
        | no h ↦ ap (leb (tape_size role t.m t.k t.p)) (seen-short (omega arith))
      ]

  start : (n : ℕ) (ws : List ℕ) (status : ℕ) → header_size ≤ n → tape_tests role status t (take n ws) ≡ tape_tests role status t ws
  unfolding tape_tests status_of
  start n ws status h =
      rw (
        get_or-take n ws 0 0 (omega arith),
        get_or-take n ws 1 0 (omega arith),
        get_or-take n ws 2 0 (omega arith),
        get_or-take n ws 3 0 (omega arith),
        get_or-take n ws 4 0 (omega arith),
        get_or-take n ws 5 0 (omega arith),
        get_or-take n ws 6 0 (omega arith),
      ) refl

  pub tape-seen : (status : ℕ) → tape_tests role status t (slot_words (seen role t s)) ≡ tape_tests role status t (slot_words s)
  unfolding tape_size
  tape-seen status =
      elim (dec_le (tape_size role t.m t.k t.p) s.size) [
        | yes h ↦ ap (tape_tests role status t) (seen-words role t s) ∙ start (seen_size role t s) (slot_words s) status (omega (arith, seen-fits h))
        | no h ↦ ap (tape_tests role status t) (whole_words (omega arith))
      ]

  body_is : (n : ℕ) (ws : List ℕ) → n ≡ tape_size role t.m t.k t.p → body role t (take n ws) ≡ body role t ws
  unfolding body tape_size
  body_is n ws e = part-of-start (body_size role t.m t.k t.p) n header_size ws (omega arith)

  body_same : body role t (slot_words (seen role t s)) ≡ body role t (slot_words s)
  body_same =
      elim (dec_le (tape_size role t.m t.k t.p) s.size) [
        | yes h ↦ ap (body role t) (seen-words role t s) ∙ body_is _ _ (seen-fits h)
        | no h ↦ ap (body role t) (whole_words (omega arith))
      ]

  pub body-seen : body_tests role t (slot_words (seen role t s)) ≡ body_tests role t (slot_words s)
  unfolding body_tests
  body-seen = rw body_same refl

  pub matrices-seen : matrices role t (slot_words (seen role t s)) ≡ matrices role t (slot_words s)
  unfolding matrices
  matrices-seen = rw body_same refl

-- ---- what a step leaves

in-use-split : (n : ℕ) (ws : List ℕ) → 0 < n → words_in_use ws ≡ words_in_use (take n ws) ++ drop n ws
unfolding words_in_use with_status written_at over
in-use-split zero ws h = absurd (omega arith)
in-use-split (suc n) [] h = refl
in-use-split (suc n) (x ∷ ws) h = ap (λ (l : List ℕ). 2 ∷ l) (sym (take-append-drop n ws))

drop-split : (k n : ℕ) (l : List ℕ) → k ≤ n → drop k (take n l) ++ drop n l ≡ drop k l
drop-split zero n l h = take-append-drop n l
drop-split (suc k) zero l h = absurd (omega arith)
drop-split (suc k) (suc n) [] h = refl
drop-split (suc k) (suc n) (x ∷ l) h = drop-split k n l (omega arith)

written-split : (a n : ℕ) (x ws : List ℕ) → a + length x ≤ n → written_at a x ws ≡ written_at a x (take n ws) ++ drop n ws
unfolding written_at over
written-split a n x ws h =
    sym (append_assoc (take a (take n ws)) (x ++ drop (length x) (drop a (take n ws))) (drop n ws)
    ∙ (ap (λ (z : List ℕ). z ++ ((x ++ drop (length x) (drop a (take n ws))) ++ drop n ws)) (take-take a n ws (omega arith))
    ∙ ap (λ (z : List ℕ). take a ws ++ z)
    (append_assoc x (drop (length x) (drop a (take n ws))) (drop n ws)
    ∙ ap (λ (z : List ℕ). x ++ z)
    (ap (λ (z : List ℕ). z ++ drop n ws) (drop-drop (length x) a (take n ws)) ∙ drop-split (a + length x) n ws h ∙ sym (drop-drop (length x) a ws)))))

status-split : (v : ℕ) (ws us : List ℕ) → 0 < length ws → with_status v (ws ++ us) ≡ with_status v ws ++ us
unfolding with_status written_at over
status-split v [] us h = absurd (omega arith)
status-split v (x ∷ ws) us h = refl

spent-split : (role : Role) (t : Terms) (n : ℕ) (ws : List ℕ) → n ≡ tape_size role t.m t.k t.p → n ≤ length ws
    → words_spent role t ws ≡ words_spent role t (take n ws) ++ drop n ws
unfolding words_spent spent tape_size
spent-split role t n ws half fits =
    let size = body_size role t.m t.k t.p in
    let count : length (take n ws) ≡ n = length-take-le n ws fits in
    let long : length (written_at header_size (zeros size) (take n ws)) ≡ length (take n ws) = written-length header_size (zeros size) (take n ws) (omega (arith, zeros-count size, count)) in
    ap (with_status 3) (written-split header_size n (zeros size) ws (omega (arith, zeros-count size)))
    ∙ status-split 3 (written_at header_size (zeros size) (take n ws)) (drop n ws) (omega (arith, long, count))

-- the half has its place in the slot
module _ (role : Role) (t : Terms) (s : Slot) (sides : sides_fit (sort_of role) t.m t.k t.p ≡ true) (inside : is_slot s ≡ true)
    (room : tape_size role t.m t.k t.p ≤ s.size) where
  pub in-use-seen : words_in_use (slot_words s) ≡ words_in_use (slot_words (seen role t s)) ++ behind role t s
  unfolding behind tape_size
  in-use-seen = rw (seen-words role t s) (in-use-split (seen_size role t s) (slot_words s) (omega (arith, seen-fits role t s sides inside room)))

  pub spent_seen : words_spent role t (slot_words s) ≡ words_spent role t (slot_words (seen role t s)) ++ behind role t s
  unfolding behind
  spent_seen =
      let n = seen-fits role t s sides inside room in
      rw (seen-words role t s) (spent-split role t _ _ n (omega (arith, n, slot-length s inside)))

  pub kept_seen : slot_words s ≡ slot_words (seen role t s) ++ behind role t s
  unfolding behind
  kept_seen = rw (seen-words role t s) (sym (take-append-drop (seen_size role t s) (slot_words s)))
