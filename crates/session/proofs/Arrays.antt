-- Arrays that words are copied into. Assumes nothing.
--   copied, copied-start, copied-end   an array filled by a copy, of a list or of its first or last words
--   kept-start                   a list at the start of an array of zeros
--   joined                       an array filled by two copies, one behind the other
--   take_past, drop_past, least-part   parts that end or start behind a list
use mathlib.Core.Path.{◌≡◌, refl, sym, ap, ◌∙◌}
use mathlib.Core.List.{List, ◌++◌}
use Prim.Native.Nat.{ℕ, min, ◌+◌, ◌-◌, ◌≤◌}
use native.Mathlib.Omega.{arith}
use native.Mathlib.Decide.{dec_le}
use lib.ListN.{length, take, drop, replicate, length-append, length-drop, drop_of_length-le}
use lib.Seq.{take_all, length-take-le}
use borrow.Rule.Slice.PartMut.{mid_of, put_mid}
use Rattle.algebra.specs.Words.{over}
use Rattle.protocol.specs.System.{padded}
use Rattle.vectors.specs.Fill.{first_words}
use Rattle.vectors.proofs.Fill.{first-words}
use Rattle.vectors.proofs.Written.{after-over, part_then}
use Rattle.blinder.proofs.Kept.{kept-array}
use Rattle.local.proofs.Lists.{over-whole}

all_words : (n : ℕ) (l : List ℕ) → length l ≡ n → first_words n l ≡ l
all_words n l h = first-words n l (omega arith) ∙ take_all n l (omega arith)

pub copied : (n : ℕ) (l d out : List ℕ) → length l ≡ n → length d ≡ n → out ≡ over (first_words n l) d → out ≡ l
copied n l d out h k e = e ∙ (rw (all_words n l h) (over-whole l d (omega arith)))

-- the first words of a longer list
pub copied-start : (n : ℕ) (l d out : List ℕ) → n ≤ length l → length d ≡ n → out ≡ over (first_words n l) d → out ≡ take n l
copied-start n l d out h k e = e ∙ (rw (first-words n l h) (over-whole (take n l) d (omega (arith, length-take-le n l h))))

-- the last words
pub copied-end : (m n : ℕ) (l d out : List ℕ) → length l ≡ m + n → length d ≡ n → out ≡ over (first_words n (take n (drop m l))) d → out ≡ drop m l
copied-end m n l d out h k e =
    let len : length (drop m l) ≡ n = omega (arith, length-drop m l) in
    let all : take n (drop m l) ≡ drop m l = take_all n (drop m l) (omega arith) in
    copied n (drop m l) d out len k (e ∙ (rw all))

-- a list at the start of an array of zeros
pub kept-start : (n size : ℕ) (l out : List ℕ) → length l ≡ n → out ≡ over (first_words n l) (replicate size 0) → out ≡ padded size l
kept-start n size l out h e = kept-array size l out (e ∙ (rw h))

-- two lists, one behind the other
pub joined : (m n : ℕ) (k l d out ys : List ℕ) → length k ≡ m → length l ≡ n → length d ≡ m + n
    → out ≡ over (first_words m k) d → ys ≡ over (first_words n l) (mid_of m n out) → put_mid m n out ys ≡ k ++ l
joined m n k l d out ys hk hl hd e f =
    let first : out ≡ over k d = e ∙ (rw (all_words m k hk)) in
    let len : length out ≡ length d = after-over k d first (omega arith) in
    let left : n ≡ length out - m = omega arith in
    let second : ys ≡ over l (mid_of m n out) = f ∙ ap (λ (w : List ℕ). over w (mid_of m n out)) (all_words n l hl) in
    let both : put_mid m (length out - m) out ys ≡ over (k ++ l) d = part_then k l d out ys m hk (omega arith) first (rw left at second) in
    (rw (← left) at both) ∙ over-whole (k ++ l) d (omega (arith, length-append k l))

-- a part that starts where a slice ends, or later
pub take_past : (n : ℕ) (l : List ℕ) → length l ≤ n → take (length l) l ≡ take n l
take_past n l h = take_all (length l) l (omega arith) ∙ sym (take_all n l h)

pub drop_past : (n : ℕ) (l : List ℕ) → length l ≤ n → drop (length l) l ≡ drop n l
drop_past n l h = drop_of_length-le l {i = length l} (omega arith) ∙ sym (drop_of_length-le l h)

-- as many words as there are, of those that are asked for
pub least-part : (n : ℕ) (l : List ℕ) (r : ℕ) → r ≡ min n (length l) → (r ≤ length l) × (take r l ≡ take n l) × (drop r l ≡ drop n l)
least-part n l r e = elim (dec_le n (length l)) [
  | yes h ↦ let k : r ≡ n = omega (arith, e, h) in rw k (h, refl, refl)
  | no h ↦ let k : r ≡ length l = omega (arith, e, h) in rw k (omega arith, take_past n l (omega (arith, h)), drop_past n l (omega (arith, h)))
]
