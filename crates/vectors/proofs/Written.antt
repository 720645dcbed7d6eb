-- Words written over a list one after the other, and parts of slices that are lent.
--   front-over                         `xs[..n]` overwritten
--   over-part, over-then, after-over   words over the start: read back, followed by others, and how many there are
--   first_word                         one word stored at the start
--   written-length                     a list that words were written into is as long as before
--   tail-part                          `&xs[a..]`
--   part-written, part_then            the part `&mut xs[a..]` was lent to a writer; the same after others had been written
-- Assumes nothing.
use mathlib.Core.Path.{◌≡◌, refl, ap, ◌∙◌}
use mathlib.Core.List.{List, [], ◌∷◌, ◌++◌, append-nil, append_assoc}
use Prim.Native.Nat.{ℕ, ◌+◌, ◌-◌, ◌≤◌, ◌<◌}
use native.Mathlib.Omega.{arith}
use lib.ListN.{length, set, take, drop, length-append, length-take, length-drop, drop_of_length-le}
use lib.Seq.{take_all, take_at, drop_at, drop-drop}
use borrow.Rule.Slice.PartMut.{mid_of, put_mid}
use Rattle.algebra.specs.Words.{over, written_at}
use Rattle.protocol.proofs.Residues.{over-length}

pub over-part : (n : ℕ) (ws d : List ℕ) {l : List ℕ} → l ≡ over ws d → length ws ≡ n → take n l ≡ ws
unfolding over
over-part n ws d e h = ap (take n) e ∙ take_at ws (drop (length ws) d) n h

-- `xs[..n]` was overwritten by ws
pub front-over : (ws d ys : List ℕ) (n : ℕ) → length ws ≡ n → ys ≡ ws → ys ++ drop n d ≡ over ws d
unfolding over
front-over ws d ys n h e = rw (e, h)

pub over-then : (a b d : List ℕ) (n : ℕ) → length a ≡ n → written_at n b (over a d) ≡ over (a ++ b) d
unfolding written_at over
over-then a b d n e =
    ap (λ (l : List ℕ). l ++ (b ++ drop (length b) (drop n (a ++ drop (length a) d)))) (take_at a (drop (length a) d) n e)
    ∙ ap (λ (l : List ℕ). a ++ (b ++ drop (length b) l)) (drop_at a (drop (length a) d) n e)
    ∙ ap (λ (l : List ℕ). a ++ (b ++ l)) (drop-drop (length b) (length a) d)
    ∙ simp (append_assoc, length-append)

pub after-over : (ws d : List ℕ) {l : List ℕ} → l ≡ over ws d → length ws ≤ length d → length l ≡ length d
after-over ws d e h = ap length e ∙ over-length ws d h

pub first_word : (w : ℕ) (xs : List ℕ) → 0 < length xs → set xs 0 w ≡ over (w ∷ []) xs
unfolding over
first_word w [] h = absurd (omega arith)
first_word w (x ∷ xs) h = refl

pub written-length : (a : ℕ) (ws xs : List ℕ) → a + length ws ≤ length xs → length (written_at a ws xs) ≡ length xs
unfolding written_at over
written-length a ws xs h = simp (length-append, length-take, length-drop) (omega arith)

pub tail-part : (a : ℕ) (xs : List ℕ) → take (length xs - a) (drop a xs) ≡ drop a xs
tail-part a xs = take_all (length xs - a) (drop a xs) (omega (arith, length-drop a xs))

-- a writer of ws left ys in the part
pub part-written : (a : ℕ) (ws xs ys : List ℕ) → a ≤ length xs → ys ≡ over ws (mid_of a (length xs - a) xs)
    → put_mid a (length xs - a) xs ys ≡ written_at a ws xs
unfolding written_at
part-written a ws xs ys h e =
    let len : length (drop a xs) ≤ length xs - a = omega (arith, length-drop a xs) in
    let none : drop (length xs - a) (drop a xs) ≡ [] = drop_of_length-le (drop a xs) len in
    ap (λ (l : List ℕ). take a xs ++ (ys ++ l)) none
    ∙ ap (λ (l : List ℕ). take a xs ++ l) (append-nil ys ∙ (e ∙ ap (over ws) (tail-part a xs)))

pub part_then : (a b d out ys : List ℕ) (n : ℕ) → length a ≡ n → n ≤ length out → out ≡ over a d → ys ≡ over b (mid_of n (length out - n) out)
    → put_mid n (length out - n) out ys ≡ over (a ++ b) d
part_then a b d out ys n e h o y = part-written n b out ys h y ∙ (ap (written_at n b) o ∙ over-then a b d n e)
