-- Words written over a list, one after the other.
--   written_then   words right after those that were written
--   computed       a matrix that is computed from three that were written, right after one of them
--   made-written   a matrix that was made in a buffer and is copied from there
-- Assumes nothing.
use mathlib.Core.Path.{◌≡◌, sym, ap, ◌∙◌}
use mathlib.Core.List.{List, ◌++◌, append_assoc}
use Prim.Native.Nat.{ℕ, ◌+◌, ◌-◌, ◌≤◌}
use lib.ListN.{length, take, drop}
use lib.Seq.{take-append-add, drop-append-add, take_at, drop_at, drop-drop, length-take-le}
use borrow.Rule.Slice.PartMut.{mid_of, put_mid}
use Rattle.algebra.specs.Words.{over, written_at}
use Rattle.vectors.specs.Fill.{first_words}
use Rattle.vectors.proofs.Fill.{first-words}
use Rattle.vectors.proofs.Written.{over-part, over-then, part-written}

-- a write behind x
shifted : (n : ℕ) (b x y : List ℕ) → written_at (length x + n) b (x ++ y) ≡ x ++ written_at n b y
unfolding written_at
shifted n b x y = rw (take-append-add x y n, drop-append-add x y n) (append_assoc x (take n y) (over b (drop n y)))

pub written_then : (at n : ℕ) (a b d : List ℕ) → length a ≡ n → at ≤ length d → written_at (at + n) b (written_at at a d) ≡ written_at at (a ++ b) d
unfolding written_at
written_then at n a b d e h =
    let size : length (take at d) ≡ at = length-take-le at d h in
    ap (λ (k : ℕ). written_at (k + n) b (written_at at a d)) (sym size)
    ∙ (shifted n b (take at d) (over a (drop at d)) ∙ ap (λ (l : List ℕ). take at d ++ l) (over-then a b (drop at d) n e))

-- ---- read back

-- the words from `at` on
written-rest : (at : ℕ) (ws d : List ℕ) → at ≤ length d → drop at (written_at at ws d) ≡ over ws (drop at d)
unfolding written_at
written-rest at ws d h = drop_at (take at d) (over ws (drop at d)) at (length-take-le at d h)

module _ (at : ℕ) (d : List ℕ) (h : at ≤ length d) where
  first_back : (x y : List ℕ) (n : ℕ) → length x ≡ n → take n (drop at (written_at at (x ++ y) d)) ≡ x
  unfolding over
  first_back x y n e = ap (take n) (written-rest at (x ++ y) d h) ∙ simp append_assoc (take_at x _ n e)

  only-back : (x : List ℕ) (n : ℕ) → length x ≡ n → take n (drop at (written_at at x d)) ≡ x
  unfolding over
  only-back x n e = ap (take n) (written-rest at x d h) ∙ take_at x _ n e

  second_back : (x y : List ℕ) (i n : ℕ) → length x ≡ i → length y ≡ n → take n (drop (at + i) (written_at at (x ++ y) d)) ≡ y
  unfolding over
  second_back x y i n e f =
      ap (take n) (sym (drop-drop i at (written_at at (x ++ y) d)) ∙ ap (drop i) (written-rest at (x ++ y) d h))
      ∙ simp append_assoc (ap (take n) (drop_at x _ i e) ∙ take_at y _ n f)

-- x and then a stand in one list, y in the other; what is computed from them is written after y
module _ (make : List ℕ → List ℕ → List ℕ → List ℕ) (f s nx ny na : ℕ) (x y a : List ℕ) (lx : length x ≡ nx) (ly : length y ≡ ny) (la : length a ≡ na) where
  pub computed : (first second one two : List ℕ) {three : List ℕ} → f ≤ length first → s ≤ length second
      → one ≡ written_at f (x ++ a) first → two ≡ written_at s y second
      → three ≡ written_at (s + ny) (make (take nx (drop f one)) (take ny (drop s two)) (take na (drop (f + nx) one))) two
      → three ≡ written_at s (y ++ make x y a) second
  computed first second one two hf hs e1 e2 e3 =
      let x0 : take nx (drop f one) ≡ x = rw e1 (first_back f first hf x a nx lx) in
      let y0 : take ny (drop s two) ≡ y = rw e2 (only-back s second hs y ny ly) in
      let a0 : take na (drop (f + nx) one) ≡ a = rw e1 (second_back f first hf x a nx na lx la) in
      e3
      ∙ (ap (λ (b : List ℕ). written_at (s + ny) b two) (rw (x0, y0, a0))
      ∙ (ap (written_at (s + ny) (make x y a)) e2 ∙ written_then s ny y (make x y a) second ly hs))

-- ---- buffers

pub made-written : (n at : ℕ) (x d buffer second ys : List ℕ) → length x ≡ n → n ≤ length buffer → at ≤ length second → buffer ≡ over x d
    → ys ≡ over (first_words n buffer) (mid_of at (length second - at) second) → put_mid at (length second - at) second ys ≡ written_at at x second
made-written n at x d buffer second ys e room h o f = part-written at x second ys h (rw (first-words n buffer room ∙ over-part n x d o e) at f)
