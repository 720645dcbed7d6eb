-- A matrix with one row more, and what a turn of a loop over rows leaves. Assumes nothing.
--   cols-none, cols-next, beside_none, beside-next   no row, and one more
--   row_fits                                         a row's place
--   over-then, turn                                  a row written behind those that stand there
use mathlib.Core.Path.{◌≡◌, sym, ap, ap₂, ◌∙◌}
use mathlib.Core.Bool.{cond}
use mathlib.Core.List.{List, ◌++◌}
use Prim.Native.Nat.{ℕ, suc, ◌+◌, ◌-◌, ◌*◌, ◌/◌, ◌%◌, ◌≤◌, ◌<◌}
use native.Mathlib.Nat.{mul-le-mul_right}
use native.Mathlib.Omega.{arith}
use lib.Arith.{digits_div, digits_mod}
use lib.Dec.{ltb}
use lib.ListN.{length, get_or, drop}
use lib.Seq.{get_or-drop}
use borrow.Author.Tests.{lt-ltb, le-ltb}
use Rattle.algebra.specs.Matrix.{tabulate, Entries, entry, matrix}
use Rattle.algebra.specs.Columns.{cols, beside}
use Rattle.algebra.specs.Words.{over}
use Rattle.algebra.proofs.Lists.{length-tabulate}
use Rattle.vectors.specs.Fill.{first_words}
use Rattle.vectors.proofs.Fill.{tabulate-ext, tabulate-append}

matrix-next : (i w : ℕ) (f : Entries) → matrix (i + 1) w f ≡ matrix i w f ++ tabulate w (f i)
matrix-next i w f =
    let z : (i + 1) * w ≡ i * w + w = omega arith in
    ap (λ (k : ℕ). tabulate k (λ e. f (e / w) (e % w))) z
    ∙ (tabulate-append (i * w) w (λ e. f (e / w) (e % w))
    ∙ ap (λ (l : List ℕ). matrix i w f ++ l) (tabulate-ext w _ _ (λ j h. ap₂ f (digits_div i h) (digits_mod i h))))

-- row i of m ends before the matrix does
pub row_fits : (i m w : ℕ) → i < m → i * w + w ≤ m * w
row_fits i m w h = omega (arith, mul-le-mul_right {m = suc i} {n = m} w h)

-- ---- columns

pub cols-none : (w s p : ℕ) (a d : List ℕ) → d ≡ over (cols 0 w s p a) d
unfolding cols over tabulate
cols-none w s p a d = let z : 0 * p ≡ 0 = omega arith in rw z

pub cols-next : (i w s p : ℕ) (a : List ℕ) → cols i w s p a ++ first_words p (drop (i * w + s) a) ≡ cols (i + 1) w s p a
unfolding cols first_words
cols-next i w s p a =
    sym (matrix-next i p (λ x y. entry w a x (s + y))
    ∙ ap (λ (l : List ℕ). cols i w s p a ++ l) (tabulate-ext p _ _ (λ j h. ap (λ (k : ℕ). get_or a k 0) (omega arith) ∙ sym (get_or-drop (i * w + s) a j 0))))

-- ---- side by side

pub beside_none : (p r : ℕ) (a b d : List ℕ) → d ≡ over (beside 0 p r a b) d
unfolding beside over tabulate
beside_none p r a b d = let z : 0 * (p + r) ≡ 0 = omega arith in rw z

pub beside-length : (m p r : ℕ) (a b : List ℕ) → length (beside m p r a b) ≡ m * (p + r)
unfolding beside
beside-length m p r a b = length-tabulate (m * (p + r)) _

pub beside-next : (i p r : ℕ) (a b : List ℕ)
    → beside i p r a b ++ (first_words p (drop (i * p) a) ++ first_words r (drop (i * r) b)) ≡ beside (i + 1) p r a b
unfolding beside first_words
beside-next i p r a b =
    sym (matrix-next i (p + r) (λ x y. cond (ltb y p) (entry p a x y) (entry r b x (y - p)))
    ∙ ap (λ (l : List ℕ). beside i p r a b ++ l)
    (tabulate-append p r (λ y. cond (ltb y p) (entry p a i y) (entry r b i (y - p)))
    ∙ ap₂ (λ (k l : List ℕ). k ++ l) (tabulate-ext p _ _ (λ j h. rw (lt-ltb j p h) (sym (get_or-drop (i * p) a j 0)))) (tabulate-ext r _ _ second)))
  where
    second : (j : ℕ) → j < r → cond (ltb (p + j) p) (entry p a i (p + j)) (entry r b i (p + j - p)) ≡ get_or (drop (i * r) b) j 0
    second j h =
        let z : p + j - p ≡ j = omega arith in
        rw (le-ltb (p + j) p (omega arith), z) (sym (get_or-drop (i * r) b j 0))

-- ---- a row written behind those that stand there

pub words_count : (n : ℕ) (a : List ℕ) → length (first_words n a) ≡ n
unfolding first_words
words_count n a = length-tabulate n _
