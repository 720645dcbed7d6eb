-- A row within the whole matrix x, of which it is row i with k words. Gathering's laws speak of it; the code lends the row as a list of its
-- own, and the records of specs Rows are these at k its length and i 0. Assumes nothing.
--   Row        row i of x, and y, of words below a bound
--   Later      the term after term t, or none
--   Gathered   sums of n terms each, up to multiples of whatever divides c. A word past the end of x is 0, and k may be any count
--   row_at      an entry of row i of the product, added to a word
use mathlib.Core.Path.{◌≡◌}
use mathlib.Core.List.{List}
use Prim.Native.Nat.{ℕ, ◌+◌, ◌*◌, ◌%◌, ◌<◌, ◌≤◌}
use lib.ListN.{length, get_or}
use Rattle.algebra.specs.Residue.{Cong}
use Rattle.algebra.specs.Matrix.{dot_to, dot}
use Rattle.vectors.specs.Fill.{Below}

pub record Row (w k p : ℕ) (x : List ℕ) (i : ℕ) (y : List ℕ) : Type 0 where
  pub few : k ≤ 2048
  pub few-y : k * p ≤ 2048
  pub full-x : i * k + k ≤ length x
  pub full-y : k * p ≤ length y
  pub word-x : (t : ℕ) → t < k → get_or x (i * k + t) 0 < w
  pub word-y : Below w (k * p) y

-- the second of two terms: its factor, and where its row of y begins. Past the last, it is 0 times the row before
pub record Later (k p : ℕ) (x : List ℕ) (i t b g : ℕ) : Type 0 where
  pub more : t + 1 < k → (b ≡ get_or x (i * k + (t + 1)) 0) × (g ≡ (t + 1) * p)
  pub none : t + 1 ≡ k → (b ≡ 0) × (g ≡ t * p)

-- s: the sums of n terms, added to the words of d
pub record Gathered (c k p : ℕ) (x : List ℕ) (i : ℕ) (y d : List ℕ) (n l : ℕ) (s : List ℕ) : Type 0 where
  pub sum : (j : ℕ) → j < p → (q : ℕ) → c % q ≡ 0 → Cong q (get_or s j 0) (dot_to k p x y i j n + get_or d j 0)
  pub low : (j : ℕ) → j < p → get_or s j 0 ≤ l

unfoldable pub row_at : (q k p : ℕ) (x : List ℕ) (i : ℕ) (y d : List ℕ) → ℕ → ℕ
row_at q k p x i y d j = (dot k p x y i j + get_or d j 0) % q
