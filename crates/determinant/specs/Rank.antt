-- The rank modulo a prime q of an n by n matrix A: the number r for which S × A × T is the diagonal of r ones, for some S and T that have an
-- inverse.
--   diagonal, diagonal_mat      the diagonal of r ones
--   has_rank q n a r            whether there are such S and T
--   rank q n a                 the largest such r
--   kernel q n a               how many columns x have A × x = 0
-- The laws are in proofs/Rank: every matrix has a rank, and only one, and the kernel is q ^ (n − rank). `has_rank` counts over all
-- pairs of matrices and is never run.
use Rattle.std.specs.Prelude.{Bool, cond, List, [], ◌∷◌, ℕ, zero, suc, ◌*◌, eqb, ltb}
use Rattle.algebra.specs.Matrix.{Entries, matrix, zeros, mat_mul}
use Rattle.algebra.specs.Count.{bit, both, eq_list, count, part, count_parts}
use Rattle.algebra.specs.Inverse.{has_inverse}

-- 1 at the first r places of the diagonal, and 0 elsewhere
unfoldable pub diagonal : (r : ℕ) → Entries
diagonal r i j = bit (both (ltb i r) (eqb i j))

unfoldable pub diagonal_mat : (n r : ℕ) → List ℕ
diagonal_mat n r = matrix n n (diagonal r)

-- whether S × A × T is the diagonal of r ones for some S and T with an inverse
unfoldable pub has_rank : (q n : ℕ) (a : List ℕ) (r : ℕ) → Bool
has_rank q n a r =
    ltb 0 (count_parts q (n * n ∷ n * n ∷ [])
    (λ t. both (eq_list (mat_mul q n n n (mat_mul q n n n (part 0 t) a) (part 1 t)) (diagonal_mat n r))
    (both (has_inverse q n (part 0 t)) (has_inverse q n (part 1 t)))))

-- the largest such number from 0 to k
unfoldable pub rank_to : (q n : ℕ) (a : List ℕ) (k : ℕ) → ℕ
rank_to q n a zero = 0
rank_to q n a (suc k) = cond (has_rank q n a (suc k)) (suc k) (rank_to q n a k)

unfoldable pub rank : (q n : ℕ) (a : List ℕ) → ℕ
rank q n a = rank_to q n a n

unfoldable pub kernel : (q n : ℕ) (a : List ℕ) → ℕ
kernel q n a = count q (n * 1) (λ x. eq_list (mat_mul q n n 1 a x) (zeros (n * 1)))
