-- The identity matrix.
--   delta i j            its entry in row i and column j, with `sum-delta`: a sum against a row of it has one term
--   id-delta             the entries of `id_mat`
--   id-mul, mul-id       it is neutral on either side
use mathlib.Core.Path.{◌≡◌, refl, sym, ap, ◌∙◌}
use mathlib.Core.Bool.{Bool, true, false}
use mathlib.Core.List.{List}
use Prim.Native.Nat.{ℕ, ◌+◌, ◌*◌, ◌<◌}
use native.Mathlib.Nat.{one-mul, zero-mul}
use native.Mathlib.Decide.{ℕ_discrete}
use native.Mathlib.Omega.{arith}
use lib.Dec.{eqb}
use lib.ListN.{get_or}
use borrow.Author.Tests.{eq-eqb, ne_eqb}
use Rattle.algebra.specs.Matrix.{sum_to, Residues, mat_mul, dot}
use Rattle.algebra.specs.Count.{bit}
use Rattle.algebra.specs.Inverse.{id_mat}
use Rattle.algebra.proofs.Congruence.{cong-eq, cong-trans}
use Rattle.algebra.proofs.Sums.{sum_to-ext, sum_to-single}
use Rattle.algebra.proofs.Lists.{mul-residues}
use Rattle.algebra.proofs.Matrix.{matrix-at, matrix-residues, matrix-ext, mul_at}

-- 1 where i is j, and 0 elsewhere
unfoldable pub delta : ℕ → ℕ → ℕ
delta i j = bit (eqb i j)

pub delta-same : (i : ℕ) → delta i i ≡ 1
unfolding delta
delta-same i = rw (eq-eqb i i refl)

pub delta-other : (i j : ℕ) → (i ≡ j → ⊥) → delta i j ≡ 0
unfolding delta
delta-other i j d = rw (ne_eqb i j d)

pub delta-comm : (i j : ℕ) → delta i j ≡ delta j i
delta-comm i j = elim (ℕ_discrete i j) [ yes e ↦ rw e | no d ↦ delta-other i j d ∙ sym (delta-other j i (λ e. d (sym e))) ]

pub sum-delta : (n i : ℕ) (f : ℕ → ℕ) → i < n → sum_to n (λ t. delta i t * f t) ≡ f i
sum-delta n i f h =
    sum_to-single n (λ t. delta i t * f t) i h (λ t l d. rw (delta-other i t (λ e. d (sym e))) (zero-mul (f t))) ∙ rw (delta-same i) (one-mul (f i))

pub id-delta : (n i j : ℕ) → i < n → j < n → get_or (id_mat n) (i * n + j) 0 ≡ delta i j
unfolding id_mat delta
id-delta n i j hi hj = matrix-at n n (λ x y. bit (eqb x y)) i j hi hj

module _ {q : ℕ} (h1 : 1 < q) where
  pub hq : 0 < q
  hq = omega arith

  pub delta-below : (i j : ℕ) → delta i j < q
  unfolding delta
  delta-below i j = at (eqb i j)
    where
      at : (b : Bool) → bit b < q
      at true = h1
      at false = hq

  pub id-residues : (n : ℕ) → Residues q (n * n) (id_mat n)
  unfolding id_mat delta
  id-residues n = matrix-residues n n (λ i j. bit (eqb i j)) (λ i j hi hj. delta-below i j)

  pub id-mul : (n p : ℕ) {a : List ℕ} → Residues q (n * p) a → mat_mul q n n p (id_mat n) a ≡ a
  unfolding dot
  id-mul n p {a} ra = matrix-ext hq n p (mul-residues hq n n p _ _) ra (λ i j hi hj.
      cong-trans (mul_at hq n n p (id_mat n) a i j hi hj) (cong-eq (entry i j hi)))
    where
      entry : (i j : ℕ) → i < n → sum_to n (λ t. get_or (id_mat n) (i * n + t) 0 * get_or a (t * p + j) 0) ≡ get_or a (i * p + j) 0
      entry i j hi =
          sum_to-ext n _ _ (λ t l. ap (λ z. z * get_or a (t * p + j) 0) (id-delta n i t hi l)) ∙ sum-delta n i (λ t. get_or a (t * p + j) 0) hi

  pub mul-id : (m n : ℕ) {a : List ℕ} → Residues q (m * n) a → mat_mul q m n n a (id_mat n) ≡ a
  unfolding dot
  mul-id m n {a} ra = matrix-ext hq m n (mul-residues hq m n n _ _) ra (λ i j hi hj.
      cong-trans (mul_at hq m n n a (id_mat n) i j hi hj) (cong-eq (entry i j hj)))
    where
      entry : (i j : ℕ) → j < n → sum_to n (λ t. get_or a (i * n + t) 0 * get_or (id_mat n) (t * n + j) 0) ≡ get_or a (i * n + j) 0
      entry i j hj =
          sum_to-ext n _ _ (λ t l. rw (id-delta n t j l hj, delta-comm t j) (omega arith)) ∙ sum-delta n j (λ t. get_or a (i * n + t) 0) hj
