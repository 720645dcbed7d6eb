-- The number of columns x with A × x = 0, modulo a prime: as many for equivalent matrices, and q ^ (n − r) for the diagonal of r ones. So
-- diagonals of different numbers of ones are not equivalent.
--   kernel-equivalent, kernel-diagonal
--   ones-unique                            a matrix is equivalent to one diagonal of ones alone
use mathlib.Core.Path.{◌≡◌, refl, sym, ap, ◌∙◌, subst}
use mathlib.Core.Bool.{true}
use mathlib.Core.List.{List, ◌++◌}
use Prim.Native.Nat.{ℕ, suc, ◌+◌, ◌*◌, ◌-◌, ◌^◌, ◌≤◌, ◌<◌}
use native.Mathlib.Omega.{arith}
use native.Mathlib.Decide.{dec_lt}
use native.Mathlib.Nat.{mul-le-mul, pow-suc, one-le-pow, pow-le-pow_right}
use lib.ListN.{length, get_or, take, drop, take-append-drop, get_or-append}
use lib.Seq.{ext_get_or, get_or-take, length-take-le, drop_at}
use Rattle.algebra.specs.Matrix.{zeros, Residues, mat_mul, dot}
use Rattle.algebra.proofs.Congruence.{Cong, cong-eq, cong-refl, cong-sym, cong-mul, cong-residue}
use Rattle.algebra.proofs.Sums.{sum_to-cong}
use Rattle.algebra.proofs.Lists.{zeros-at, zeros-residues, residues-ext, residues-drop, residues-append, mul-residues}
use Rattle.algebra.proofs.Matrix.{mul_at, mul_assoc, mul-zeros}
use Rattle.algebra.proofs.Tests.{eq_list-eq, eq_list-of}
use Rattle.algebra.proofs.Count.{count-transfer, count-all}
use Rattle.algebra.proofs.Identity.{hq, delta, sum-delta}
use Rattle.algebra.proofs.Inverse.{cancel-middle}
use Rattle.determinant.specs.Rank.{diagonal_mat, kernel}
use Rattle.determinant.proofs.Chains.{◌⨾◌, null-times, sum-null}
use Rattle.determinant.proofs.Equivalence.{Equivalent}
use Rattle.determinant.proofs.Normal.{diagonal-in, diagonal-out, diagonal-at}

module _ {q : ℕ} (h1 : 1 < q) (n : ℕ) where
  z : 0 < q
  z = hq h1

  pub kernel-equivalent : {a b : List ℕ} → Equivalent q n a b → kernel q n a ≡ kernel q n b
  unfolding kernel
  kernel-equivalent {a} {b} w =
      count-transfer q (n * 1) (n * 1) _ _ (λ x. mat_mul q n n 1 w.t-back x) (λ y. mat_mul q n n 1 w.t y)
      (record {
        residues = λ x rx e. mul-residues z n n 1 _ _;
        passes = λ x rx e. eq_list-of (to x rx (eq_list-eq _ _ e));
        back = λ x rx e. cancel-middle h1 n 1 w.t w.t-back x w.t-inverse.right rx;
      })
      (record {
        residues = λ y ry e. mul-residues z n n 1 _ _;
        passes = λ y ry e. eq_list-of (from y (eq_list-eq _ _ e));
        back = λ y ry e. cancel-middle h1 n 1 w.t-back w.t y w.t-inverse.left ry;
      })
    where
      -- B × y = S × (A × (T × y))
      whole : (y : List ℕ) → mat_mul q n n 1 b y ≡ mat_mul q n n 1 w.s (mat_mul q n n 1 a (mat_mul q n n 1 w.t y))
      whole y = ap (λ d. mat_mul q n n 1 d y) (sym w.is)
          ∙ (mul_assoc z n n n 1 (mat_mul q n n n w.s a) w.t y ∙ mul_assoc z n n n 1 w.s a (mat_mul q n n 1 w.t y))

      to : (x : List ℕ) → Residues q (n * 1) x → mat_mul q n n 1 a x ≡ zeros (n * 1) → mat_mul q n n 1 b (mat_mul q n n 1 w.t-back x) ≡ zeros (n * 1)
      to x rx e =
          whole (mat_mul q n n 1 w.t-back x)
          ∙ (ap (λ y. mat_mul q n n 1 w.s y) (ap (λ y. mat_mul q n n 1 a y) (cancel-middle h1 n 1 w.t w.t-back x w.t-inverse.right rx) ∙ e)
          ∙ mul-zeros z n n 1 w.s)

      from : (y : List ℕ) → mat_mul q n n 1 b y ≡ zeros (n * 1) → mat_mul q n n 1 a (mat_mul q n n 1 w.t y) ≡ zeros (n * 1)
      from y e =
          sym (cancel-middle h1 n 1 w.s-back w.s _ w.s-inverse.left (mul-residues z n n 1 _ _))
          ∙ (ap (λ x. mat_mul q n n 1 w.s-back x) (sym (whole y) ∙ e) ∙ mul-zeros z n n 1 w.s-back)

  -- the entries of D × y
  times-in : (r i : ℕ) (y : List ℕ) → i < n → i < r → Cong q (get_or (mat_mul q n n 1 (diagonal_mat n r) y) i 0) (get_or y i 0)
  unfolding dot
  times-in r i y l m =
      cong-eq (ap (λ x. get_or (mat_mul q n n 1 (diagonal_mat n r) y) x 0) place)
      ⨾ mul_at z n n 1 (diagonal_mat n r) y i 0 l (omega arith)
      ⨾ sum_to-cong q n _ (λ t. delta i t * get_or y (t * 1 + 0) 0) (λ t b. cong-mul (cong-eq (diagonal-at n r i t l b ∙ diagonal-in r i t m)) (cong-refl _))
      ⨾ cong-eq (sum-delta n i (λ t. get_or y (t * 1 + 0) 0) l ∙ ap (λ x. get_or y x 0) (sym place))
    where
      place : i ≡ i * 1 + 0
      place = omega arith

  times-out : (r i : ℕ) (y : List ℕ) → i < n → r ≤ i → Cong q (get_or (mat_mul q n n 1 (diagonal_mat n r) y) i 0) 0
  unfolding dot
  times-out r i y l m =
      cong-eq (ap (λ x. get_or (mat_mul q n n 1 (diagonal_mat n r) y) x 0) place)
      ⨾ mul_at z n n 1 (diagonal_mat n r) y i 0 l (omega arith)
      ⨾ sum-null n _ (λ t b. null-times (get_or y (t * 1 + 0) 0) (cong-eq (diagonal-at n r i t l b ∙ diagonal-out r i t m)))
    where
      place : i ≡ i * 1 + 0
      place = omega arith

  -- its kernel: r zeros, and then anything
  pub kernel-diagonal : (r : ℕ) → r ≤ n → kernel q n (diagonal_mat n r) ≡ q ^ (n - r)
  unfolding kernel
  kernel-diagonal r l =
      count-transfer q (n * 1) (n - r) _ (λ x. true) (λ y. drop r y) (λ x. zeros r ++ x)
      (record {
        residues = λ y ry e. residues-drop r (n - r) (cut ry);
        passes = λ y ry e. refl;
        back = λ y ry e. ap (λ t. t ++ drop r y) (sym (starts y ry (eq_list-eq _ _ e))) ∙ take-append-drop r y;
      })
      (record {
        residues = λ x rx e. subst (λ (k : ℕ). Residues q k (zeros r ++ x)) (sym size) (residues-append (zeros-residues z r) rx);
        passes = λ x rx e. eq_list-of (residues-ext z (mul-residues z n n 1 _ _) (zeros-residues z (n * 1)) (λ i m. null x i m (dec_lt i r)));
        back = λ x rx e. drop_at (zeros r) x r (zeros-residues z r).size;
      })
      ∙ count-all q (n - r)
    where
      size : n * 1 ≡ r + (n - r)
      size = omega arith

      cut : {y : List ℕ} → Residues q (n * 1) y → Residues q (r + (n - r)) y
      cut {y} ry = subst (λ (k : ℕ). Residues q k y) size ry

      -- the first r entries of a column with D × y = 0
      starts : (y : List ℕ) → Residues q (n * 1) y → mat_mul q n n 1 (diagonal_mat n r) y ≡ zeros (n * 1) → take r y ≡ zeros r
      starts y ry e = ext_get_or 0 (take r y) (zeros r) (long ∙ sym (zeros-residues z r).size) (λ i m. at i (rw long at m))
        where
          long : length (take r y) ≡ r
          long = length-take-le r y (omega (arith, ry.size))

          at : (i : ℕ) → i < r → get_or (take r y) i 0 ≡ get_or (zeros r) i 0
          at i m =
              get_or-take r y i 0 m
              ∙ (cong-residue z (cong-sym (times-in r i y (omega arith) m) ⨾ cong-eq (ap (λ v. get_or v i 0) e ∙ zeros-at (n * 1) i (omega arith)))
              (ry.below i (omega arith)) z
              ∙ sym (zeros-at r i m))

      null : (x : List ℕ) (i : ℕ) → i < n * 1 → Dec (i < r) → Cong q (get_or (mat_mul q n n 1 (diagonal_mat n r) (zeros r ++ x)) i 0) (get_or (zeros (n * 1)) i 0)
      null x i m (yes k) =
          times-in r i (zeros r ++ x) (omega arith) k
          ⨾ cong-eq (get_or-append (zeros r) x 0 i (omega (arith, (zeros-residues z r).size)) ∙ (zeros-at r i k ∙ sym (zeros-at (n * 1) i m)))
      null x i m (no k) = times-out r i (zeros r ++ x) (omega arith) (omega arith) ⨾ cong-eq (sym (zeros-at (n * 1) i m))

  -- ---- the number of ones

  pow-grows : (i j : ℕ) → i < j → q ^ i < q ^ j
  pow-grows i j l =
      let more : q ^ i * 2 ≤ q ^ i * q = mul-le-mul (omega arith) h1 in
      let next : q ^ suc i ≡ q ^ i * q = pow-suc q i in
      omega (arith, one-le-pow i q z, pow-le-pow_right {n = q} z {i = suc i} {j = j} l)

  pub ones-unique : {a : List ℕ} (r s : ℕ) → r ≤ n → s ≤ n → Equivalent q n a (diagonal_mat n r) → Equivalent q n a (diagonal_mat n s) → r ≡ s
  ones-unique r s lr ls d e = compare (dec_lt (n - r) (n - s)) (dec_lt (n - s) (n - r))
    where
      same : q ^ (n - r) ≡ q ^ (n - s)
      same = sym (kernel-equivalent d ∙ kernel-diagonal r lr) ∙ (kernel-equivalent e ∙ kernel-diagonal s ls)

      compare : Dec (n - r < n - s) → Dec (n - s < n - r) → r ≡ s
      compare (yes l) m = absurd (omega (arith, same, pow-grows (n - r) (n - s) l))
      compare (no l) (yes m) = absurd (omega (arith, same, pow-grows (n - s) (n - r) m))
      compare (no l) (no m) = omega arith
