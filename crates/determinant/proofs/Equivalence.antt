-- Matrices that are equivalent: S × A × T = B for some S and T with an inverse.
--   flip_mat                           the transposed matrix, with its laws `flip-at` to `flip-inverse`
--   swap-equivalent                   two rows exchanged (algebra's `step-equivalent` is a whole step of elimination)
--   Equivalent q n a b
--   equivalent-row                    by rows alone
--   equivalent-trans -sym -flip       and the transposed matrices are equivalent too
--   equivalent-blinded                P × A × Q, for P and Q with an inverse
use mathlib.Core.Path.{◌≡◌, refl, sym, ap, ◌∙◌}
use mathlib.Core.List.{List}
use Prim.Native.Nat.{ℕ, ◌+◌, ◌*◌, ◌<◌}
use native.Mathlib.Omega.{arith}
use lib.Arith.{digits_lt}
use Rattle.algebra.specs.Matrix.{entry, matrix, Residues, mat_mul, dot}
use Rattle.algebra.specs.Inverse.{id_mat}
use Rattle.algebra.specs.Elimination.{swap_at, swap_rows}
use Rattle.algebra.proofs.Congruence.{Cong, cong-eq, cong-sym, cong-trans, cong-mul-left, ◌⊕◌, cong-refl}
use Rattle.algebra.proofs.Sums.{sum_to-ext}
use Rattle.algebra.proofs.Lists.{mul-residues}
use Rattle.algebra.proofs.Matrix.{matrix-at, matrix-residues, matrix-ext, mul_at, mul_assoc}
use Rattle.algebra.proofs.Identity.{hq, delta, delta-comm, id-delta, id-residues, mul-id}
use Rattle.algebra.proofs.Inverse.{Inverse, cancel-middle, id-inverse, inverse-mul, inverse-swap}
use Rattle.algebra.proofs.RowEquivalence.{combine, combine-residues, combine-at, combine-mul, RowEquivalent}
use Rattle.algebra.proofs.Elementary.{swap-inside, swap-twice}

-- ---- the transposed matrix

unfoldable pub flip_mat : (n : ℕ) (a : List ℕ) → List ℕ
flip_mat n a = matrix n n (λ i j. entry n a j i)

pub flip-at : (n : ℕ) (a : List ℕ) (i j : ℕ) → i < n → j < n → entry n (flip_mat n a) i j ≡ entry n a j i
unfolding flip_mat
flip-at n a i j hi hj = matrix-at n n (λ x y. entry n a y x) i j hi hj

pub flip-residues : {q : ℕ} (n : ℕ) {a : List ℕ} → Residues q (n * n) a → Residues q (n * n) (flip_mat n a)
unfolding flip_mat
flip-residues n {a} ra = matrix-residues n n (λ i j. entry n a j i) (λ i j hi hj. ra.below (j * n + i) (digits_lt hj hi))

module _ {q : ℕ} (h1 : 1 < q) (n : ℕ) where
  z : 0 < q
  z = hq h1

  abbrev mul : List ℕ → List ℕ → List ℕ
  mul a b = mat_mul q n n n a b

  pub flip-flip : {a : List ℕ} → Residues q (n * n) a → flip_mat n (flip_mat n a) ≡ a
  flip-flip {a} ra = matrix-ext z n n (flip-residues n (flip-residues n ra)) ra
      (λ i j hi hj. cong-eq (flip-at n (flip_mat n a) i j hi hj ∙ flip-at n a j i hj hi))

  flip-id : flip_mat n (id_mat n) ≡ id_mat n
  flip-id = matrix-ext z n n (flip-residues n (id-residues h1 n)) (id-residues h1 n) (λ i j hi hj.
      cong-eq (flip-at n (id_mat n) i j hi hj ∙ (id-delta n j i hj hi ∙ (delta-comm j i ∙ sym (id-delta n i j hi hj)))))

  pub flip-mul : (a b : List ℕ) → flip_mat n (mul a b) ≡ mul (flip_mat n b) (flip_mat n a)
  unfolding dot
  flip-mul a b = matrix-ext z n n (flip-residues n (mul-residues z n n n a b)) (mul-residues z n n n _ _) (λ i j hi hj.
      cong-trans (cong-eq (flip-at n (mul a b) i j hi hj))
      (cong-trans (mul_at z n n n a b j i hj hi)
      (cong-trans (cong-eq (sum_to-ext n _ _ (λ t ht. rw (flip-at n b i t hi ht, flip-at n a t j ht hj) (omega arith))))
      (cong-sym (mul_at z n n n (flip_mat n b) (flip_mat n a) i j hi hj)))))

  pub flip-inverse : {a b : List ℕ} → Inverse q n a b → Inverse q n (flip_mat n a) (flip_mat n b)
  flip-inverse {a} {b} i = record {
    residues = flip-residues n i.residues;
    right = sym (flip-mul b a) ∙ (ap (flip_mat n) i.left ∙ flip-id);
    left = sym (flip-mul a b) ∙ (ap (flip_mat n) i.right ∙ flip-id);
  }

  -- ---- two rows exchanged

  pub swap-equivalent : (k r : ℕ) {a : List ℕ} → k < n → r < n → Residues q (n * n) a → RowEquivalent q n n a (matrix n n (swap_rows k r (entry n a)))
  unfolding swap_rows
  swap-equivalent k r {a} hk hr ra = record {
    by = e;
    back = e;
    by-residues = combine-residues z n (λ i. 1) (swap_at k r) (λ i. 0) k;
    inverse = record { residues = combine-residues z n (λ i. 1) (swap_at k r) (λ i. 0) k; right = twice; left = twice };
    is = matrix-ext z n n
        (matrix-residues n n (λ i j. entry n a (swap_at k r i) j) (λ i j hi hj. ra.below _ (digits_lt (swap-inside n k r i hk hr hi) hj)))
        (mul-residues z n n n _ _) (λ i j hi hj.
        cong-trans (cong-eq (matrix-at n n (λ x y. entry n a (swap_at k r x) y) i j hi hj ∙ omega arith)) (cong-sym (rows a i j hi hj)));
  }
    where
      e : List ℕ
      e = combine q n (λ i. 1) (swap_at k r) (λ i. 0) k

      rows : (b : List ℕ) (i j : ℕ) → i < n → j < n → Cong q (entry n (mat_mul q n n n e b) i j) (1 * entry n b (swap_at k r i) j + 0 * entry n b k j)
      rows b i j hi hj = combine-mul z n (λ i. 1) (swap_at k r) (λ i. 0) k n b i j hi hj (swap-inside n k r i hk hr hi) hk

      twice : mat_mul q n n n e e ≡ id_mat n
      twice = matrix-ext z n n (mul-residues z n n n _ _) (id-residues h1 n) (λ i j hi hj.
          cong-trans (rows e i j hi hj)
          (cong-trans (cong-mul-left 1 (combine-at z n (λ i. 1) (swap_at k r) (λ i. 0) k (swap_at k r i) j (swap-inside n k r i hk hr hi) hj)
          ⊕ cong-refl (0 * entry n e k j))
          (cong-eq (omega arith ∙ (ap (λ x. delta x j) (swap-twice k r i) ∙ sym (id-delta n i j hi hj))))))

-- ---- equivalence

pub record Equivalent (q n : ℕ) (a b : List ℕ) : Type 0 where
  pub s : List ℕ
  pub s-back : List ℕ
  pub t : List ℕ
  pub t-back : List ℕ
  pub s-ok : Residues q (n * n) s
  pub t-ok : Residues q (n * n) t
  pub s-inverse : Inverse q n s s-back
  pub t-inverse : Inverse q n t t-back
  pub is : mat_mul q n n n (mat_mul q n n n s a) t ≡ b

module _ {q : ℕ} (h1 : 1 < q) (n : ℕ) where
  assoc : (x y w : List ℕ) → mul h1 n (mul h1 n x y) w ≡ mul h1 n x (mul h1 n y w)
  assoc x y w = mul_assoc (hq h1) n n n n x y w

  pub equivalent-row : {a b : List ℕ} → RowEquivalent q n n a b → Equivalent q n a b
  equivalent-row {a} {b} u = record {
    s = u.by;
    s-back = u.back;
    t = id_mat n;
    t-back = id_mat n;
    s-ok = u.by-residues;
    t-ok = id-residues h1 n;
    s-inverse = u.inverse;
    t-inverse = id-inverse h1 n;
    is = mul-id h1 n n (mul-residues (hq h1) n n n _ _) ∙ sym u.is;
  }

  pub equivalent-trans : {a b c : List ℕ} → Equivalent q n a b → Equivalent q n b c → Equivalent q n a c
  equivalent-trans {a} {b} {c} d e = record {
    s = mul h1 n e.s d.s;
    s-back = mul h1 n d.s-back e.s-back;
    t = mul h1 n d.t e.t;
    t-back = mul h1 n e.t-back d.t-back;
    s-ok = mul-residues (hq h1) n n n _ _;
    t-ok = mul-residues (hq h1) n n n _ _;
    s-inverse = inverse-mul h1 d.s-ok e.s-inverse d.s-inverse;
    t-inverse = inverse-mul h1 e.t-ok d.t-inverse e.t-inverse;
    is = simp assoc (simp assoc at (ap (λ x. mul h1 n (mul h1 n e.s x) e.t) d.is)) ∙ e.is;
  }

  -- A = S' × B × T'
  pub equivalent-back : {a b : List ℕ} → Residues q (n * n) a → (d : Equivalent q n a b) → mat_mul q n n n (mat_mul q n n n d.s-back b) d.t-back ≡ a
  equivalent-back {a} {b} ra d =
      ap (λ x. mul h1 n x d.t-back)
      (ap (λ x. mul h1 n d.s-back x) (sym d.is ∙ assoc d.s a d.t)
      ∙ cancel-middle h1 n n d.s-back d.s _ d.s-inverse.left (mul-residues (hq h1) n n n a d.t))
      ∙ (assoc a d.t d.t-back ∙ (ap (λ x. mul h1 n a x) d.t-inverse.right ∙ mul-id h1 n n ra))

  unfoldable pub equivalent-sym : {a b : List ℕ} → Residues q (n * n) a → Equivalent q n a b → Equivalent q n b a
  equivalent-sym {a} {b} ra d = record {
    s = d.s-back;
    s-back = d.s;
    t = d.t-back;
    t-back = d.t;
    s-ok = d.s-inverse.residues;
    t-ok = d.t-inverse.residues;
    s-inverse = inverse-swap h1 d.s-ok d.s-inverse;
    t-inverse = inverse-swap h1 d.t-ok d.t-inverse;
    is = equivalent-back ra d;
  }

  pub equivalent-flip : {a b : List ℕ} → Equivalent q n a b → Equivalent q n (flip_mat n a) (flip_mat n b)
  equivalent-flip {a} {b} d = record {
    s = flip_mat n d.t;
    s-back = flip_mat n d.t-back;
    t = flip_mat n d.s;
    t-back = flip_mat n d.s-back;
    s-ok = flip-residues n d.t-ok;
    t-ok = flip-residues n d.s-ok;
    s-inverse = flip-inverse h1 n d.t-inverse;
    t-inverse = flip-inverse h1 n d.s-inverse;
    is = assoc _ _ _
        ∙ (ap (λ x. mul h1 n (flip_mat n d.t) x) (sym (flip-mul h1 n d.s a)) ∙ (sym (flip-mul h1 n (mul h1 n d.s a) d.t) ∙ ap (flip_mat n) d.is));
  }

  pub equivalent-blinded : {a pm qm pi qi : List ℕ} → Residues q (n * n) pm → Residues q (n * n) qm → Inverse q n pm pi → Inverse q n qm qi
      → Equivalent q n a (mat_mul q n n n (mat_mul q n n n pm a) qm)
  equivalent-blinded {a} {pm} {qm} {pi} {qi} rp rq i j =
      record { s = pm; s-back = pi; t = qm; t-back = qi; s-ok = rp; t-ok = rq; s-inverse = i; t-inverse = j; is = refl }
