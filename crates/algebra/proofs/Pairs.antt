-- Pairs P, Q of matrices with an inverse for which P × A × Q and P × b are given. They are as many for any two A, A' with an inverse and any
-- two b, b' that a matrix with an inverse carries into each other.
--   pair_test, pairs       a pair, and how many there are
--   pairs-by              equally many
use mathlib.Core.Path.{◌≡◌, sym, ap, ap₂, ◌∙◌}
use mathlib.Core.Bool.{Bool, true}
use mathlib.Core.List.{List, [], ◌∷◌}
use Prim.Native.Nat.{ℕ, ◌*◌, ◌<◌}
use Rattle.algebra.specs.Matrix.{Residues, mat_mul}
use Rattle.algebra.specs.Count.{both, eq_list, part, count_parts}
use Rattle.algebra.specs.Inverse.{id_mat, has_inverse}
use Rattle.algebra.proofs.Lists.{mul-residues}
use Rattle.algebra.proofs.Matrix.{mul_assoc}
use Rattle.algebra.proofs.Count.{and_left, and_right, and_both, eq_list-eq, eq_list-of}
use Rattle.algebra.proofs.Parts.{Fits, none, ◌then◌, InjectsParts, parts-transfer}
use Rattle.algebra.proofs.Inverse.{hq, mul-id, Inverse, cancel-middle, inverse-mul, inverse-swap, inverse-of, has-inverse}

-- P × A × Q is N and P × b is d, and P and Q have an inverse
unfoldable pub pair_test : (q n rhs : ℕ) → List ℕ → List ℕ → List ℕ → List ℕ → List (List ℕ) → Bool
pair_test q n rhs a b big d t =
    both (eq_list big (mat_mul q n n n (mat_mul q n n n (part 0 t) a) (part 1 t)))
    (both (eq_list d (mat_mul q n n rhs (part 0 t) b)) (both (has_inverse q n (part 0 t)) (has_inverse q n (part 1 t))))

unfoldable pub pairs : (q n rhs : ℕ) → List ℕ → List ℕ → List ℕ → List ℕ → ℕ
pairs q n rhs a b big d = count_parts q (n * n ∷ n * n ∷ []) (λ t. pair_test q n rhs a b big d t)

-- P times T, and K times Q
move : (q n : ℕ) → List ℕ → List ℕ → List (List ℕ) → List (List ℕ)
move q n tm km t = mat_mul q n n n (part 0 t) tm ∷ mat_mul q n n n km (part 1 t) ∷ []

module _ {q : ℕ} (h1 : 1 < q) (n rhs : ℕ) where
  -- what T, with inverse T', and K, with inverse K', have to do
  pub record Moves (a b a' b' tm ti km ki : List ℕ) : Type 0 where
    pub t-ok : Residues q (n * n) tm
    pub t-inv : Inverse q n tm ti
    pub k-ok : Residues q (n * n) km
    pub k-inv : Inverse q n km ki
    pub on-matrix : mat_mul q n n n tm (mat_mul q n n n a' km) ≡ a
    pub on-vector : mat_mul q n n rhs tm b' ≡ b

  moves-maps : (a b a' b' tm ti km ki big d : List ℕ) → Moves a b a' b' tm ti km ki
      → InjectsParts q (n * n ∷ n * n ∷ []) (n * n ∷ n * n ∷ []) (λ t. pair_test q n rhs a b big d t) (λ t. pair_test q n rhs a' b' big d t) (move q n tm km) (move q n ti ki)
  unfolding pair_test move
  moves-maps a b a' b' tm ti km ki big d v = record { fits = fits; passes = passes; back = back }
    where
      fits : (ls : List (List ℕ)) → Fits q (n * n ∷ n * n ∷ []) ls → pair_test q n rhs a b big d ls ≡ true → Fits q (n * n ∷ n * n ∷ []) (move q n tm km ls)
      fits ls f e = mul-residues (hq h1) n n n _ _ then mul-residues (hq h1) n n n _ _ then none

      back : (ls : List (List ℕ)) → Fits q (n * n ∷ n * n ∷ []) ls → pair_test q n rhs a b big d ls ≡ true → move q n ti ki (move q n tm km ls) ≡ ls
      back ls (◌then◌ {l = pm} rp (◌then◌ {l = qm} rq none)) e =
          ap₂ (λ s t. s ∷ t ∷ [])
          (mul_assoc (hq h1) n n n n pm tm ti ∙ (ap (λ z. mat_mul q n n n pm z) v.t-inv.right ∙ mul-id h1 n n rp))
          (cancel-middle h1 n n ki km qm v.k-inv.left rq)

      mul : List ℕ → List ℕ → List ℕ
      mul x y = mat_mul q n n n x y

      assoc : (x y z : List ℕ) → mul (mul x y) z ≡ mul x (mul y z)
      assoc x y z = mul_assoc (hq h1) n n n n x y z

      matrix : (pm qm : List ℕ) → mul (mul (mul pm tm) a') (mul km qm) ≡ mul (mul pm a) qm
      matrix pm qm =
          simp assoc (ap (λ z. mul pm z) (sym (assoc tm (mul a' km) qm ∙ ap (λ z. mul tm z) (assoc a' km qm)) ∙ ap (λ z. mul z qm) v.on-matrix))

      vector : (pm : List ℕ) → mat_mul q n n rhs (mul pm tm) b' ≡ mat_mul q n n rhs pm b
      vector pm = mul_assoc (hq h1) n n n rhs pm tm b' ∙ ap (λ z. mat_mul q n n rhs pm z) v.on-vector

      passes : (ls : List (List ℕ)) → Fits q (n * n ∷ n * n ∷ []) ls → pair_test q n rhs a b big d ls ≡ true → pair_test q n rhs a' b' big d (move q n tm km ls) ≡ true
      passes ls (◌then◌ {l = pm} rp (◌then◌ {l = qm} rq none)) e =
          let e' = and_right _ _ e in
          let e'' = and_right _ _ e' in
          and_both (eq_list-of (eq_list-eq _ _ (and_left _ _ e) ∙ sym (matrix pm qm)))
          (and_both (eq_list-of (eq_list-eq _ _ (and_left _ _ e') ∙ sym (vector pm)))
          (and_both (has-inverse h1 (inverse-mul h1 v.t-ok (inverse-of pm (and_left _ _ e'')).1 v.t-inv))
          (has-inverse h1 (inverse-mul h1 rq v.k-inv (inverse-of qm (and_right _ _ e'')).1))))

  -- as many pairs for the one matrix and vector as for the other
  pub pairs-same : (a b a' b' tm ti km ki big d : List ℕ) → Moves a b a' b' tm ti km ki → Moves a' b' a b ti tm ki km
      → pairs q n rhs a b big d ≡ pairs q n rhs a' b' big d
  unfolding pairs
  pairs-same a b a' b' tm ti km ki big d to from =
      parts-transfer q (n * n ∷ n * n ∷ []) (n * n ∷ n * n ∷ []) (λ t. pair_test q n rhs a b big d t) (λ t. pair_test q n rhs a' b' big d t) (move q n tm km) (move q n ti ki)
      (moves-maps a b a' b' tm ti km ki big d to) (moves-maps a' b' a b ti tm ki km big d from)

  collapse : (a a' ai ai' tm ti : List ℕ) → Residues q (n * n) a' → Inverse q n a ai → Inverse q n a' ai' → mat_mul q n n n ti tm ≡ id_mat n
      → mat_mul q n n n (mat_mul q n n n ai' (mat_mul q n n n ti a)) (mat_mul q n n n ai (mat_mul q n n n tm a')) ≡ id_mat n
  collapse a a' ai ai' tm ti ra i i' e =
      mul_assoc (hq h1) n n n n ai' _ _
      ∙ (ap (λ z. mat_mul q n n n ai' z)
      (mul_assoc (hq h1) n n n n ti a _
      ∙ (ap (λ z. mat_mul q n n n ti z) (cancel-middle h1 n n a ai _ i.right (mul-residues (hq h1) n n n _ _)) ∙ cancel-middle h1 n n ti tm a' e ra))
      ∙ i'.left)

  make-moves : (a b a' b' tm ti ai ai' : List ℕ) → Residues q (n * n) a → Residues q (n * n) a' → Residues q (n * n) tm
      → Inverse q n a ai → Inverse q n a' ai' → Inverse q n tm ti → mat_mul q n n rhs tm b' ≡ b
      → Moves a b a' b' tm ti (mat_mul q n n n ai' (mat_mul q n n n ti a)) (mat_mul q n n n ai (mat_mul q n n n tm a'))
  make-moves a b a' b' tm ti ai ai' ra ra' rt i i' j e = record {
    t-ok = rt;
    t-inv = j;
    k-ok = mul-residues (hq h1) n n n _ _;
    k-inv = record {
      residues = mul-residues (hq h1) n n n _ _;
      right = collapse a a' ai ai' tm ti ra' i i' j.left;
      left = collapse a' a ai' ai ti tm ra i' i j.right;
    };
    on-matrix =
        ap (λ z. mat_mul q n n n tm z) (cancel-middle h1 n n a' ai' _ i'.right (mul-residues (hq h1) n n n _ _)) ∙ cancel-middle h1 n n tm ti a j.right ra;
    on-vector = e;
  }

  -- where some T with an inverse carries b' to b, any two matrices with an inverse have as many pairs
  pub pairs-by : (a b a' b' tm ti ai ai' big d : List ℕ) → Residues q (n * n) a → Residues q (n * n) a' → Residues q (n * rhs) b' → Residues q (n * n) tm
      → Inverse q n a ai → Inverse q n a' ai' → Inverse q n tm ti → mat_mul q n n rhs tm b' ≡ b → pairs q n rhs a b big d ≡ pairs q n rhs a' b' big d
  pairs-by a b a' b' tm ti ai ai' big d ra ra' rb rt i i' j e =
      pairs-same a b a' b' tm ti _ _ big d (make-moves a b a' b' tm ti ai ai' ra ra' rt i i' j e)
      (make-moves a' b' a b ti tm ai' ai ra' ra j.residues i' i (inverse-swap h1 rt j)
      (ap (λ z. mat_mul q n n rhs ti z) (sym e) ∙ cancel-middle h1 n rhs ti tm b' j.left rb))
