-- The rank of a matrix modulo a prime.
--   has-rank, ranked            `has_rank` says that A is equivalent to the diagonal of r ones
--   rank_is, rank-has           every matrix is equivalent to that of `rank` ones, and to no other
--   rank-equivalent             equivalent matrices have the same rank; rank-blinded: so P × A × Q has that of A, for P and Q with an inverse
--   same_rank                   matrices of the same rank are equivalent
--   inverse-rank rank-inverse   it is n exactly where there is an inverse; det-rank: where the determinant is not 0
--   kernel-rank                 A × x = 0 has q ^ (n − rank) solutions
use mathlib.Core.Path.{◌≡◌, refl, sym, ap, ◌∙◌}
use mathlib.Core.Bool.{Bool, true, false, cond, false≢true}
use mathlib.Core.List.{List, [], ◌∷◌}
use Prim.Native.Nat.{ℕ, zero, suc, ◌*◌, ◌-◌, ◌^◌, ◌≤◌, ◌<◌}
use native.Mathlib.Omega.{arith}
use native.Mathlib.Decide.{ℕ_discrete}
use lib.Dec.{eqb, ltb}
use borrow.Author.Tests.{lt-ltb, ltb-true, eq-eqb, eqb-true}
use Rattle.algebra.specs.Prime.{Prime}
use Rattle.algebra.specs.Matrix.{Residues, mat_mul}
use Rattle.algebra.specs.Count.{both, eq_list, part}
use Rattle.algebra.specs.Inverse.{id_mat, has_inverse}
use Rattle.algebra.proofs.Congruence.{cong-eq}
use Rattle.algebra.proofs.Tests.{and_left, and_right, and_both, eq_list-eq, eq_list-of, same_test}
use Rattle.algebra.proofs.Lists.{mul-residues}
use Rattle.algebra.proofs.Matrix.{matrix-ext}
use Rattle.algebra.proofs.Parts.{Fits, none, ◌then◌}
use Rattle.algebra.proofs.Identity.{hq, id-delta, id-residues, mul-id}
use Rattle.algebra.proofs.Inverse.{Inverse, id-inverse, inverse-mul, inverse-swap, inverse-of, has-inverse}
use Rattle.determinant.specs.Determinant.{det}
use Rattle.determinant.specs.Rank.{diagonal_mat, has_rank, rank_to, rank, kernel}
use Rattle.determinant.proofs.Counting.{some-passes, passing-of}
use Rattle.determinant.proofs.Determinant.{det-inverse}
use Rattle.determinant.proofs.Equivalence.{Equivalent, equivalent-trans, equivalent-sym, equivalent-blinded}
use Rattle.determinant.proofs.Normal.{diagonal-in, diagonal-at, diagonal-residues, normal}
use Rattle.determinant.proofs.Kernel.{kernel-equivalent, kernel-diagonal, ones-unique}

pub has-rank : {q n : ℕ} {a : List ℕ} (r : ℕ) → 1 < q → Equivalent q n a (diagonal_mat n r) → has_rank q n a r ≡ true
unfolding has_rank
has-rank {q} {n} {a} r h w =
    lt-ltb 0 _ (some-passes q (n * n ∷ n * n ∷ []) _ (w.s ∷ w.t ∷ []) (w.s-ok then w.t-ok then none)
    (and_both (eq_list-of w.is) (and_both (has-inverse h w.s-inverse) (has-inverse h w.t-inverse))))

pub ranked : {q n : ℕ} (a : List ℕ) (r : ℕ) → has_rank q n a r ≡ true → Equivalent q n a (diagonal_mat n r)
unfolding has_rank
ranked {q} {n} a r e = let o = passing-of q (n * n ∷ n * n ∷ []) _ (ltb-true 0 _ e) in go o.0 o.1 o.2
  where
    go : (ls : List (List ℕ)) → Fits q (n * n ∷ n * n ∷ []) ls
        → both (eq_list (mat_mul q n n n (mat_mul q n n n (part 0 ls) a) (part 1 ls)) (diagonal_mat n r))
        (both (has_inverse q n (part 0 ls)) (has_inverse q n (part 1 ls))) ≡ true
        → Equivalent q n a (diagonal_mat n r)
    go ls (◌then◌ {l = s} rs (◌then◌ {l = t} rt none)) p =
        let e1 = and_right _ _ p in
        let i = inverse-of s (and_left _ _ e1) in
        let j = inverse-of t (and_right _ _ e1) in
        record { s = s; s-back = i.0; t = t; t-back = j.0; s-ok = rs; t-ok = rt; s-inverse = i.1; t-inverse = j.1; is = eq_list-eq _ _ (and_left _ _ p) }

module _ {q : ℕ} (p : Prime q) (n : ℕ) where
  h1 : 1 < q
  h1 = p.two

  z : 0 < q
  z = hq h1

  rank-to : {a : List ℕ} (k r : ℕ) → k ≤ n → r ≤ k → Equivalent q n a (diagonal_mat n r) → rank_to q n a k ≡ r
  unfolding rank_to
  rank-to zero r lk lr w = omega arith
  rank-to {a} (suc k) r lk lr w = go (has_rank q n a (suc k)) refl (λ m. rank-to k r (omega arith) m w)
    where
      go : (b : Bool) → has_rank q n a (suc k) ≡ b → (r ≤ k → rank_to q n a k ≡ r) → cond (has_rank q n a (suc k)) (suc k) (rank_to q n a k) ≡ r
      go true e later = rw e (ones-unique h1 n (suc k) r lk (omega arith) (ranked a (suc k) e) w)
      go false e later = rw e (later (smaller (ℕ_discrete r (suc k))))
        where
          smaller : Dec (r ≡ suc k) → r ≤ k
          smaller (yes f) = absurd (false≢true (sym e ∙ (ap (λ x. has_rank q n a x) (sym f) ∙ has-rank r h1 w)))
          smaller (no d) = omega arith

  -- no other number of ones
  pub rank_is : {a : List ℕ} (r : ℕ) → r ≤ n → Equivalent q n a (diagonal_mat n r) → rank q n a ≡ r
  unfolding rank
  rank_is r l w = rank-to n r (omega arith) l w

  pub rank-has : {a : List ℕ} → Residues q (n * n) a → Equivalent q n a (diagonal_mat n (rank q n a))
  rank-has {a} ra = let w = normal p n ra in rw (rank_is w.0 w.1 w.2) w.2

  rank-to-most : (a : List ℕ) (k : ℕ) → rank_to q n a k ≤ k
  unfolding rank_to
  rank-to-most a zero = omega arith
  rank-to-most a (suc k) = go (has_rank q n a (suc k)) (rank-to-most a k)
    where
      go : (b : Bool) → rank_to q n a k ≤ k → cond b (suc k) (rank_to q n a k) ≤ suc k
      go true l = omega arith
      go false l = omega arith

  pub rank-at-most : (a : List ℕ) → rank q n a ≤ n
  unfolding rank
  rank-at-most a = rank-to-most a n

  -- ---- equivalent matrices

  pub rank-equivalent : {a b : List ℕ} → Residues q (n * n) a → Equivalent q n a b → rank q n b ≡ rank q n a
  rank-equivalent {a} ra d = rank_is (rank q n a) (rank-at-most a) (equivalent-trans h1 n (equivalent-sym h1 n ra d) (rank-has ra))

  pub same_rank : {a b : List ℕ} → Residues q (n * n) a → Residues q (n * n) b → rank q n a ≡ rank q n b → Equivalent q n a b
  same_rank {a} {b} ra rb e = equivalent-trans h1 n (rank-has ra) (rw e (equivalent-sym h1 n rb (rank-has rb)))

  pub rank-blinded : (a pm qm : List ℕ) → Residues q (n * n) a → Residues q (n * n) pm → Residues q (n * n) qm
      → has_inverse q n pm ≡ true → has_inverse q n qm ≡ true
      → rank q n (mat_mul q n n n (mat_mul q n n n pm a) qm) ≡ rank q n a
  rank-blinded a pm qm ra rp rq tp tq = rank-equivalent ra (equivalent-blinded h1 n rp rq (inverse-of pm tp).1 (inverse-of qm tq).1)

  pub kernel-rank : {a : List ℕ} → Residues q (n * n) a → kernel q n a ≡ q ^ (n - rank q n a)
  kernel-rank {a} ra = kernel-equivalent h1 n (rank-has ra) ∙ kernel-diagonal h1 n (rank q n a) (rank-at-most a)

  -- ---- matrices with an inverse

  all_ones : diagonal_mat n n ≡ id_mat n
  all_ones = matrix-ext z n n (diagonal-residues h1 n n) (id-residues h1 n) (λ i j hi hj.
      cong-eq (diagonal-at n n i j hi hj ∙ (diagonal-in n i j hi ∙ sym (id-delta n i j hi hj))))

  pub inverse-rank : {a : List ℕ} → Residues q (n * n) a → has_inverse q n a ≡ true → rank q n a ≡ n
  inverse-rank {a} ra t = rank_is n (omega arith) (record {
    s = i.0;
    s-back = a;
    t = id_mat n;
    t-back = id_mat n;
    s-ok = i.1.residues;
    t-ok = id-residues h1 n;
    s-inverse = inverse-swap h1 ra i.1;
    t-inverse = id-inverse h1 n;
    is = mul-id h1 n n (mul-residues z n n n _ _) ∙ (i.1.left ∙ sym all_ones);
  })
    where
      i : (c : List ℕ) × Inverse q n a c
      i = inverse-of a t

  -- A = S' × T'
  pub rank-inverse : {a : List ℕ} → Residues q (n * n) a → rank q n a ≡ n → has_inverse q n a ≡ true
  rank-inverse {a} ra e =
      let w = equivalent-sym h1 n ra (rank-has ra) in
      ap (has_inverse q n)
      (sym w.is ∙ ap (λ x. mat_mul q n n n x w.t) (ap (λ x. mat_mul q n n n w.s x) (ap (diagonal_mat n) e ∙ all_ones) ∙ mul-id h1 n n w.s-ok))
      ∙ has-inverse h1 (inverse-mul h1 w.t-ok w.s-inverse w.t-inverse)

  -- both ways, and by the determinant
  pub rank-whole : {a : List ℕ} → Residues q (n * n) a → eqb (rank q n a) n ≡ has_inverse q n a
  rank-whole {a} ra = same_test _ _ (λ e. rank-inverse ra (eqb-true _ _ e)) (λ t. eq-eqb _ _ (inverse-rank ra t))

  pub det-rank : {a : List ℕ} → Residues q (n * n) a → eqb (rank q n a) n ≡ ltb 0 (det q n a)
  det-rank ra = rank-whole ra ∙ det-inverse p n ra
