-- Modulo a prime, a matrix with an inverse carries any vector that is not 0 to any other: each is row equivalent to the first column of the
-- identity.
--   Carrier q n b b'      a matrix T with an inverse, and T × b' = b
--   carrier               there is one where b and b' are both 0 or both not
use mathlib.Core.Path.{◌≡◌, refl, sym, ap, ◌∙◌}
use mathlib.Core.Logic.{◌↔◌}
use mathlib.Core.Bool.{Bool, true, false, false≢true}
use mathlib.Core.List.{List}
use Prim.Native.Nat.{ℕ, ◌+◌, ◌*◌, ◌<◌}
use native.Mathlib.Decide.{dec_lt}
use native.Mathlib.Omega.{arith}
use Rattle.algebra.specs.Prime.{Prime}
use Rattle.algebra.specs.Matrix.{zeros, Residues, mat_mul}
use Rattle.algebra.specs.Count.{eq_list}
use Rattle.algebra.specs.Inverse.{id_mat}
use Rattle.algebra.specs.Elimination.{pivot, step, entry, matrix}
use Rattle.algebra.proofs.Congruence.{cong-eq}
use Rattle.algebra.proofs.Tests.{eq_list-eq, eq_list-of}
use Rattle.algebra.proofs.Lists.{zeros-at, zeros-residues, mul-residues}
use Rattle.algebra.proofs.Matrix.{matrix-at, matrix-residues, column-ext, mul_assoc}
use Rattle.algebra.proofs.Identity.{hq, delta, delta-below, id-residues, id-mul}
use Rattle.algebra.proofs.Inverse.{Inverse, id-inverse, inverse-swap, inverse-mul, cancel-middle}
use Rattle.algebra.proofs.RowEquivalence.{RowEquivalent}
use Rattle.algebra.proofs.Elementary.{step-below, Units, step-equivalent, step-units}
use Rattle.algebra.proofs.Elimination.{Pivot, pivot-law}

pub record Carrier (q n : ℕ) (b b' : List ℕ) : Type 0 where
  pub matrix : List ℕ
  pub inverse : List ℕ
  pub residues : Residues q (n * n) matrix
  pub is_inverse : Inverse q n matrix inverse
  pub carries : mat_mul q n n 1 matrix b' ≡ b

-- the first column of the identity
unit_vector : ℕ → List ℕ
unit_vector n = matrix n 1 (λ i j. delta i 0)

module _ {q : ℕ} (p : Prime q) (n : ℕ) where
  h : 0 < q
  h = hq p.two

  -- one step of elimination, at column 0 of the n by 1 matrix
  to-unit : {b : List ℕ} → Residues q (n * 1) b → ((b ≡ zeros (n * 1)) → ⊥) → RowEquivalent q n 1 b (unit_vector n)
  to-unit {b} rb nonzero = go (dec_lt r n)
    where
      r : ℕ
      r = pivot n 0 (entry 1 b)

      law : Pivot n 0 r (λ i. entry 1 b i 0)
      law = pivot-law n 0 (entry 1 b) (omega arith)

      next : List ℕ
      next = matrix n 1 (step q 0 r (entry 1 b))

      go : Dec (r < n) → RowEquivalent q n 1 b (unit_vector n)
      go (no l) = absurd (nonzero (column-ext h n rb (zeros-residues h (n * 1)) (λ i hi.
          cong-eq (law.passed i (omega arith) (omega arith) ∙ sym (zeros-at (n * 1) (i * 1 + 0) (omega arith))))))
      go (yes l) = rw (sym is-unit) (step-equivalent p n 1 0 r b (omega arith) l (omega arith) rb (law.found l))
        where
          units : Units n 1 1 next
          units = step-units p n 1 0 r b (omega arith) (omega arith) l (omega arith) rb (law.found l) (record { at = λ i j hi hj. absurd (omega arith) })

          is-unit : next ≡ unit_vector n
          is-unit = unfold unit_vector in column-ext h n (matrix-residues n 1 (step q 0 r (entry 1 b)) (λ i j hi hj. step-below h 0 r (entry 1 b) i j))
              (matrix-residues n 1 (λ i j. delta i 0) (λ i j hi hj. delta-below p.two i 0)) (λ i hi.
              cong-eq (units.at i 0 hi (omega arith) ∙ sym (matrix-at n 1 (λ x y. delta x 0) i 0 hi (omega arith))))

  carrier-nonzero : {b b' : List ℕ} → Residues q (n * 1) b → Residues q (n * 1) b' → ((b ≡ zeros (n * 1)) → ⊥) → ((b' ≡ zeros (n * 1)) → ⊥) → Carrier q n b b'
  carrier-nonzero {b} {b'} rb rb' d d' =
      let u = to-unit rb d in
      let v = to-unit rb' d' in
      record {
        matrix = mat_mul q n n n u.back v.by;
        inverse = mat_mul q n n n v.back u.by;
        residues = mul-residues h n n n _ _;
        is_inverse = inverse-mul p.two v.by-residues (inverse-swap p.two u.by-residues u.inverse) v.inverse;
        carries = mul_assoc h n n n 1 u.back v.by b'
            ∙ (ap (λ z. mat_mul q n n 1 u.back z) (sym v.is ∙ u.is) ∙ cancel-middle p.two n 1 u.back u.by b u.inverse.left rb);
      }

  pub carrier : (b b' : List ℕ) → Residues q (n * 1) b → Residues q (n * 1) b' → (b ≡ zeros (n * 1)) ↔ (b' ≡ zeros (n * 1)) → Carrier q n b b'
  carrier b b' rb rb' z = go (eq_list b (zeros (n * 1))) refl
    where
      go : (t : Bool) → eq_list b (zeros (n * 1)) ≡ t → Carrier q n b b'
      go true e =
          let eb : b ≡ zeros (n * 1) = eq_list-eq _ _ e in
          record {
            matrix = id_mat n;
            inverse = id_mat n;
            residues = id-residues p.two n;
            is_inverse = id-inverse p.two n;
            carries = id-mul p.two n 1 rb' ∙ (z.0 eb ∙ sym eb);
          }
      go false e = carrier-nonzero rb rb' (λ d. false≢true (sym e ∙ eq_list-of d)) (λ d. false≢true (sym e ∙ eq_list-of (z.1 d)))
