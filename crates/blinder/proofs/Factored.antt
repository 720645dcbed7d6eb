-- W by two products: Q is taken out of the bracket.
--   inner-length   the count of P × M + U' − F
--   factored
-- Assumes nothing.
use mathlib.Core.Path.{◌≡◌, sym, ap, ◌∙◌}
use mathlib.Core.List.{List}
use Prim.Native.Nat.{ℕ, ◌*◌, ◌<◌}
use native.Mathlib.Omega.{arith}
use lib.ListN.{length}
use Rattle.algebra.specs.Matrix.{mat_add, mat_sub, mat_mul}
use Rattle.algebra.specs.System.{send_w}
use Rattle.algebra.proofs.Congruence.{cong-sym, linear, ◌⊕◌}
use Rattle.algebra.proofs.Lists.{add-residues, sub-residues}
use Rattle.algebra.proofs.Matrix.{sum-add, sum-sub, is-sub, mul-add-left}
use Rattle.blinder.specs.Second.{inner_w}

module _ {q : ℕ} (hq : 0 < q) where
  -- (u − f) + k is k + u − f
  moved : (n : ℕ) (u f k : List ℕ) → mat_add q n (mat_sub q n u f) k ≡ mat_sub q n (mat_add q n k u) f
  moved n u f k = is-sub hq (add-residues hq n _ _) (record {
    at = λ e l. linear hq ((sum-add hq n k u).at e l ⊕ cong-sym ((sum-add hq n (mat_sub q n u f) k).at e l) ⊕ (sum-sub hq n u f).at e l) (omega arith);
  })

  module _ (n rhs : ℕ) (u0 f pm mm : List ℕ) where
    pub inner-length : length (inner_w q n rhs u0 f pm mm) ≡ n * n
    unfolding inner_w
    inner-length = (sub-residues hq (n * n) _ _).size

    pub factored : (qm g : List ℕ) → mat_sub q (n * n) (mat_mul q n n n (inner_w q n rhs u0 f pm mm) qm) g ≡ send_w q n rhs u0 f qm pm mm g
    unfolding inner_w send_w
    factored qm g =
        ap (λ (a : List ℕ). mat_sub q (n * n) a g)
        (ap (λ (a : List ℕ). mat_mul q n n n a qm) (sym (moved (n * n) _ f _)) ∙ mul-add-left hq n n n _ _ qm)
