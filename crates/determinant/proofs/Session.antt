-- The determinant session: what the solver adds up is P × (L + M) × Q (algebra's proofs/System, `matrix-right` with rhs 0), and the blinder's
-- answer is the determinant of L + M.
--   divides, divided           division modulo a prime
--   answer-of, of-answer       det (P × A × Q) is d exactly where det A is the answer
--   sum-right                  W + V = P × (L + M) × Q
--   determinant-right          the answer is det (L + M)
use mathlib.Core.Path.{◌≡◌, sym, ap}
use mathlib.Core.Logic.{⊎_elim}
use mathlib.Core.Bool.{true}
use mathlib.Core.List.{List}
use Prim.Native.Nat.{ℕ, ◌+◌, ◌*◌, ◌%◌, ◌<◌}
use native.Mathlib.Omega.{arith}
use native.Mathlib.Decide.{ℕ_discrete}
use native.Mathlib.Nat.{mod-lt}
use lib.ListN.{length}
use Rattle.algebra.specs.Residue.{mul_mod, inverse}
use Rattle.algebra.specs.Prime.{Prime}
use Rattle.algebra.specs.Matrix.{mat_add, mat_mul}
use Rattle.algebra.specs.Inverse.{has_inverse}
use Rattle.algebra.specs.Product.{deal_b, send_y, send_x, send_r}
use Rattle.algebra.specs.System.{beside, deal_v, solver_share, send_f, send_w, sum_matrix}
use Rattle.algebra.proofs.Congruence.{Cong, cong-eq, cong-refl, cong-sym, cong-mul, cong-mul-left, cong-mod, cong-residue}
use Rattle.algebra.proofs.Residue.{inverse-law, euclid}
use Rattle.algebra.proofs.Matrix.{Sum}
use Rattle.algebra.proofs.Inverse.{hq}
use Rattle.algebra.proofs.System.{shares_of, matrix-right}
use Rattle.determinant.specs.Determinant.{det}
use Rattle.determinant.specs.Session.{div_mod, send_d, answer}
use Rattle.determinant.proofs.Chains.{◌⨾◌}
use Rattle.determinant.proofs.Determinant.{det-residue, det-product, inverse-det}

-- ---- division

module _ {q : ℕ} (p : Prime q) (u : ℕ) (unit : 0 < u % q) where
  z : 0 < q
  z = hq p.two

  over-law : Cong q (u * inverse q (u % q)) 1
  over-law = cong-mul (cong-sym (cong-mod u)) (cong-refl (inverse q (u % q))) ⨾ inverse-law p (u % q) unit (mod-lt u z)

  -- x × u = d exactly where x = d / u
  pub divides : (x d : ℕ) → x < q → Cong q (x * u) d → div_mod q d u ≡ x
  unfolding div_mod mul_mod
  divides x d l e =
      cong-residue z
      (cong-mod _ ⨾ cong-mul (cong-sym e) (cong-refl (inverse q (u % q))) ⨾ cong-eq (omega arith) ⨾ cong-mul-left x over-law ⨾ cong-eq (omega arith))
      (mod-lt _ z) l

  pub divided : (x d : ℕ) → x ≡ div_mod q d u → Cong q (x * u) d
  unfolding div_mod mul_mod
  divided x d e =
      cong-mul (cong-eq e ⨾ cong-mod _) (cong-refl u) ⨾ cong-eq (omega arith) ⨾ cong-mul-left d over-law ⨾ cong-eq (omega arith)

-- ---- the blinded determinant

module _ {q : ℕ} (p : Prime q) (n : ℕ) where
  hz : 0 < q
  hz = hq p.two

  -- that of a matrix with an inverse is not 0
  not-zero : (a : List ℕ) → has_inverse q n a ≡ true → Cong q (det q n a) 0 → ⊥
  not-zero a t e =
      let here = cong-residue hz e (det-residue hz n a) hz in
      omega (arith, inverse-det p.two n a t)

  pub blinding-unit : (pm qm : List ℕ) → has_inverse q n pm ≡ true → has_inverse q n qm ≡ true → 0 < det q n pm * det q n qm % q
  blinding-unit pm qm tp tq = elim (ℕ_discrete (det q n pm * det q n qm % q) 0) [
    | yes e ↦ absurd (⊎_elim (not-zero pm tp) (not-zero qm tq) (euclid p (det q n pm) (det q n qm) (cong-sym (cong-mod _) ⨾ cong-eq e)))
    | no d ↦ omega arith
  ]

  pub blinded-det : (pm a qm : List ℕ) → Cong q (det q n (mat_mul q n n n (mat_mul q n n n pm a) qm)) (det q n a * (det q n pm * det q n qm))
  blinded-det pm a qm =
      det-product hz n (mat_mul q n n n pm a) qm ⨾ cong-mul (det-product hz n pm a) (cong-refl (det q n qm)) ⨾ cong-eq (omega arith)

  -- the determinant of P × A × Q is d exactly where that of A is the answer
  pub answer-of : (pm a qm : List ℕ) (d : ℕ) → has_inverse q n pm ≡ true → has_inverse q n qm ≡ true
      → d ≡ det q n (mat_mul q n n n (mat_mul q n n n pm a) qm) → answer q n pm qm d ≡ det q n a
  unfolding answer
  answer-of pm a qm d tp tq e =
      divides p (det q n pm * det q n qm) (blinding-unit pm qm tp tq) (det q n a) d (det-residue hz n a) (cong-sym (blinded-det pm a qm) ⨾ cong-eq (sym e))

  pub of-answer : (pm a qm : List ℕ) (d : ℕ) → has_inverse q n pm ≡ true → has_inverse q n qm ≡ true → d < q
      → det q n a ≡ answer q n pm qm d → d ≡ det q n (mat_mul q n n n (mat_mul q n n n pm a) qm)
  unfolding answer
  of-answer pm a qm d tp tq l e =
      cong-residue hz (cong-sym (blinded-det pm a qm ⨾ divided p (det q n pm * det q n qm) (blinding-unit pm qm tp tq) (det q n a) d e)) l (det-residue hz n _)

-- ---- the session. x has no columns

-- what the solver adds up: W + V = P × (L + M) × Q
pub sum-right : {q : ℕ} → 1 < q → (n : ℕ) (l x m pm qm r g x0 y0 a0 u0 s : List ℕ) → length l ≡ n * n → length x ≡ n * 0
    → s ≡ solver_share q n 0 (send_x q n n (n + 0) pm x0) y0 (send_r q n n (n + 0) pm (send_y q n n (n + 0) (beside n n 0 l x) y0) u0 a0)
    (deal_b q n n (n + 0) x0 y0 a0)
    → sum_matrix q n (send_w q n 0 u0 (send_f q n 0 r s) qm pm m g) (deal_v q n r qm g) ≡ mat_mul q n n n (mat_mul q n n n pm (mat_add q (n * n) l m)) qm
sum-right {q} h1 n l x m pm qm r g x0 y0 a0 u0 s hl hx es =
    let h : Sum q (n * (n + 0)) u0 s (mat_mul q n n (n + 0) pm (beside n n 0 l x)) = rw es (shares_of h1 n 0 l x pm x0 y0 a0 u0) in
    matrix-right (hq h1) n 0 pm qm r g l m x x u0 s hl hx h

-- DEMAND 2, determinants: where both ends follow the rules, the blinder's answer is the determinant of L + M
pub determinant-right : {q : ℕ} (p : Prime q) (n : ℕ) (l x m pm qm r g x0 y0 a0 u0 s : List ℕ) → length l ≡ n * n → length x ≡ n * 0
    → has_inverse q n pm ≡ true → has_inverse q n qm ≡ true
    → s ≡ solver_share q n 0 (send_x q n n (n + 0) pm x0) y0 (send_r q n n (n + 0) pm (send_y q n n (n + 0) (beside n n 0 l x) y0) u0 a0)
    (deal_b q n n (n + 0) x0 y0 a0)
    → answer q n pm qm (send_d q n (send_w q n 0 u0 (send_f q n 0 r s) qm pm m g) (deal_v q n r qm g)) ≡ det q n (mat_add q (n * n) l m)
unfolding send_d
determinant-right {q} p n l x m pm qm r g x0 y0 a0 u0 s hl hx tp tq es =
    answer-of p n pm (mat_add q (n * n) l m) qm _ tp tq (ap (det q n) (sum-right p.two n l x m pm qm r g x0 y0 a0 u0 s hl hx es))
