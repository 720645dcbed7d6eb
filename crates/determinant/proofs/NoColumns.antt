-- A determinant session's matrices, which have no right-hand sides: algebra's formulas with rhs 0 in the shape that the rules write, with p = n.
--   no-columns none-residues          a matrix without columns is empty, and the empty list is one
--   beside_none first-all             [L, x] is L, and the first n columns are all
--   send_y-none share-none send_f-none send_w-none send_c-none
use mathlib.Core.Path.{◌≡◌, sym, ap, ap₂, ◌∙◌}
use mathlib.Core.List.{List, []}
use Prim.Native.Nat.{ℕ, ◌+◌, ◌*◌, ◌<◌}
use native.Mathlib.Nat.{mul-zero}
use native.Mathlib.Omega.{arith}
use lib.ListN.{length}
use Rattle.algebra.specs.Matrix.{Residues, mat_add, mat_sub, mat_mul}
use Rattle.algebra.specs.Columns.{cols, beside}
use Rattle.algebra.specs.Product.{send_y, right_share}
use Rattle.algebra.specs.System.{first_cols, solver_share, send_f, send_w, send_c}
use Rattle.algebra.proofs.Lists.{length-tabulate, residues-none, residues-nil, add-residues}
use Rattle.algebra.proofs.Columns.{cols-whole, beside_first}

pub no-columns : {q : ℕ} (n : ℕ) {a : List ℕ} → Residues q (n * 0) a → a ≡ []
no-columns {q} n {a} r = residues-nil q a (rw (mul-zero n) at r)

pub none-residues : {q : ℕ} (n : ℕ) → Residues q (n * 0) []
none-residues n = rw (mul-zero n) residues-none

none_more : (n : ℕ) → n + 0 ≡ n
none_more n = omega arith

pub first-all : (n : ℕ) (a : List ℕ) → length a ≡ n * n → first_cols n 0 a ≡ a
first-all n a h = ap (λ w. cols n w 0 n a) (none_more n) ∙ cols-whole n n a h

pub beside_none : (n : ℕ) (l x : List ℕ) → length l ≡ n * n → beside n n 0 l x ≡ l
beside_none n l x h = sym (first-all n (beside n n 0 l x) whole) ∙ beside_first n n 0 l x h
  where
    whole : length (beside n n 0 l x) ≡ n * n
    whole = unfold beside in (length-tabulate (n * (n + 0)) _ ∙ ap (λ w. n * w) (none_more n))

-- ---- the formulas

module _ (q n : ℕ) where
  -- step 1: Y1 = L − Y0
  pub send_y-none : (l x y0 : List ℕ) → length l ≡ n * n → send_y q n n (n + 0) (beside n n 0 l x) y0 ≡ send_y q n n n l y0
  send_y-none l x y0 h = ap₂ (λ w a. send_y q n n w a y0) (none_more n) (beside_none n l x h)

  -- step 3: S is a product's share, and F = R − S
  pub share-none : (x1 y0 r1 b0 : List ℕ) → solver_share q n 0 x1 y0 r1 b0 ≡ right_share q n n n x1 y0 r1 b0
  unfolding solver_share
  share-none x1 y0 r1 b0 = ap (λ w. right_share q n n w x1 y0 r1 b0) (none_more n)

  pub send_f-none : (r s : List ℕ) → length s ≡ n * n → send_f q n 0 r s ≡ mat_sub q (n * n) r s
  unfolding send_f
  send_f-none r s h = ap (λ a. mat_sub q (n * n) r a) (first-all n s h)

  -- step 4: W = (U0 − F) × Q + P × M × Q − G
  pub send_w-none : (u0 f qm pm m g : List ℕ) → length u0 ≡ n * n
      → send_w q n 0 u0 f qm pm m g ≡ mat_sub q (n * n) (mat_add q (n * n) (mat_mul q n n n (mat_sub q (n * n) u0 f) qm) (mat_mul q n n n (mat_mul q n n n pm m) qm)) g
  unfolding send_w
  send_w-none u0 f qm pm m g h =
      ap (λ a. mat_sub q (n * n) (mat_add q (n * n) (mat_mul q n n n (mat_sub q (n * n) a f) qm) (mat_mul q n n n (mat_mul q n n n pm m) qm)) g) (first-all n u0 h)

  -- and no c
  pub send_c-none : 0 < q → (u0 pm y : List ℕ) → send_c q n 0 u0 pm y ≡ []
  unfolding send_c
  send_c-none z u0 pm y = no-columns n (add-residues z (n * 0) _ _)
