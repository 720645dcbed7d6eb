-- The blinder's view of a determinant session, which is algebra's view of a system without right-hand sides, with d as its last message: one
-- completion for each input L of the solver with the determinant seen, and none for another. Before d it is algebra's `blinder-start` and
-- `blinder-open`.
--   gives_d, completions_d      the test of a completion after message 6, and how many there are
--   blinder-det               after it
use mathlib.Core.Path.{◌≡◌, refl, sym, ap, ap₂, ◌∙◌}
use mathlib.Core.Bool.{Bool, true}
use mathlib.Core.List.{List, [], ◌∷◌}
use Prim.Native.Nat.{ℕ, ◌+◌, ◌*◌}
use native.Mathlib.Decide.{ℕ_discrete}
use native.Mathlib.Omega.{arith}
use lib.Dec.{eqb}
use lib.ListN.{length, get_or}
use borrow.Author.Tests.{eq-eqb, ne_eqb}
use Rattle.algebra.specs.Prime.{Prime}
use Rattle.algebra.specs.Matrix.{Residues, mat_add, mat_mul}
use Rattle.algebra.specs.Count.{bit, both, eq_list, part, count_parts}
use Rattle.algebra.specs.Inverse.{has_inverse}
use Rattle.algebra.specs.System.{beside, solver_share, send_w, sum_matrix}
use Rattle.algebra.proofs.Matrix.{Sum}
use Rattle.algebra.proofs.Tests.{and_left, and_right, eq_list-eq, eq_list-of, is_false}
use Rattle.algebra.proofs.Inverse.{hq}
use Rattle.algebra.proofs.System.{shares_of, matrix-right}
use Rattle.algebra.proofs.Views.{solver_tape, BlinderView, gives_y1, gives_f, completions_f}
use Rattle.algebra.proofs.Blinder.{HonestBlinder, blinder-open}
use Rattle.determinant.specs.Determinant.{det}
use Rattle.determinant.specs.Session.{send_d, answer}
use Rattle.determinant.proofs.Counting.{count-both}
use Rattle.determinant.proofs.Session.{answer-of, of-answer}

module _ (q n : ℕ) where
  -- the solver's L, with tape Y0, B0, R, V, gives the view as far as F, and the d seen. x has no columns
  unfoldable pub gives_d : BlinderView q n 0 → List ℕ → List ℕ → List ℕ → List ℕ → List ℕ → List ℕ → Bool
  gives_d s l x y0 b0 r v = both (gives_f q n 0 s l x y0 b0 r v) (eq_list s.t (send_d q n s.w v ∷ []))

  unfoldable pub completions_d : BlinderView q n 0 → List ℕ → List ℕ → ℕ
  completions_d s l x = count_parts q (solver_tape n 0) (λ t. gives_d s l x (part 0 t) (part 1 t) (part 2 t) (part 3 t))

-- a list of one residue
one-residue : {q : ℕ} (t : List ℕ) → Residues q 1 t → t ≡ get_or t 0 0 ∷ []
one-residue [] r = absurd (omega (arith, r.size))
one-residue (d ∷ []) r = refl
one-residue (d ∷ e ∷ t) r = absurd (omega (arith, r.size))

module _ {q n : ℕ} (p : Prime q) (s : BlinderView q n 0) (l x m y : List ℕ) (hl : length l ≡ n * n) (hx : length x ≡ n * 0) (k : HonestBlinder q n 0 s m y)
    (y1-ok : Residues q (n * (n + 0)) s.y1) (f-ok : Residues q (n * n) s.f) (t-ok : Residues q 1 s.t)
    (p-has : has_inverse q n s.pm ≡ true) (q-has : has_inverse q n s.qm ≡ true) where
  abbrev d : ℕ
  d = get_or s.t 0 0

  abbrev joint : List ℕ
  joint = mat_add q (n * n) l m

  -- what the solver added up, on any tape that gives the view
  added : (y0 b0 r v : List ℕ) → gives_f q n 0 s l x y0 b0 r v ≡ true → sum_matrix q n s.w v ≡ mat_mul q n n n (mat_mul q n n n s.pm joint) s.qm
  unfolding gives_f gives_y1
  added y0 b0 r v e =
      let e1 = and_left _ _ e in
      let e2 = and_right _ _ e1 in
      let share = solver_share q n 0 s.x1 y0 s.r1 b0 in
      let sh : Sum q (n * (n + 0)) s.u0 share (mat_mul q n n (n + 0) s.pm (beside n n 0 l x)) =
      rw (k.r1-is, k.x1-is, eq_list-eq _ _ (and_left _ _ e1), eq_list-eq _ _ (and_right _ _ e2)) (shares_of p.two n 0 l x s.pm s.x0 y0 s.a0 s.u0)
      in
      ap₂ (λ a b. sum_matrix q n a b) (k.w-is ∙ ap (λ z. send_w q n 0 s.u0 z s.qm s.pm m s.g) (eq_list-eq _ _ (and_right _ _ e)))
      (eq_list-eq _ _ (and_left _ _ e2))
      ∙ matrix-right (hq p.two) n 0 s.pm s.qm r s.g l m x y s.u0 share hl hx sh

  -- so d is what it sent exactly where the determinant of L + M is the answer
  told : (y0 b0 r v : List ℕ) → gives_f q n 0 s l x y0 b0 r v ≡ true
      → eq_list s.t (send_d q n s.w v ∷ []) ≡ eqb (det q n joint) (answer q n s.pm s.qm d)
  unfolding send_d
  told y0 b0 r v e = go (ℕ_discrete (det q n joint) (answer q n s.pm s.qm d))
    where
      sent : det q n (sum_matrix q n s.w v) ≡ det q n (mat_mul q n n n (mat_mul q n n n s.pm joint) s.qm)
      sent = ap (λ a. det q n a) (added y0 b0 r v e)

      go : Dec (det q n joint ≡ answer q n s.pm s.qm d)
          → eq_list s.t (det q n (sum_matrix q n s.w v) ∷ []) ≡ eqb (det q n joint) (answer q n s.pm s.qm d)
      go (yes f) =
          eq_list-of (one-residue s.t t-ok ∙ ap (λ z. z ∷ []) (of-answer p n s.pm joint s.qm d p-has q-has (t-ok.below 0 (omega arith)) f ∙ sym sent))
          ∙ sym (eq-eqb _ _ f)
      go (no f) =
          is_false _ (λ g. f (sym (answer-of p n s.pm joint s.qm d p-has q-has (ap (λ z. get_or z 0 0) (eq_list-eq _ _ g) ∙ sent))))
          ∙ sym (ne_eqb _ _ f)

  -- DEMAND 3, the blinder of a determinant session: exactly one completion for an L with the determinant seen, and none for another
  pub blinder-det : completions_d q n s l x ≡ bit (eqb (det q n joint) (answer q n s.pm s.qm d))
  unfolding completions_d gives_d completions_f
  blinder-det =
      count-both q (solver_tape n 0) (λ t. gives_f q n 0 s l x (part 0 t) (part 1 t) (part 2 t) (part 3 t))
      (λ t. eq_list s.t (send_d q n s.w (part 3 t) ∷ []))
      (eqb (det q n joint) (answer q n s.pm s.qm d)) (λ ls f e. told (part 0 ls) (part 1 ls) (part 2 ls) (part 3 ls) e)
      ∙ (ap (λ c. bit (eqb (det q n joint) (answer q n s.pm s.qm d)) * c) (blinder-open p.two s l x y1-ok f-ok) ∙ omega arith)
