-- The tests of a completion in the sessions' formulas: what protocol's definition of a completion, which runs the ends' steps, comes to at each stage of each
-- view. The counts are over lists of residues, cut into the other end's matrices.
--   gives_right, gives_left                  a product's two views
--   SolverView, gives_solver                the solver's view after message 4
--   BlinderView, gives_y1, gives_f, gives_t   the blinder's after messages 1, 3 and 5
--   right_completions .. completions_t       how many there are
use mathlib.Core.Bool.{Bool}
use mathlib.Core.List.{List, [], ◌∷◌}
use Prim.Native.Nat.{ℕ, ◌+◌, ◌*◌}
use Rattle.algebra.specs.Count.{both, eq_list, part, count_parts}
use Rattle.algebra.specs.Columns.{beside}
use Rattle.algebra.specs.Inverse.{has_inverse}
use Rattle.algebra.specs.Elimination.{regular, solution}
use Rattle.algebra.specs.Product.{deal_b, send_y, send_x, send_r}
use Rattle.algebra.specs.System.{deal_v, solver_share, send_f, send_w, send_c, sum_matrix, sum_vector}

-- ---- products

module _ (q m k p : ℕ) where
  -- right's view of tape Y0, B0 and messages Y1, X1, R1 is what left's X, with tape X0, A0 and coins U, gives
  unfoldable pub gives_right : List ℕ → List ℕ → List ℕ → List ℕ → List ℕ → List ℕ → List ℕ → List ℕ → List ℕ → Bool
  gives_right y0 b0 y1 x1 r1 x x0 a0 u =
      both (eq_list b0 (deal_b q m k p x0 y0 a0)) (both (eq_list x1 (send_x q m k p x x0)) (eq_list r1 (send_r q m k p x y1 u a0)))

  -- left's view of tape X0, A0 and message Y1 is what right's Y, with tape Y0, B0, gives
  unfoldable pub gives_left : List ℕ → List ℕ → List ℕ → List ℕ → List ℕ → List ℕ → Bool
  gives_left x0 a0 y1 y y0 b0 = both (eq_list b0 (deal_b q m k p x0 y0 a0)) (eq_list y1 (send_y q m k p y y0))

  -- a completion of right's view: X0, A0 and U
  unfoldable pub right_completions : List ℕ → List ℕ → List ℕ → List ℕ → List ℕ → List ℕ → ℕ
  right_completions y0 b0 y1 x1 r1 x =
      count_parts q (m * k ∷ m * p ∷ m * p ∷ []) (λ f. gives_right y0 b0 y1 x1 r1 x (part 0 f) (part 1 f) (part 2 f))

  -- a completion of left's view: Y0 and B0
  unfoldable pub left_completions : List ℕ → List ℕ → List ℕ → List ℕ → ℕ
  left_completions x0 a0 y1 y = count_parts q (k * p ∷ m * p ∷ []) (λ f. gives_left x0 a0 y1 y (part 0 f) (part 1 f))

-- ---- systems

-- how many residues Y0, B0, R and V have
abbrev pub solver_tape : (n rhs : ℕ) → List ℕ
solver_tape n rhs = n * (n + rhs) ∷ n * (n + rhs) ∷ n * n ∷ n * n ∷ []

module _ (q n rhs : ℕ) where
  -- the solver's view: its tape, what it sent and what it received
  pub record SolverView : Type 0 where
    pub y0 : List ℕ
    pub b0 : List ℕ
    pub r : List ℕ
    pub v : List ℕ
    pub y1 : List ℕ
    pub f : List ℕ
    pub x1 : List ℕ
    pub r1 : List ℕ
    pub w : List ℕ
    pub c : List ℕ

  -- the view is what the blinder's M, y, with tape X0, A0, Q, G, and P and coins U0, gives; P and Q have an inverse
  unfoldable pub gives_solver : SolverView → List ℕ → List ℕ → List (List ℕ) → Bool
  gives_solver s m y t =
      both (eq_list s.b0 (deal_b q n n (n + rhs) (part 0 t) s.y0 (part 1 t)))
      (both (eq_list s.x1 (send_x q n n (n + rhs) (part 4 t) (part 0 t)))
      (both (eq_list s.r1 (send_r q n n (n + rhs) (part 4 t) s.y1 (part 5 t) (part 1 t)))
      (both (eq_list s.v (deal_v q n s.r (part 2 t) (part 3 t)))
      (both (eq_list s.w (send_w q n rhs (part 5 t) s.f (part 2 t) (part 4 t) m (part 3 t)))
      (both (eq_list s.c (send_c q n rhs (part 5 t) (part 4 t) y))
      (both (has_inverse q n (part 4 t)) (has_inverse q n (part 2 t))))))))

  -- a completion of the solver's view: X0, A0, Q, G, P, U0
  unfoldable pub solver_completions : SolverView → List ℕ → List ℕ → ℕ
  solver_completions s m y =
      count_parts q (n * n ∷ n * (n + rhs) ∷ n * n ∷ n * n ∷ n * n ∷ n * (n + rhs) ∷ []) (λ t. gives_solver s m y t)

  -- the blinder's view: its tape, P and coins, what it sent and what it received
  pub record BlinderView : Type 0 where
    pub x0 : List ℕ
    pub a0 : List ℕ
    pub qm : List ℕ
    pub g : List ℕ
    pub pm : List ℕ
    pub u0 : List ℕ
    pub x1 : List ℕ
    pub r1 : List ℕ
    pub w : List ℕ
    pub c : List ℕ
    pub y1 : List ℕ
    pub f : List ℕ
    pub t : List ℕ

  -- the view is what the solver's L, x, with tape Y0, B0, R, V, gives: as far as Y1, as far as F, and to the end
  unfoldable pub gives_y1 : BlinderView → List ℕ → List ℕ → List ℕ → List ℕ → List ℕ → List ℕ → Bool
  gives_y1 s l x y0 b0 r v =
      both (eq_list b0 (deal_b q n n (n + rhs) s.x0 y0 s.a0))
      (both (eq_list v (deal_v q n r s.qm s.g)) (eq_list s.y1 (send_y q n n (n + rhs) (beside n n rhs l x) y0)))

  unfoldable pub gives_f : BlinderView → List ℕ → List ℕ → List ℕ → List ℕ → List ℕ → List ℕ → Bool
  gives_f s l x y0 b0 r v = both (gives_y1 s l x y0 b0 r v) (eq_list s.f (send_f q n rhs r (solver_share q n rhs s.x1 y0 s.r1 b0)))

  -- a completion of the blinder's view: Y0, B0, R, V
  unfoldable pub completions_y1 : BlinderView → List ℕ → List ℕ → ℕ
  completions_y1 s l x = count_parts q (solver_tape n rhs) (λ t. gives_y1 s l x (part 0 t) (part 1 t) (part 2 t) (part 3 t))

  unfoldable pub completions_f : BlinderView → List ℕ → List ℕ → ℕ
  completions_f s l x = count_parts q (solver_tape n rhs) (λ t. gives_f s l x (part 0 t) (part 1 t) (part 2 t) (part 3 t))

-- of one column: the solver finds that W + V has an inverse, and sends the t seen
module _ (q n : ℕ) where
  unfoldable pub gives_t : BlinderView q n 1 → List ℕ → List ℕ → List ℕ → List ℕ → List ℕ → List ℕ → Bool
  gives_t s l x y0 b0 r v =
      both (gives_f q n 1 s l x y0 b0 r v)
      (both (regular q n (sum_matrix q n s.w v))
      (eq_list s.t (solution q n (sum_matrix q n s.w v) (sum_vector q n 1 s.c (solver_share q n 1 s.x1 y0 s.r1 b0)))))

  unfoldable pub completions_t : BlinderView q n 1 → List ℕ → List ℕ → ℕ
  completions_t s l x = count_parts q (solver_tape n 1) (λ t. gives_t s l x (part 0 t) (part 1 t) (part 2 t) (part 3 t))
