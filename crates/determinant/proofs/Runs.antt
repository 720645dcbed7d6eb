-- Small values, computed from the definitions.
use mathlib.Core.Path.{◌≡◌, refl}
use mathlib.Core.List.{[], ◌∷◌}
use Rattle.algebra.specs.Residue.{add_mod, sub_mod, mul_mod, inverse_by, inverse}
use Rattle.algebra.specs.Matrix.{sum_to, tabulate, mat_add, mat_sub, dot, mat_mul}
use Rattle.algebra.specs.Columns.{cols, beside}
use Rattle.algebra.specs.Count.{sum_lists, count, both, eq_list, parts, count_parts}
use Rattle.algebra.specs.Inverse.{id_mat, are_inverse, has_inverse}
use Rattle.algebra.specs.Elimination.{swap_at, swap_rows, scale_row, clear_column, pivot_from, pivot, step}
use Rattle.algebra.specs.Product.{deal_b, send_y, send_x, send_r, right_share}
use Rattle.algebra.specs.System.{deal_v, solver_share, send_f, send_w, sum_matrix}
use Rattle.algebra.proofs.Views.{BlinderView, gives_y1, gives_f}
use Rattle.determinant.specs.Determinant.{sign, skip, minor, det_of, det}
use Rattle.determinant.specs.Pivots.{pivot_factor, det_from, det_by}
use Rattle.determinant.specs.Rank.{diagonal, diagonal_mat, has_rank, rank_to, rank}
use Rattle.determinant.specs.Session.{div_mod, send_d, answer}
use Rattle.determinant.proofs.Blinder.{gives_d, completions_d}

-- 1 × 4 − 2 × 3 = −2; a matrix with determinant −3; one of four rows, 2 × 3 × 4 × 5 with two rows exchanged; two equal rows; no rows at all
determinants : det 7 2 (1 ∷ 2 ∷ 3 ∷ 4 ∷ []) ∷ det 7 3 (1 ∷ 2 ∷ 3 ∷ 4 ∷ 5 ∷ 6 ∷ 7 ∷ 8 ∷ 10 ∷ [])
    ∷ det 1009 4 (0 ∷ 3 ∷ 0 ∷ 0 ∷ 2 ∷ 0 ∷ 0 ∷ 0 ∷ 0 ∷ 0 ∷ 4 ∷ 0 ∷ 0 ∷ 0 ∷ 0 ∷ 5 ∷ []) ∷ det 5 2 (2 ∷ 3 ∷ 2 ∷ 3 ∷ []) ∷ det 5 0 [] ∷ []
    ≡ 5 ∷ 4 ∷ 889 ∷ 0 ∷ 1 ∷ []
unfolding det det_of minor skip sign sum_to
determinants = refl

-- the same by elimination, of residues
eliminated : det_by 7 2 (1 ∷ 2 ∷ 3 ∷ 4 ∷ []) ∷ det_by 7 3 (1 ∷ 2 ∷ 3 ∷ 4 ∷ 5 ∷ 6 ∷ 0 ∷ 1 ∷ 3 ∷ [])
    ∷ det_by 1009 4 (0 ∷ 3 ∷ 0 ∷ 0 ∷ 2 ∷ 0 ∷ 0 ∷ 0 ∷ 0 ∷ 0 ∷ 4 ∷ 0 ∷ 0 ∷ 0 ∷ 0 ∷ 5 ∷ []) ∷ det_by 5 2 (2 ∷ 3 ∷ 2 ∷ 3 ∷ []) ∷ det_by 5 0 [] ∷ []
    ≡ 5 ∷ 4 ∷ 889 ∷ 0 ∷ 1 ∷ []
unfolding det_by det_from pivot_factor pivot pivot_from step clear_column scale_row swap_rows swap_at inverse inverse_by tabulate
eliminated = refl

-- the largest modulus
large : det 2147483647 2 (2147483646 ∷ 5 ∷ 7 ∷ 2147483646 ∷ []) ≡ 2147483613
unfolding det det_of minor skip sign sum_to
large = refl

-- ranks: 0 and 1 for one row; of a matrix of ones, of zeros, and of one with an inverse
ranks : rank 3 1 (0 ∷ []) ∷ rank 3 1 (2 ∷ []) ∷ rank 2 2 (1 ∷ 1 ∷ 1 ∷ 1 ∷ []) ∷ rank 2 2 (0 ∷ 0 ∷ 0 ∷ 0 ∷ []) ∷ rank 2 2 (0 ∷ 1 ∷ 1 ∷ 1 ∷ []) ∷ []
    ≡ 0 ∷ 1 ∷ 1 ∷ 0 ∷ 2 ∷ []
unfolding rank rank_to has_rank diagonal_mat diagonal count_parts parts count sum_lists has_inverse are_inverse id_mat eq_list both mat_mul dot tabulate sum_to
ranks = refl

-- RULES 9.3's run of a system, without its vectors: q 5, n 1, L 2, M 1, P 2, Q 3, X0 1, Y0 4, A0 0, U0 1, R 2, G 1: Y1, X1, R1, F, W, then the
-- determinant sent, and the answer 3 = 2 + 1
session-run : send_y 5 1 1 1 (beside 1 1 0 (2 ∷ []) []) (4 ∷ []) ∷ send_x 5 1 1 1 (2 ∷ []) (1 ∷ []) ∷ send_r 5 1 1 1 (2 ∷ []) (3 ∷ []) (1 ∷ []) (0 ∷ [])
    ∷ send_f 5 1 0 (2 ∷ []) (solver_share 5 1 0 (3 ∷ []) (4 ∷ []) (0 ∷ []) (deal_b 5 1 1 1 (1 ∷ []) (4 ∷ []) (0 ∷ [])))
    ∷ send_w 5 1 0 (1 ∷ []) (4 ∷ []) (3 ∷ []) (2 ∷ []) (1 ∷ []) (1 ∷ []) ∷ (send_d 5 1 (1 ∷ []) (deal_v 5 1 (2 ∷ []) (3 ∷ []) (1 ∷ [])) ∷ [])
    ∷ (answer 5 1 (2 ∷ []) (3 ∷ []) 3 ∷ []) ∷ []
    ≡ (3 ∷ []) ∷ (3 ∷ []) ∷ (0 ∷ []) ∷ (4 ∷ []) ∷ (1 ∷ []) ∷ (3 ∷ []) ∷ (3 ∷ []) ∷ []
unfolding deal_b send_y send_x send_r right_share solver_share send_f send_w send_d answer div_mod mul_mod inverse inverse_by deal_v sum_matrix cols beside
    det det_of minor skip sign mat_add mat_sub mat_mul dot add_mod sub_mod tabulate sum_to
session-run = refl

-- that blinder's view, after the determinant; it has one completion for L 2 and none for L 3
abbrev view : BlinderView 5 1 0
view = record {
  x0 = 1 ∷ [];
  a0 = 0 ∷ [];
  qm = 3 ∷ [];
  g = 1 ∷ [];
  pm = 2 ∷ [];
  u0 = 1 ∷ [];
  x1 = 3 ∷ [];
  r1 = 0 ∷ [];
  w = 1 ∷ [];
  c = [];
  y1 = 3 ∷ [];
  f = 4 ∷ [];
  t = 3 ∷ [];
}

blinder-counts : completions_d 5 1 view (2 ∷ []) [] ∷ completions_d 5 1 view (3 ∷ []) [] ∷ [] ≡ 1 ∷ 0 ∷ []
unfolding completions_d gives_d gives_f gives_y1 count_parts parts count sum_lists both eq_list deal_b send_y send_x send_r right_share solver_share
    send_f send_w send_d deal_v sum_matrix cols beside det det_of minor skip sign mat_add mat_sub mat_mul dot add_mod sub_mod tabulate sum_to
blinder-counts = refl
