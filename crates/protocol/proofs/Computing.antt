-- What a session computes with. A line `unfolding session-rules` opens every definition that dealing and steps are made of, so that a call on
-- given numbers computes: a definition opens what its own `unfolding` line names. What steps come to use is added here, and nowhere else.
--   session-rules   all of it; before it the groups that it is made of
--   window-rules    windows of days, besides
-- Assumes nothing.
use Rattle.algebra.specs.Residue.{mul_mod}
use Rattle.algebra.specs.Matrix.{sum_to, tabulate, zeros, add_mod, sub_mod, mat_add, mat_sub, dot_to, dot, mat_mul}
use Rattle.algebra.specs.Count.{both, parts, join}
use Rattle.algebra.specs.Columns.{cols, beside}
use Rattle.algebra.specs.Prime.{no_divisor, is_prime}
use Rattle.algebra.specs.Elimination.{inverse_by, inverse, swap_at, swap_rows, scale_row, clear_column, pivot_from, pivot, step, eliminate_from, eliminate, regular, solution}
use Rattle.algebra.specs.Product.{deal_b, send_y, send_x, send_r, right_share}
use Rattle.algebra.specs.System.{deal_v, solver_share, send_f, send_w, send_c, sum_matrix}
use Rattle.algebra.specs.Words.{over, written_at}
use Rattle.determinant.specs.Determinant.{sign, skip, minor, det_of, det}
use Rattle.determinant.specs.Session.{div_mod, answer}
use Rattle.protocol.specs.Judge.{given, clear, judge_by, judge}
use Rattle.protocol.specs.Drawing.{is_kept, residue_of, residues_of, drawn, words_read, draw_tests}
use Rattle.protocol.specs.Bounds.{within, columns, all_below, field_fits, sides_fit, shape_tests, terms_tests, input_tests, room_tests}
use Rattle.protocol.specs.Tape.{is_slot, slot_words, pool_with, header_words, body_size, tape_size, status_of, with_status, spent, body, matrices, words_in_use, words_spent, slot_tests, half_tests, tape_tests, body_tests}
use Rattle.protocol.specs.Deal.{draw_size, drawn_parts, dealt_b, dealt_v, is_free, deal_tests, dealt_over, dealt_effect, deal}
use Rattle.protocol.specs.Message.{kind_sort, last_kind, last_fits, message_layout, message_size, message_parts, message_tests, due_tests}
use Rattle.protocol.specs.Step.{first_tests, is_open, open_tests, later_tests}
use Rattle.protocol.specs.Product.{right_first_effect, right_first_tests, right_first, left_effect, left_tests, left_step, right_last_effect, right_last_tests, right_last}
use Rattle.protocol.specs.System.{padded, side_size, kept_s, kept_m, kept_y, scratch_size, kept_tests, last_tests, blinder_tests, solver_tests, coins_of, scratch_parts, regular_tests, joint_sum}
use Rattle.protocol.specs.System.{solver_first_effect, solver_first_tests, solver_first, blinder_first_effect, blinder_first_tests, blinder_first, solver_second_effect, solver_second_tests, solver_second}
use Rattle.protocol.specs.System.{blinder_second_effect, blinder_second_tests, blinder_second, solver_last_effect, solver_last_tests, solver_last, blinder_last_effect, blinder_last_tests, blinder_last}
use Rattle.protocol.specs.System.{solver_determinant_effect, solver_determinant_tests, solver_determinant, solver_ending, blinder_determinant_effect, blinder_determinant_tests, blinder_determinant}
use Rattle.protocol.specs.Window.{window_fits, sum, window_tests, share_tests, window_share, moved, next_window, moves, flags_tests, flags_fit, both_missed}

-- sums, matrices and lists of parts
unfoldable pub matrix-rules : Unit {0}
unfolding sum_to tabulate zeros add_mod sub_mod mat_add mat_sub dot_to dot mat_mul both parts join cols beside over written_at
matrix-rules = tt

-- primes, inverses and elimination
unfoldable pub elimination-rules : Unit {0}
unfolding no_divisor is_prime inverse_by inverse swap_at swap_rows scale_row clear_column pivot_from pivot step eliminate_from eliminate regular solution
elimination-rules = tt

-- determinants
unfoldable pub determinant-rules : Unit {0}
unfolding mul_mod sign skip minor det_of det div_mod answer
determinant-rules = tt

-- the formulas of the sessions
unfoldable pub formula-rules : Unit {0}
unfolding deal_b send_y send_x send_r right_share deal_v solver_share send_f send_w send_c sum_matrix
formula-rules = tt

-- verdicts, bounds and drawing
unfoldable pub verdict-rules : Unit {0}
unfolding given clear judge_by judge within columns all_below field_fits sides_fit shape_tests terms_tests input_tests room_tests is_kept residue_of residues_of drawn words_read draw_tests
verdict-rules = tt

-- tapes, and dealing
unfoldable pub tape-rules : Unit {0}
unfolding is_slot slot_words pool_with header_words body_size tape_size status_of with_status spent body matrices words_in_use words_spent slot_tests half_tests tape_tests body_tests
tape-rules = tt

unfoldable pub deal-rules : Unit {0}
unfolding draw_size drawn_parts dealt_b dealt_v is_free deal_tests dealt_over dealt_effect deal
deal-rules = tt

-- messages, and what steps share
unfoldable pub message-rules : Unit {0}
unfolding kind_sort last_kind last_fits message_layout message_size message_parts message_tests due_tests first_tests is_open open_tests later_tests
message-rules = tt

-- the steps of a product
unfoldable pub product-rules : Unit {0}
unfolding right_first_effect right_first_tests right_first left_effect left_tests left_step right_last_effect right_last_tests right_last
product-rules = tt

-- what a system keeps and tests
unfoldable pub system-rules : Unit {0}
unfolding padded side_size kept_s kept_m kept_y scratch_size kept_tests last_tests blinder_tests solver_tests coins_of scratch_parts regular_tests joint_sum
system-rules = tt

-- steps 1 to 3 of a system, steps 4 to 6, and the last two of a determinant
unfoldable pub early-steps : Unit {0}
unfolding solver_first_effect solver_first_tests solver_first blinder_first_effect blinder_first_tests blinder_first solver_second_effect solver_second_tests solver_second
early-steps = tt

unfoldable pub late-steps : Unit {0}
unfolding blinder_second_effect blinder_second_tests blinder_second solver_last_effect solver_last_tests solver_last blinder_last_effect blinder_last_tests blinder_last
late-steps = tt

unfoldable pub determinant-steps : Unit {0}
unfolding solver_determinant_effect solver_determinant_tests solver_determinant solver_ending blinder_determinant_effect blinder_determinant_tests blinder_determinant
determinant-steps = tt

unfoldable pub session-rules : Unit {0}
unfolding matrix-rules elimination-rules determinant-rules formula-rules verdict-rules tape-rules deal-rules message-rules product-rules system-rules early-steps late-steps determinant-steps
session-rules = tt

-- windows of days, which no step uses
unfoldable pub window-rules : Unit {0}
unfolding session-rules window_fits sum window_tests share_tests window_share moved next_window moves flags_tests flags_fit both_missed
window-rules = tt
