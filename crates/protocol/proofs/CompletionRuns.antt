-- Completions of small views, computed from the definitions: the dealer and the steps run on every tape and coins. Assumes nothing.
-- product-view   right's, after message 2: one completion for each input of left
-- system-view    the blinder's, after message 5: one for an input of the solver with the solution seen, none for another
-- determinant-view  the blinder's of a determinant session, after message 6: the same of the determinant seen
-- early          the same views while the session is unfinished
use mathlib.Core.Path.{◌≡◌, refl}
use mathlib.Core.List.{[], ◌∷◌}
use Prim.Native.Nat.{ℕ}
use lib.ListN.{take}
use Rattle.algebra.specs.Count.{sum_lists, count, count_parts, eq_list}
use Rattle.algebra.specs.Elimination.{solution}
use Rattle.protocol.specs.Drawing.{words_for}
use Rattle.protocol.specs.Tape.{right, blinder}
use Rattle.protocol.specs.View.{View}
use Rattle.protocol.specs.Completion.{said, and_then, hearing, right_messages, left_messages, solver_messages, blinder_messages, eq_lists, dealing, holds, dealt_together, is_completion, completions}
use Rattle.protocol.proofs.Computing.{session-rules}

-- q 2, X and Y of one residue: Y0 1, B0 0; Y1 1 sent; X1 1, R1 0 received
abbrev product-view : View
product-view = record {
  role = right;
  terms = record { session = record { 0 = 9 }; tape = record { 0 = 4 }; q = 2; m = 1; k = 1; p = 1 };
  input = (0 ∷ []) ∷ [];
  half = (1 ∷ []) ∷ (0 ∷ []) ∷ [];
  coins = [];
  sent = (1 ∷ []) ∷ [];
  received = (1 ∷ 0 ∷ []) ∷ [];
}

-- q 3, one unknown, M 1, y 2: X0 1, A0 (0,2), Q 2, G 1, P 1, U0 (1,0); Y1 (2,1), F 1, t 1 received, so that z is 2
abbrev system-view : View
system-view = record {
  role = blinder;
  terms = record { session = record { 0 = 9 }; tape = record { 0 = 4 }; q = 3; m = 1; k = 1; p = 2 };
  input = (1 ∷ []) ∷ (2 ∷ []) ∷ [];
  half = (1 ∷ []) ∷ (0 ∷ 2 ∷ []) ∷ (2 ∷ []) ∷ (1 ∷ []) ∷ [];
  coins = 1 ∷ 1 ∷ 0 ∷ [];
  sent = (2 ∷ 1 ∷ 2 ∷ []) ∷ (1 ∷ 2 ∷ []) ∷ [];
  received = (2 ∷ 1 ∷ []) ∷ (1 ∷ []) ∷ (1 ∷ []) ∷ [];
}

-- the same without y, c and t: X0 1, A0 0, Q 2, G 1, P 1, U0 1; Y1 2, F 1, and the determinant 1 received, so that the answer is 1 / (1 × 2) = 2
abbrev determinant-view : View
determinant-view = record {
  role = blinder;
  terms = record { session = record { 0 = 9 }; tape = record { 0 = 4 }; q = 3; m = 1; k = 1; p = 1 };
  input = (1 ∷ []) ∷ [] ∷ [];
  half = (1 ∷ []) ∷ (0 ∷ []) ∷ (2 ∷ []) ∷ (1 ∷ []) ∷ [];
  coins = 1 ∷ 1 ∷ [];
  sent = (2 ∷ 1 ∷ []) ∷ (1 ∷ []) ∷ [];
  received = (2 ∷ []) ∷ (1 ∷ []) ∷ (1 ∷ []) ∷ [];
}

-- X 0 and X 1; L 1 with x 2, whose solution is 2, and with x 0; L 1, with which the determinant is 2, and L 2, with which it is 0
pub small-counts : completions product-view ((0 ∷ []) ∷ []) ∷ completions product-view ((1 ∷ []) ∷ [])
    ∷ completions system-view ((1 ∷ []) ∷ (2 ∷ []) ∷ []) ∷ completions system-view ((1 ∷ []) ∷ (0 ∷ []) ∷ [])
    ∷ completions determinant-view ((1 ∷ []) ∷ [] ∷ []) ∷ completions determinant-view ((2 ∷ []) ∷ [] ∷ []) ∷ [] ≡ 1 ∷ 1 ∷ 1 ∷ 0 ∷ 1 ∷ 0 ∷ []
unfolding session-rules eq_list sum_lists count count_parts words_for said and_then hearing right_messages left_messages solver_messages blinder_messages eq_lists dealing holds dealt_together is_completion completions
small-counts = refl

-- ---- while the session is unfinished

-- the same view when only the first messages have come
abbrev early : View → (received sent : ℕ) → View
early v n k = record { role = v.role; terms = v.terms; input = v.input; half = v.half; coins = v.coins; sent = take k v.sent; received = take n v.received }

-- right's before message 2: 2 ^ (1 + 1), whatever X is (proofs/CompletionNumbers has the numbers of all views)
pub early-counts : completions (early product-view 0 1) ((0 ∷ []) ∷ []) ∷ completions (early product-view 0 1) ((1 ∷ []) ∷ []) ∷ [] ≡ 4 ∷ 4 ∷ []
unfolding session-rules eq_list sum_lists count count_parts words_for said and_then hearing right_messages left_messages solver_messages blinder_messages eq_lists dealing holds dealt_together is_completion completions
early-counts = refl
