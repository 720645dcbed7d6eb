-- How a session ends: its last step closes it and spends its tape, the blinder's zeroes its scratch too, and a drop does the same. Left's one step spends.
--   Ended                     the session, the slot's words and the words written over the scratch after an end
--   left-ends, right-ends, solver-ends, blinder-ends, and of a determinant solver-ended, blinder-ended   (drops: StepTests)
-- Assumes nothing.
use mathlib.Core.Path.{◌≡◌, refl}
use mathlib.Core.List.{List, []}
use Prim.Native.Nat.{ℕ}
use Rattle.algebra.specs.Matrix.{zeros}
use Rattle.protocol.specs.declared.Terms.{Terms}
use Rattle.protocol.specs.declared.RightSession.{RightSession}
use Rattle.protocol.specs.declared.SolverSession.{SolverSession}
use Rattle.protocol.specs.declared.BlinderSession.{BlinderSession}
use Rattle.protocol.specs.Tape.{Slot, slot_words, left, right, blinder, solver, words_spent}
use Rattle.protocol.specs.Message.{Message}
use Rattle.protocol.specs.Step.{Effect}
use Rattle.protocol.specs.Product.{closed_right, left_effect, right_last_effect}
use Rattle.protocol.specs.System.{closed_solver, closed_blinder, scratch_size, solver_last_effect, blinder_last_effect, solver_determinant_effect, blinder_determinant_effect}

pub record Ended {S : Type 0} (session : S) (slot scratch : List ℕ) (e : Effect S) : Type 0 where
  pub session-is : e.session ≡ session
  pub slot_is : e.slot ≡ slot
  pub scratch-is : e.scratch ≡ scratch

pub left-ends : (t : Terms) (s : Slot) (x words : List ℕ) (a : Message) → Ended tt (words_spent left t (slot_words s)) [] (left_effect t s x words a)
unfolding left_effect
left-ends t s x words a = record { session-is = refl; slot_is = refl; scratch-is = refl }

pub right-ends : (x : RightSession) (s : Slot) (a : Message) → Ended (closed_right x) (words_spent right x.terms (slot_words s)) [] (right_last_effect x s a)
unfolding right_last_effect
right-ends x s a = record { session-is = refl; slot_is = refl; scratch-is = refl }

-- be W + V regular or singular
pub solver-ends : (x : SolverSession) (s : Slot) (a : Message) → Ended (closed_solver x) (words_spent solver x.terms (slot_words s)) [] (solver_last_effect x s a)
unfolding solver_last_effect
solver-ends x s a = record { session-is = refl; slot_is = refl; scratch-is = refl }

pub blinder-ends : (x : BlinderSession) (s : Slot) (scratch : List ℕ) (a : Message)
    → Ended (closed_blinder x) (words_spent blinder x.terms (slot_words s)) (zeros (scratch_size x.terms)) (blinder_last_effect x s scratch a)
unfolding blinder_last_effect
blinder-ends x s scratch a = record { session-is = refl; slot_is = refl; scratch-is = refl }

pub solver-ended : (x : SolverSession) (s : Slot) (a : Message)
    → Ended (closed_solver x) (words_spent solver x.terms (slot_words s)) [] (solver_determinant_effect x s a)
unfolding solver_determinant_effect
solver-ended x s a = record { session-is = refl; slot_is = refl; scratch-is = refl }

pub blinder-ended : (x : BlinderSession) (s : Slot) (scratch : List ℕ) (a : Message)
    → Ended (closed_blinder x) (words_spent blinder x.terms (slot_words s)) (zeros (scratch_size x.terms)) (blinder_determinant_effect x s scratch a)
unfolding blinder_determinant_effect
blinder-ended x s scratch a = record { session-is = refl; slot_is = refl; scratch-is = refl }
