-- The tests of the blinder's later steps, in two phases. `step` is the kind of the message that a step takes, and `fits` that what it writes has room.
--   later_step               all tests, as protocol's definitions of both steps have them
--   later_open, kept_words    the phases: what the session keeps is read where the others passed
-- Assumes nothing.
use Rattle.std.specs.Prelude.{Bool, List, [], ◌∷◌, ◌++◌, ℕ, take}
use Rattle.protocol.specs.declared.BlinderSession.{BlinderSession}
use Rattle.protocol.specs.declared.Refusal.TheVariants.{Size}
use Rattle.protocol.specs.Judge.{Test, needs, given}
use Rattle.protocol.specs.Bounds.{room_tests}
use Rattle.protocol.specs.Tape.{Slot, blinder}
use Rattle.protocol.specs.Message.{Message, message_tests, due_tests}
use Rattle.protocol.specs.Step.{is_open, later_tests}
use Rattle.protocol.specs.System.{kept_m, kept_y, scratch_size, kept_tests, blinder_tests}

unfoldable pub later_step : (step : ℕ) (fits : Bool) → BlinderSession → Slot → (scratch : List ℕ) → Message → List Test
later_step step fits x s scratch a =
    message_tests a ++ blinder_tests step x s scratch ++ due_tests step x.terms a ++ given (is_open x.due) (needs Size fits ∷ [])

-- of the scratch: its length
unfoldable pub later_open : (step : ℕ) (fits : Bool) → BlinderSession → Slot → (scratch : ℕ) → Message → List Test
later_open step fits x s scratch a =
    (message_tests a ++ (later_tests blinder step x.due x.terms s ++ due_tests step x.terms a))
    ++ (given (is_open x.due) (room_tests (scratch_size x.terms) scratch) ++ given (is_open x.due) (needs Size fits ∷ []))

unfoldable pub kept_words : BlinderSession → (scratch : List ℕ) → List Test
kept_words x scratch =
    kept_tests x.terms.q (kept_m x) ++ (kept_tests x.terms.q (kept_y x) ++ kept_tests x.terms.q (take (scratch_size x.terms) scratch))
