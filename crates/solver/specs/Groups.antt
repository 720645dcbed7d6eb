-- The tests of the solver's later steps: of the one that takes a message of this kind and sends one of that kind. Assumes nothing.
--   receiving   all, in the order of protocol's definitions
--   arriving    those that are made before the words that the session keeps
--   sort_tests   a session's last message is of its sort: what a step sends before has either
use Rattle.std.specs.Prelude.{List, [], ◌∷◌, ◌++◌, ℕ}
use Rattle.protocol.specs.declared.Terms.{Terms}
use Rattle.protocol.specs.declared.SolverSession.{SolverSession}
use Rattle.protocol.specs.declared.Refusal.TheVariants.{Turn}
use Rattle.protocol.specs.Judge.{Test, needs, given}
use Rattle.protocol.specs.Bounds.{room_tests}
use Rattle.protocol.specs.Tape.{Slot, solver}
use Rattle.protocol.specs.Message.{Message, last_fits, message_size, message_tests, due_tests}
use Rattle.protocol.specs.Step.{is_open, later_tests}
use Rattle.protocol.specs.System.{solver_tests}

unfoldable pub sort_tests : (sends : ℕ) → Terms → List Test
sort_tests sends t = needs Turn (last_fits sends t.m t.p) ∷ []

unfoldable pub receiving : (kind sends : ℕ) → SolverSession → Slot → Message → (room : ℕ) → List Test
receiving kind sends x s a room =
    message_tests a
    ++ solver_tests kind x s
    ++ due_tests kind x.terms a
    ++ given (is_open x.due) (room_tests (message_size sends x.terms) room)
    ++ sort_tests sends x.terms

unfoldable pub arriving : (kind sends : ℕ) → SolverSession → Slot → Message → (room : ℕ) → List Test
arriving kind sends x s a room =
    (message_tests a ++ (later_tests solver kind x.due x.terms s ++ due_tests kind x.terms a))
    ++ (given (is_open x.due) (room_tests (message_size sends x.terms) room) ++ sort_tests sends x.terms)
