-- The calls of a session over its record (RULES 11.2): each is a step or a drop of protocol, by the record's or the given end.
--   also, recorded         further tests of a call; a call's outcome with the record of its session
--   first_step, first_over   an end's first step, and over a record that must hold no open session
--   blinder_ending          the blinder's last step, by its session
--   next_step               the step that is due
--   drop_step               the drop
-- Assumes nothing.
use Rattle.std.specs.Prelude.{cond, List, [], ◌∷◌, ℕ, ◌*◌, eqb, ltb, length, take, drop}
use Rattle.protocol.specs.declared.Terms.{Terms}
use Rattle.protocol.specs.declared.BlinderSession.{BlinderSession}
use Rattle.protocol.specs.declared.Refusal.TheVariants.{Size, Turn}
use Rattle.protocol.specs.Judge.{place_of, Test, needs, Judged, refused, done, judge}
use Rattle.protocol.specs.Tape.{Slot}
use Rattle.protocol.specs.Message.{Message, is_determinant}
use Rattle.protocol.specs.Step.{Outcome}
use Rattle.protocol.specs.Product.{right_first, left_step, right_last}
use Rattle.protocol.specs.System.{solver_first, blinder_first, solver_second, blinder_second, solver_ending, blinder_last, blinder_determinant}
use Rattle.protocol.specs.Drop.{drop_right, drop_solver, drop_blinder}
use Rattle.entry.specs.declared.Session.{Session}
use Rattle.entry.specs.Record.{LEFT, RIGHT, BLINDER, SOLVER, right_of, solver_of, blinder_of, of_left, of_right, of_solver, of_blinder}

-- the first refusal of the order, of a call and of further tests: proofs/Also has that all tests are then judged as one list
abbrev pub lower_than : {A : Type 0} → Judged Unit → Judged A → Judged A
lower_than (done u) o = o
lower_than (refused r) (refused s) = cond (ltb (place_of s) (place_of r)) (refused s) (refused r)
lower_than (refused r) (done a) = refused r

unfoldable pub also : {A : Type 0} → List Test → Judged A → Judged A
also ts o = lower_than (judge ts tt) o

-- a step's outcome, with the record of its session
abbrev pub recorded : {S : Type 0} → (S → Session) → Outcome S → Outcome Session
recorded f (refused r) = refused r
recorded f (done e) = done (record {
  answer = e.answer;
  session = f e.session;
  slot = e.slot;
  scratch = e.scratch;
  sent = e.sent;
  result = e.result;
})

-- ---- first steps. The input is X, Y, or a system's matrix with its vector behind it

unfoldable pub first_step : (end : ℕ) → Terms → Slot → (scratch input words : List ℕ) → Message → (room result_room : ℕ) → Outcome Session
first_step end t s scratch input words a room result_room =
    let matrix = take (t.m * t.m) input in
    let vector = drop (t.m * t.m) input in
    cond (eqb end LEFT) (recorded (λ _. of_left t) (left_step t s input words a room result_room))
    (cond (eqb end RIGHT) (recorded of_right (right_first t s input room))
    (cond (eqb end BLINDER) (recorded of_blinder (blinder_first t s (length scratch) matrix vector words a room))
    (cond (eqb end SOLVER) (recorded of_solver (solver_first t s matrix vector room)) (refused Size))))

-- the record holds no open session
unfoldable pub free_tests : Session → List Test
free_tests x = needs Turn (eqb x.due 0) ∷ []

unfoldable pub first_over : Session → (end : ℕ) → Terms → Slot → (scratch input words : List ℕ) → Message → (room result_room : ℕ) → Outcome Session
first_over x end t s scratch input words a room result_room =
    also (free_tests x) (first_step end t s scratch input words a room result_room)

-- ---- later steps and drops

-- a determinant's last step, or a system's
unfoldable pub blinder_ending : BlinderSession → Slot → (scratch : List ℕ) → Message → (result_room : ℕ) → Outcome BlinderSession
blinder_ending x s scratch a result_room =
    cond (is_determinant x.terms) (blinder_determinant x s scratch a result_room) (blinder_last x s scratch a result_room)

unfoldable pub next_step : Session → Slot → (scratch : List ℕ) → Message → (room result_room : ℕ) → Outcome Session
next_step x s scratch a room result_room =
    cond (eqb x.end SOLVER)
    (recorded of_solver (cond (eqb x.due 2) (solver_second (solver_of x) s a room) (solver_ending (solver_of x) s a room)))
    (cond (eqb x.end BLINDER)
    (recorded of_blinder (cond (eqb x.due 3) (blinder_second (blinder_of x) s scratch a room) (blinder_ending (blinder_of x) s scratch a result_room)))
    (recorded of_right (right_last (right_of x) s a result_room)))

unfoldable pub drop_step : Session → Slot → (scratch : List ℕ) → Outcome Session
drop_step x s scratch =
    cond (eqb x.end SOLVER) (recorded of_solver (drop_solver (solver_of x) s))
    (cond (eqb x.end BLINDER) (recorded of_blinder (drop_blinder (blinder_of x) s scratch))
    (recorded of_right (drop_right (right_of x) s)))
