-- A line that a host parses and hands to a step (RULES 6, RULES 8).
--   and_then          the refusal of the first call, or the outcome of the second
--   Holds            a lent slice holds a line's residues
--   ModulusFits      of a session's own numbers none is refused by less than 4
--   jointly          line, room, message and step judged together
--   OnLines          what a host may rely on, of one step that takes a message
--   PARSE-AND-STEP   of all nine, and of a slice that is too short
-- Assumes nothing.
use Rattle.std.specs.Prelude.{◌≡◌, true, List, ◌++◌, ℕ, ◌≤◌, ◌<◌, length, drop}
use Rattle.std.proofs.Math.Option.{Option, some, none}
use Rattle.protocol.specs.declared.Terms.{Terms}
use Rattle.protocol.specs.declared.RightSession.{RightSession}
use Rattle.protocol.specs.declared.SolverSession.{SolverSession}
use Rattle.protocol.specs.declared.BlinderSession.{BlinderSession}
use Rattle.protocol.specs.declared.Refusal.{Refusal}
use Rattle.protocol.specs.declared.Refusal.TheVariants.{Form, Size}
use Rattle.protocol.specs.Judge.{place_of, Test, given, clear, Judged, refused, done, judge}
use Rattle.protocol.specs.Bounds.{Sort, product, system, terms_tests}
use Rattle.protocol.specs.Tape.{Slot}
use Rattle.protocol.specs.Message.{Message}
use Rattle.protocol.specs.Step.{is_open}
use Rattle.protocol.specs.Product.{left_tests, left_effect, left_step, right_last_tests, right_last_effect, right_last}
use Rattle.protocol.specs.System.{blinder_first_tests, blinder_first_effect, blinder_first, solver_second_tests, solver_second_effect, solver_second, blinder_second_tests, blinder_second_effect, blinder_second, solver_last_tests, solver_last_effect, solver_last, blinder_last_tests, blinder_last_effect, blinder_last}
use Rattle.protocol.specs.System.{solver_determinant_tests, solver_determinant_effect, solver_determinant, blinder_determinant_tests, blinder_determinant_effect, blinder_determinant}
use Rattle.protocol.specs.Line.{numbers_of, message_from, read_tests, parse_into, read_into, write_into}

-- two calls of a host, the second with what the first answered
abbrev pub and_then : {A B : Type 0} → Judged A → (A → Judged B) → Judged B
and_then (refused r) f = refused r
and_then (done a) f = f a

-- `room` words are enough for the residues, whatever the line is
abbrev pub Holds : (room : ℕ) → (l : List ℕ) → Type 0
Holds room l = (xs : List ℕ) → numbers_of l ≡ some xs → length (drop 7 xs) ≤ room

-- the line's form, the room, all that the message shows by itself and the step's tests, in one list: the first refusal
-- of all is given. A line that spells no numbers has no message, and nothing comes before its 1
abbrev pub joint_from : {A : Type 0} → (room : ℕ) → (tests : Message → List Test) → (effect : Message → A) → Option (List ℕ) → Judged A
joint_from room tests effect none = refused Form
joint_from room tests effect (some xs) = judge (read_tests room xs ++ tests (message_from xs)) (effect (message_from xs))

unfoldable pub jointly : {A : Type 0} → (room : ℕ) → (l : List ℕ) → (tests : Message → List Test) → (effect : Message → A) → Judged A
jointly room l tests effect = joint_from room tests effect (numbers_of l)

-- no refusal that comes before 4 applies: of a session's numbers, the modulus fits
abbrev pub ModulusFits : List Test → Type 0
ModulusFits ts = (r : Refusal) → place_of r < place_of Size → clear r ts ≡ true

-- `terms`: those of the step's tests that concern its own session's numbers, and not the message
pub record OnLines {A : Type 0} (step : Message → Judged A) (tests : Message → List Test) (effect : Message → A) (terms : List Test) : Type 0 where
  -- a message that was parsed and then accepted stood on the line that `write` writes, byte for byte
  pub written : (room bytes : ℕ) (l : List ℕ) (a : Message) (e : A) → parse_into room l ≡ done a → step a ≡ done e → length l ≤ bytes
      → write_into bytes a ≡ done l
  -- where the residues have room, parsing and then the step give the lowest number that applies to line and step together
  pub together : (room : ℕ) (l : List ℕ) → Holds room l → and_then (parse_into room l) step ≡ jointly room l tests effect
  -- and whatever the room is, where the session's own modulus fits
  pub own-fit : (room : ℕ) (l : List ℕ) → ModulusFits terms → and_then (parse_into room l) step ≡ jointly room l tests effect

-- where the residues have no room, parsing gives what reading gives: the lowest number of line, room and message by itself
abbrev pub ShortRoom : Type 0
ShortRoom = (room : ℕ) (l xs : List ℕ) → numbers_of l ≡ some xs → room < length (drop 7 xs) → parse_into room l ≡ read_into room l

-- a later step holds only the numbers of an open session to the bounds
abbrev pub open_terms : Sort → (due : ℕ) → Terms → List Test
open_terms sort due t = given (is_open due) (terms_tests sort t)

abbrev pub PARSE-AND-STEP : Type 0
PARSE-AND-STEP =
    ShortRoom
    × ((t : Terms) (s : Slot) (x words : List ℕ) (room share_room : ℕ)
    → OnLines (λ a. left_step t s x words a room share_room) (λ a. left_tests t s x words a room share_room)
    (left_effect t s x words) (terms_tests product t))
    × ((x : RightSession) (s : Slot) (share_room : ℕ)
    → OnLines (λ a. right_last x s a share_room) (λ a. right_last_tests x s a share_room)
    (right_last_effect x s) (open_terms product x.due x.terms))
    × ((t : Terms) (s : Slot) (scratch_room : ℕ) (mm y words : List ℕ) (room : ℕ)
    → OnLines (λ a. blinder_first t s scratch_room mm y words a room) (λ a. blinder_first_tests t s scratch_room mm y words a room)
    (blinder_first_effect t s mm y words) (terms_tests system t))
    × ((x : SolverSession) (s : Slot) (room : ℕ)
    → OnLines (λ a. solver_second x s a room) (λ a. solver_second_tests x s a room)
    (solver_second_effect x s) (open_terms system x.due x.terms))
    × ((x : BlinderSession) (s : Slot) (scratch : List ℕ) (room : ℕ)
    → OnLines (λ a. blinder_second x s scratch a room) (λ a. blinder_second_tests x s scratch a room)
    (blinder_second_effect x s scratch) (open_terms system x.due x.terms))
    × ((x : SolverSession) (s : Slot) (room : ℕ)
    → OnLines (λ a. solver_last x s a room) (λ a. solver_last_tests x s a room)
    (solver_last_effect x s) (open_terms system x.due x.terms))
    × ((x : BlinderSession) (s : Slot) (scratch : List ℕ) (answer_room : ℕ)
    → OnLines (λ a. blinder_last x s scratch a answer_room) (λ a. blinder_last_tests x s scratch a answer_room)
    (blinder_last_effect x s scratch) (open_terms system x.due x.terms))
    × ((x : SolverSession) (s : Slot) (room : ℕ)
    → OnLines (λ a. solver_determinant x s a room) (λ a. solver_determinant_tests x s a room)
    (solver_determinant_effect x s) (open_terms system x.due x.terms))
    × ((x : BlinderSession) (s : Slot) (scratch : List ℕ) (answer_room : ℕ)
    → OnLines (λ a. blinder_determinant x s scratch a answer_room) (λ a. blinder_determinant_tests x s scratch a answer_room)
    (blinder_determinant_effect x s scratch) (open_terms system x.due x.terms))
