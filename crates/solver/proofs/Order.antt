-- Each step's tests, judged in the phases in which its code makes them.
--   first-phases   step 1: that L has an inverse comes last
--   later-phases   steps 3 and 5: what the session keeps comes last
--   second-tests   what step 3 sends is of either sort
-- Assumes nothing.
use mathlib.Core.Path.{◌≡◌, refl, sym, ap, ◌∙◌}
use mathlib.Core.List.{List, [], ◌∷◌, ◌++◌}
use Prim.Native.Nat.{ℕ, ◌*◌, ◌<◌}
use native.Mathlib.Omega.{arith}
use Rattle.algebra.specs.Count.{both}
use Rattle.protocol.specs.declared.Refusal.{Refusal}
use Rattle.protocol.specs.declared.Refusal.TheVariants.{Form, Modulus, Composite, Size, Turn, Mark, Stranger, Residue, Dry, Singular}
use Rattle.protocol.specs.declared.Terms.{Terms}
use Rattle.protocol.specs.declared.SolverSession.{SolverSession}
use Rattle.protocol.specs.Judge.{place_in, place_of, clear, Judged, refused, done, judge_by, judge, given}
use Rattle.protocol.specs.Bounds.{shape_tests, terms_tests, input_tests, room_tests}
use Rattle.protocol.specs.Tape.{Slot, solver, slot_tests, half_tests, tape_tests, body_tests}
use Rattle.protocol.specs.Message.{Message, last_fits, message_size, message_tests, due_tests}
use Rattle.protocol.specs.Step.{first_tests, open_tests, later_tests}
use Rattle.protocol.specs.System.{side_size, regular_tests, kept_s, kept_tests, solver_tests, solver_first_tests, solver_second_tests}
use Rattle.protocol.proofs.Judge.{clear-lower}
use Rattle.judging.specs.InOrder.{only, sorted_by, sorted, judged, after}
use Rattle.judging.specs.Lowest.{lower}
use Rattle.judging.proofs.InOrder.{after_last}
use Rattle.judging.proofs.Join.{judged-join, judged-phases, last-phase}
use Rattle.solver.specs.Groups.{sort_tests, arriving, receiving}

-- no refusal comes after that of a singular matrix
none-later : (s : Refusal) → place_of Singular < place_of s → ⊥
unfolding place_of place_in
none-later Form h = omega arith
none-later Modulus h = omega arith
none-later Composite h = omega arith
none-later Size h = omega arith
none-later Turn h = omega arith
none-later Mark h = omega arith
none-later Stranger h = omega arith
none-later Residue h = omega arith
none-later Dry h = omega arith
none-later Singular h = omega arith

pub first-phases : (t : Terms) (s : Slot) (l x : List ℕ) (room : ℕ)
    → judged (solver_first_tests t s l x room)
    ≡ after (judged (first_tests solver t s ++ input_tests t.q (t.m * t.m) l ++ input_tests t.q (side_size t) x ++ room_tests (message_size 1 t) room))
    (judged (regular_tests t.q t.m l))
unfolding solver_first_tests regular_tests
first-phases t s l x room = last-phase Singular _ _ (λ r h. absurd (none-later r h)) (λ r h. clear-lower r Singular _ h)

-- by computing: the sorted tests are those of the two phases, sorted
pub later-phases : (kind sends : ℕ) (x : SolverSession) (s : Slot) (a : Message) (room : ℕ)
    → judged (receiving kind sends x s a room) ≡ after (judged (arriving kind sends x s a room)) (judged (kept_tests x.terms.q (kept_s x)))
unfolding sorted sorted_by only given arriving receiving sort_tests solver_tests kept_tests later_tests open_tests message_tests due_tests terms_tests shape_tests
    slot_tests half_tests tape_tests body_tests input_tests room_tests
later-phases kind sends x s a room =
    let k = kept_tests x.terms.q (kept_s x) in
    judged-phases _ (arriving kind sends x s a room ∷ k ∷ []) refl
    ∙ ap (after (judged (arriving kind sends x s a room))) (sym (after_last (judged k)))

no_more : (v : Judged Unit) → lower v (done tt) ≡ v
no_more (done u) = refl
no_more (refused r) = refl

pub second-tests : (x : SolverSession) (s : Slot) (a : Message) (room : ℕ)
    → judged (receiving 2 3 x s a room) ≡ judged (solver_second_tests x s a room)
unfolding receiving solver_second_tests sort_tests last_fits judge judge_by clear both
second-tests x s a room = judged-join (solver_second_tests x s a room) (sort_tests 3 x.terms) ∙ no_more (judged (solver_second_tests x s a room))
