-- The steps' tests, judged by the phases in which the code makes them: the sorted tests are the phases' sorted tests, by computing.
--   first-phases               step 2
--   later-phases               every later step
--   second-tests, last-tests   steps 4 and 6 are those
--   determinant-phases         step 6 of a determinant: those, and then that P and Q have an inverse
-- Assumes nothing.
use mathlib.Core.Path.{◌≡◌, refl, sym, ap, ◌∙◌}
use mathlib.Core.Bool.{Bool}
use mathlib.Core.List.{List, [], ◌∷◌, ◌++◌}
use Prim.Native.Nat.{ℕ}
use lib.Dec.{leb}
use lib.ListN.{length}
use Rattle.algebra.specs.Count.{part}
use Rattle.protocol.specs.declared.Terms.{Terms}
use Rattle.protocol.specs.declared.BlinderSession.{BlinderSession}
use Rattle.protocol.specs.Judge.{Test, given}
use Rattle.protocol.specs.Drawing.{draw_tests}
use Rattle.protocol.specs.Bounds.{shape_tests, terms_tests, input_tests, room_tests}
use Rattle.protocol.specs.Tape.{Slot, slot_words, blinder, matrices, slot_tests, half_tests, tape_tests, body_tests}
use Rattle.protocol.specs.Message.{Message, message_size, message_tests, due_tests}
use Rattle.protocol.specs.Step.{first_tests, open_tests, later_tests}
use Rattle.protocol.specs.System.{side_size, scratch_size, scratch_parts, regular_tests, kept_tests, blinder_tests, blinder_first_tests, blinder_second_tests, blinder_last_tests, blinder_determinant_tests}
use Rattle.judging.specs.InOrder.{only, sorted_by, sorted, judged, after}
use Rattle.judging.proofs.InOrder.{after_last}
use Rattle.judging.proofs.Join.{judged-phases}
use Rattle.blinder.specs.First.{first_numbers, first_inputs, first_regular}
use Rattle.blinder.specs.Later.{later_step, later_open, kept_words}

-- two phases
in_two : (ts n w : List Test) → sorted ts ≡ sorted n ++ (sorted w ++ []) → judged ts ≡ after (judged n) (judged w)
in_two ts n w e = judged-phases ts (n ∷ w ∷ []) e ∙ ap (after (judged n)) (sym (after_last (judged w)))

pub first-phases : (t : Terms) (s : Slot) (scratch : ℕ) (mm y words : List ℕ) (a : Message) (room : ℕ)
    → judged (blinder_first_tests t s scratch mm y words a room)
    ≡ after (judged (first_numbers t s scratch mm y a room)) (after (judged (draw_tests t.q (scratch_size t) words)) (judged (first_regular t mm words)))
unfolding sorted sorted_by only blinder_first_tests first_numbers first_inputs first_regular message_tests first_tests due_tests terms_tests shape_tests slot_tests half_tests tape_tests body_tests input_tests room_tests draw_tests regular_tests
first-phases t s scratch mm y words a room =
    let n = first_numbers t s scratch mm y a room in
    let d = draw_tests t.q (scratch_size t) words in
    let r = first_regular t mm words in
    judged-phases _ (n ∷ d ∷ r ∷ []) refl ∙ ap (λ (v : _). after (judged n) (after (judged d) v)) (sym (after_last (judged r)))

module _ (x : BlinderSession) (s : Slot) (scratch : List ℕ) (a : Message) where
  pub later-phases : (step : ℕ) (fits : Bool)
      → judged (later_step step fits x s scratch a) ≡ after (judged (later_open step fits x s (length scratch) a)) (judged (kept_words x scratch))
  unfolding sorted sorted_by only given later_step later_open kept_words blinder_tests later_tests open_tests message_tests due_tests terms_tests shape_tests slot_tests half_tests tape_tests body_tests input_tests room_tests kept_tests
  later-phases step fits = in_two _ (later_open step fits x s (length scratch) a) (kept_words x scratch) refl

  pub last-tests : (room : ℕ) → later_step 5 (leb (side_size x.terms) room) x s scratch a ≡ blinder_last_tests x s scratch a room
  unfolding later_step blinder_last_tests room_tests
  last-tests room = refl

  pub second-tests : (room : ℕ) → later_step 3 (leb (message_size 4 x.terms) room) x s scratch a ≡ blinder_second_tests x s scratch a room
  unfolding later_step blinder_second_tests room_tests
  second-tests room = refl

  pub determinant-phases : (room : ℕ)
      → judged (blinder_determinant_tests x s scratch a room)
      ≡ after (judged (later_step 6 (leb (message_size 6 x.terms) room) x s scratch a))
      (judged (regular_tests x.terms.q x.terms.m (part 0 (scratch_parts x.terms scratch))
      ++ regular_tests x.terms.q x.terms.m (part 2 (matrices blinder x.terms (slot_words s)))))
  unfolding sorted sorted_by only given later_step blinder_determinant_tests blinder_tests later_tests open_tests message_tests due_tests terms_tests shape_tests slot_tests half_tests tape_tests body_tests input_tests room_tests kept_tests regular_tests
  determinant-phases room = in_two _ (later_step 6 (leb (message_size 6 x.terms) room) x s scratch a) _ refl
