-- `product::first::check_own` meets its contract. Assumes nothing.
use mathlib.Core.Path.{◌≡◌, refl, sym, ◌∙◌}
use mathlib.Core.Bool.{Bool}
use mathlib.Core.List.{[], ◌∷◌}
use Rattle.protocol.specs.declared.Refusal.TheVariants.{Size, Residue}
use Rattle.protocol.specs.Judge.{needs}
use Rattle.protocol.specs.Bounds.{input_tests, room_tests}
use Rattle.judging.specs.InOrder.{sorted_by, sorted, only, judged, after}
use Rattle.judging.proofs.Join.{also, hands_on, goes-past}
use Rattle.judging.proofs.Steps.{in_two}
use Rattle.product.proofs.first.check_own.Goals as goal

count-first : (count below sent : Bool) → judged (needs Size count ∷ needs Residue below ∷ needs Size sent ∷ [])
    ≡ after (judged (needs Size count ∷ [])) (judged (needs Residue below ∷ needs Size sent ∷ []))
unfolding sorted sorted_by only
count-first count below sent = in_two _ (needs Size count ∷ []) (needs Residue below ∷ needs Size sent ∷ []) refl

pub returns-in_err-need : goal.returns-in_err-need
unfolding input_tests room_tests
returns-in_err-need c =
    hands_on c.from_residual.result _ c.from_residual.ensures.1 (rw c.times.ensures at c.in_err-need.ensures) ∙ sym (count-first _ _ _)

pub returns : goal.returns
unfolding input_tests room_tests
returns c =
    also (_ ∷ []) (_ ∷ []) c.worst.ensures (rw c.all_below.ensures at c.need-below.ensures) (rw c.has_room.ensures at c.need-sent.ensures)
    ∙ sym (count-first _ _ _ ∙ goes-past (rw c.times.ensures at c.in_ok-need.ensures))
