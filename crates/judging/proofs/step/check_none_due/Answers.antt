-- `judging::step::check_none_due` meets its contract. Assumes nothing.
use mathlib.Core.List.{[], ◌∷◌}
use Rattle.judging.specs.Groups.{none_due}
use Rattle.judging.proofs.Join.{also}
use Rattle.judging.proofs.step.check_none_due.Goals as goal

pub returns : goal.returns
unfolding none_due
returns c =
    also (_ ∷ []) (_ ∷ []) c.worst.ensures (rw c.is_slot.ensures at c.need-slot.ensures) c.need-due.ensures
