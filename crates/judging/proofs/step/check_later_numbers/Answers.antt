-- `judging::step::check_later_numbers` meets its contract. Assumes nothing.
use mathlib.Core.List.{[], ◌∷◌}
use Rattle.judging.specs.Received.{later_received}
use Rattle.judging.proofs.Join.{also}
use Rattle.judging.proofs.step.check_later_numbers.Goals as goal

pub returns : goal.returns
unfolding later_received
returns c =
    also _ (_ ∷ _ ∷ []) c.worst-2.ensures c.check_numbers-numbers.ensures
    (also (_ ∷ []) (_ ∷ []) c.worst.ensures c.need-step.ensures c.need-message.ensures)
