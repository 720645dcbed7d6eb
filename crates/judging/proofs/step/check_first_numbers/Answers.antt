-- `judging::step::check_first_numbers` meets its contract. Assumes nothing.
use mathlib.Core.List.{[], ◌∷◌}
use Rattle.judging.specs.Received.{first_received}
use Rattle.judging.proofs.Join.{also}
use Rattle.judging.proofs.step.check_first_numbers.Goals as goal

pub returns : goal.returns
unfolding first_received
returns c = also _ (_ ∷ []) c.worst.ensures c.check_numbers-numbers.ensures c.need-due.ensures
