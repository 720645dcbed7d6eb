-- `judging::step::check_input` meets its contract. Assumes nothing.
use mathlib.Core.List.{[], ◌∷◌}
use Rattle.protocol.specs.Bounds.{input_tests}
use Rattle.judging.proofs.Join.{also}
use Rattle.judging.proofs.step.check_input.Goals as goal

pub returns : goal.returns
unfolding input_tests
returns c =
    also (_ ∷ []) (_ ∷ []) c.worst.ensures c.need-count.ensures
    (rw c.all_below.ensures at c.need-below.ensures)
