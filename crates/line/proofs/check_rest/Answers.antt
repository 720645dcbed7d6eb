-- `line::check_rest` meets its contract: both tests. Assumes nothing.
use mathlib.Core.List.{[], ◌∷◌}
use Rattle.judging.proofs.Join.{also}
use Rattle.line.specs.Reading.{rest_tests}
use Rattle.line.proofs.check_rest.Goals as goal

pub returns : goal.returns
unfolding rest_tests
returns c =
    also (_ ∷ []) (_ ∷ []) c.worst.ensures c.need-fits.ensures
    (rw c.all_below.ensures at c.need-below.ensures)
