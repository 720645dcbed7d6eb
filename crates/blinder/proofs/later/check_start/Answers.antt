-- `blinder::later::check_start` meets its contract. Assumes nothing.
use Rattle.protocol.specs.System.{kept_tests}
use Rattle.blinder.proofs.later.check_start.Goals as goal

pub returns : goal.returns
unfolding kept_tests
returns c = rw c.all_below.ensures at c.need.ensures
