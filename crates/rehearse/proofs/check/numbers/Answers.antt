-- `rehearse::check::numbers` meets its contract. Assumes nothing.
use Rattle.judging.proofs.Join.{also}
use Rattle.rehearse.specs.Order.{number_tests}
use Rattle.rehearse.proofs.check.numbers.Goals as goal

pub returns : goal.returns
unfolding number_tests
returns c = also _ _ c.worst.ensures c.check_modulus-modulus.ensures c.check_sizes-sizes.ensures
