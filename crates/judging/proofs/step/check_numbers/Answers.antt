-- `judging::step::check_numbers` meets its contract. Assumes nothing.
use Rattle.judging.specs.Groups.{open_numbers}
use Rattle.judging.proofs.Join.{also}
use Rattle.judging.proofs.step.check_numbers.Goals as goal

pub returns : goal.returns
unfolding open_numbers
returns c = also _ _ c.worst.ensures c.check_modulus-modulus.ensures c.check_sizes-sizes.ensures
