-- `sizes::inverse::check_square` meets its contract. Assumes nothing.
use mathlib.Core.List.{[], ◌∷◌}
use Rattle.protocol.specs.Bounds.{system}
use Rattle.judging.specs.Groups.{modulus_tests}
use Rattle.judging.proofs.Join.{also}
use Rattle.sizes.specs.Inverse.{square_tests}
use Rattle.sizes.proofs.inverse.check_square.Goals as goal

pub returns : goal.returns
unfolding square_tests
returns c =
    also (modulus_tests system _) (_ ∷ []) c.worst.ensures c.check_modulus-modulus.ensures
    (rw c.is_square.ensures at c.need-size.ensures)
