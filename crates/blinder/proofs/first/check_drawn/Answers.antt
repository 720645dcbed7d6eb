-- `blinder::first::check_drawn` meets its contract. Assumes nothing.
use mathlib.Core.Path.{sym}
use Rattle.blinder.proofs.Coins.{enough}
use Rattle.blinder.proofs.first.check_drawn.Goals as goal

-- `told`: what was told of P and U0
pub check_regular-requires : goal.check_regular-requires
check_regular-requires c =
    let told = rw c.scratch_size.ensures at c.in_ok-check_coins.ensures in
    (c.requires, enough _ _ _ (sym told))
