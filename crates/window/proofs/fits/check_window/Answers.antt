-- `window::fits::check_window` meets its contract: both tests. Assumes nothing.
use mathlib.Core.List.{[], ◌∷◌}
use Rattle.judging.proofs.Join.{also}
use Rattle.window.proofs.fits.check_window.Goals as goal

pub returns : goal.returns
returns c =
    let modulus = rw c.modulus_fits.ensures at c.need-modulus.ensures in
    also (_ ∷ []) (_ ∷ []) c.worst.ensures modulus c.need-size.ensures
