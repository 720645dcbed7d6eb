-- `window::flags_fit` meets its contract: both tests. Assumes nothing.
use mathlib.Core.List.{[], ◌∷◌}
use Rattle.protocol.specs.Window.{flags_tests, flags_fit}
use Rattle.judging.proofs.Join.{also}
use Rattle.window.proofs.flags_fit.Goals as goal

pub returns : goal.returns
unfolding flags_fit flags_tests
returns c =
    also (_ ∷ []) (_ ∷ []) c.worst.ensures (rw c.run_fits.ensures at c.need-size.ensures)
    (rw c.all_below.ensures at c.need-residue.ensures)
