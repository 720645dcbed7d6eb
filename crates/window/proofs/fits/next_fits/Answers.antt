-- `window::fits::next_fits` meets its contract: how long it is, and then where it begins. Assumes nothing.
use mathlib.Core.Path.{sym, ◌∙◌}
use Rattle.window.proofs.Numbers.{length-fails, length-known, next_known}
use Rattle.window.proofs.fits.next_fits.Goals as goal

pub overflow_sub-result : goal.overflow_sub-result
overflow_sub-result c = length-known _ _ _ (sym c.if-length_fits.ensures)

pub returns-then-length_fits : goal.returns-then-length_fits
returns-then-length_fits c = next_known _ _ _ _ (sym c.if-length_fits.ensures)

pub returns-else-length_fits : goal.returns-else-length_fits
returns-else-length_fits c = c.if-length_fits.false ∙ sym (length-fails _ _ _ _ (sym c.if-length_fits.ensures))
