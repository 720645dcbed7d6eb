-- `window::next_window` meets its contract: numbers, and then the move. Assumes nothing.
use mathlib.Core.Path.{◌∙◌}
use native.Mathlib.Omega.{arith}
use Rattle.protocol.specs.Window.{next_window}
use Rattle.window.proofs.Phases.{words-known, words-taken, words-handed}
use Rattle.window.proofs.next_window.Goals as goal

pub returns-in_err-check_window : goal.returns-in_err-check_window
unfolding next_window
returns-in_err-check_window c =
    words-handed _ _ _ _ c.next_fits.ensures _ _ c.from_residual.result c.from_residual.ensures.1 c.in_err-check_window.ensures

pub overflow_add-first : goal.overflow_add-first
overflow_add-first c =
    let k = (words-known _ _ _ _ c.next_fits.ensures c.in_ok-check_window.ensures).fits in
    omega (arith, k.ends, k.run-bound, k.some-window)

pub offset_bounds-shares-first : goal.offset_bounds-shares-first
offset_bounds-shares-first c =
    let k = (words-known _ _ _ _ c.next_fits.ensures c.in_ok-check_window.ensures).fits in
    omega (arith, k.ends, k.run-bound, k.some-window)

pub bounds-shares-first : goal.bounds-shares-first
bounds-shares-first c =
    let k = (words-known _ _ _ _ c.next_fits.ensures c.in_ok-check_window.ensures).fits in
    omega (arith, k.ends, k.run-bound, k.some-window)

pub offset_bounds-shares-first-2 : goal.offset_bounds-shares-first-2
offset_bounds-shares-first-2 c =
    let k = (words-known _ _ _ _ c.next_fits.ensures c.in_ok-check_window.ensures).fits in
    omega (arith, k.ends, k.run-bound, k.some-window)

pub bounds-shares-first-2 : goal.bounds-shares-first-2
bounds-shares-first-2 c =
    let k = (words-known _ _ _ _ c.next_fits.ensures c.in_ok-check_window.ensures).fits in
    omega (arith, k.ends, k.run-bound, k.some-window)

pub move_on-requires : goal.move_on-requires
move_on-requires c = (words-known _ _ _ _ c.next_fits.ensures c.in_ok-check_window.ensures).small-q

pub returns : goal.returns
unfolding next_window
returns c = c.move_on.ensures ∙ words-taken _ _ _ _ c.next_fits.ensures _ _ c.in_ok-check_window.ensures
