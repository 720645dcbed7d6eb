-- `window::window_share` meets its contract: numbers, and then the sum. Assumes nothing.
use mathlib.Core.Path.{◌≡◌, ap, ◌∙◌}
use Prim.Native.Nat.{ℕ, ◌+◌, ◌-◌, ◌%◌}
use native.Mathlib.Omega.{arith}
use lib.ListN.{take, drop}
use Rattle.protocol.specs.Judge.{judge, reply_of}
use Rattle.protocol.specs.Window.{sum, share_tests, window_share}
use Rattle.protocol.proofs.Window.{take-most}
use Rattle.window.proofs.Phases.{words-known, words-taken, words-handed}
use Rattle.window.proofs.window_share.Goals as goal

pub returns-in_err-check_window : goal.returns-in_err-check_window
unfolding window_share
returns-in_err-check_window c =
    words-handed _ _ _ _ c.window_fits.ensures _ _ c.from_residual.result c.from_residual.ensures.1 c.in_err-check_window.ensures

pub overflow_add-first : goal.overflow_add-first
overflow_add-first c =
    let k = (words-known _ _ _ _ c.window_fits.ensures c.in_ok-check_window.ensures).fits in
    omega (arith, k.ends, k.run-bound, k.some-window)

pub offset_bounds-shares-first : goal.offset_bounds-shares-first
offset_bounds-shares-first c =
    let k = (words-known _ _ _ _ c.window_fits.ensures c.in_ok-check_window.ensures).fits in
    omega (arith, k.ends, k.run-bound, k.some-window)

pub slice_bounds-add_days-end : goal.slice_bounds-add_days-end
slice_bounds-add_days-end c = (words-known _ _ _ _ c.window_fits.ensures c.in_ok-check_window.ensures).fits.ends

pub add_days-requires : goal.add_days-requires
add_days-requires c =
    let k = words-known _ _ _ _ c.window_fits.ensures c.in_ok-check_window.ensures in
    let a = c.args in
    let most = take-most (a.first + a.w - a.first) (drop a.first a.shares.now) in
    (k.positive-q, omega (arith, k.fits.in-run, k.fits.run-bound))

pub returns : goal.returns
unfolding window_share
returns c =
    let a = c.args in
    let from = drop a.first a.shares.now in
    let whole : a.first + a.w - a.first ≡ a.w = omega arith in
    c.add_days.ensures
    ∙ (ap (λ (n : ℕ). reply_of 0 (judge (share_tests a.q (take n from)) (sum (take n from) % a.q))) whole
    ∙ words-taken _ _ _ _ c.window_fits.ensures _ _ c.in_ok-check_window.ensures)
