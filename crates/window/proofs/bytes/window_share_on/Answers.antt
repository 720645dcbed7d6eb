-- `window::bytes::window_share_on` meets its contract: numbers, and then the sum. Assumes nothing.
use mathlib.Core.Path.{ap, ◌∙◌}
use mathlib.Core.List.{List}
use Prim.Native.Nat.{ℕ, ◌*◌, ◌%◌}
use native.Mathlib.Omega.{arith}
use Rattle.protocol.specs.Judge.{judge, reply_of}
use Rattle.protocol.specs.Window.{sum, share_tests, window_share}
use Rattle.window.specs.Entries.{window_share_on}
use Rattle.window.proofs.Phases.{bytes-known, bytes-taken, bytes-handed}
use Rattle.window.proofs.Sums.{rest-long, window-words}
use Rattle.window.proofs.bytes.window_share_on.Goals as goal

pub returns-in_err-check_bytes : goal.returns-in_err-check_bytes
unfolding window_share_on window_share
returns-in_err-check_bytes c =
    bytes-handed _ _ _ c.args.shares.now c.window_fits.ensures _ _ c.from_residual.result c.from_residual.ensures.1 c.in_err-check_bytes.ensures

pub overflow_mul-first : goal.overflow_mul-first
overflow_mul-first c =
    let k = (bytes-known _ _ _ c.args.shares.now c.window_fits.ensures c.in_ok-check_bytes.ensures).fits in
    omega (arith, k.ends, k.run-bound, k.some-window)

pub slice_bounds-add_words-count : goal.slice_bounds-add_words-count
slice_bounds-add_words-count c =
    let k = (bytes-known _ _ _ c.args.shares.now c.window_fits.ensures c.in_ok-check_bytes.ensures).fits in
    omega (arith, k.ends, k.run-bound, k.some-window)

pub slice_bounds-add_words-start : goal.slice_bounds-add_words-start
slice_bounds-add_words-start c =
    let k = (bytes-known _ _ _ c.args.shares.now c.window_fits.ensures c.in_ok-check_bytes.ensures).fits in
    omega (arith, k.ends, k.run-bound, k.some-window)

pub add_words-requires : goal.add_words-requires
add_words-requires c =
    let a = c.args in
    let k = bytes-known _ _ _ a.shares.now c.window_fits.ensures c.in_ok-check_bytes.ensures in
    let f = k.fits in (
      k.positive-q,
      omega (arith, f.in-run, f.run-bound),
      omega (arith, f.ends, rest-long (a.first * 4) a.shares.now),
    )

pub returns : goal.returns
unfolding window_share_on window_share
returns c =
    let a = c.args in
    c.add_words.ensures
    ∙ (ap (λ (l : List ℕ). reply_of 0 (judge (share_tests a.q l) (sum l % a.q))) (window-words a.first a.w a.shares.now)
    ∙ bytes-taken _ _ _ a.shares.now c.window_fits.ensures _ _ c.in_ok-check_bytes.ensures)
