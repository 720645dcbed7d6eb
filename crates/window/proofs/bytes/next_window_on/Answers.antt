-- `window::bytes::next_window_on` meets its contract: numbers, and then the move. Assumes nothing.
use mathlib.Core.Path.{sym, ap₂, ◌∙◌}
use mathlib.Core.List.{[], ◌∷◌}
use Prim.Native.Nat.{ℕ, ◌+◌}
use native.Mathlib.Omega.{arith}
use Rattle.protocol.specs.Judge.{judge, reply_of}
use Rattle.protocol.specs.Window.{share_tests, moved, next_window}
use Rattle.entry.proofs.Bytes.{words-at}
use Rattle.window.specs.Entries.{next_window_on}
use Rattle.window.proofs.Phases.{bytes-known, bytes-taken, bytes-handed}
use Rattle.window.proofs.bytes.next_window_on.Goals as goal

pub returns-in_err-check_bytes : goal.returns-in_err-check_bytes
unfolding next_window_on next_window
returns-in_err-check_bytes c =
    bytes-handed _ _ _ c.args.shares.now c.next_fits.ensures _ _ c.from_residual.result c.from_residual.ensures.1 c.in_err-check_bytes.ensures

pub overflow_add-first : goal.overflow_add-first
overflow_add-first c =
    let k = (bytes-known _ _ _ c.args.shares.now c.next_fits.ensures c.in_ok-check_bytes.ensures).fits in
    omega (arith, k.ends, k.run-bound, k.some-window)

pub overflow_mul-first : goal.overflow_mul-first
overflow_mul-first c =
    let k = (bytes-known _ _ _ c.args.shares.now c.next_fits.ensures c.in_ok-check_bytes.ensures).fits in
    omega (arith, k.ends, k.run-bound, k.some-window)

pub word_at-new-requires : goal.word_at-new-requires
word_at-new-requires c =
    let k = (bytes-known _ _ _ c.args.shares.now c.next_fits.ensures c.in_ok-check_bytes.ensures).fits in
    omega (arith, k.ends, k.run-bound, k.some-window)

pub overflow_mul-first-2 : goal.overflow_mul-first-2
overflow_mul-first-2 c =
    let k = (bytes-known _ _ _ c.args.shares.now c.next_fits.ensures c.in_ok-check_bytes.ensures).fits in
    omega (arith, k.ends, k.run-bound, k.some-window)

pub word_at-requires : goal.word_at-requires
word_at-requires c =
    let k = (bytes-known _ _ _ c.args.shares.now c.next_fits.ensures c.in_ok-check_bytes.ensures).fits in
    omega (arith, k.ends, k.run-bound, k.some-window)

pub move_on-requires : goal.move_on-requires
move_on-requires c = (bytes-known _ _ _ c.args.shares.now c.next_fits.ensures c.in_ok-check_bytes.ensures).small-q

pub returns : goal.returns
unfolding next_window_on next_window
returns c =
    let a = c.args in
    let ends = (bytes-known _ _ _ a.shares.now c.next_fits.ensures c.in_ok-check_bytes.ensures).fits.ends in
    let new = words-at (a.first + a.w) a.shares.now (omega (arith, ends)) in
    let oldest = words-at a.first a.shares.now (omega (arith, ends)) in
    c.move_on.ensures
    ∙ (ap₂ (λ (new oldest : ℕ). reply_of 0 (judge (share_tests a.q (a.share ∷ new ∷ oldest ∷ [])) (moved a.q a.share new oldest)))
    (c.word_at-new.ensures ∙ sym new) (c.word_at.ensures ∙ sym oldest)
    ∙ bytes-taken _ _ _ a.shares.now c.next_fits.ensures _ _ c.in_ok-check_bytes.ensures)
