-- `decimal::digits` meets its contract: the loop keeps `Running`, one step a digit. Assumes nothing.
use mathlib.Core.Path.{◌≡◌}
use Prim.Native.Nat.{◌+◌}
use native.Mathlib.Omega.{arith}
use Rattle.decimal.proofs.Runs.{run-start, run-turn, run_end}
use native.Mathlib.Nat.{pow-le-pow_right}
use Rattle.decimal.proofs.digits.Goals as goal

pub loop-init : goal.loop-init
loop-init c = let p = c.requires in record { run = run-start _ _ p.0 p.1 p.2; ended = p.3 }

pub step-t-requires : goal.step-t-requires
step-t-requires c =
    let i = c.loop.invariant.run in
    (i.inside, omega (arith, i.small, pow-le-pow_right {n = 10} (omega arith) {i = c.loop.counter + 1} {j = 10} (omega arith)))

pub loop-preserved : goal.loop-preserved
loop-preserved c =
    let i = c.loop.invariant in
    record { run = rw c.step-t.ensures (run-turn _ _ _ _ i.ended i.run); ended = i.ended }

pub returns : goal.returns
returns c = let e : c.loop.counter ≡ 9 = omega arith in run_end _ _ _ (rw e at c.loop.invariant.run)
