-- `decimal::scan` meets its contract: the loop keeps `Scanning`, one turn a number. Assumes nothing.
use native.Mathlib.Omega.{arith}
use Rattle.decimal.proofs.Scans.{scan-start, scan-turn, scan-wrong, scan-done}
use Rattle.decimal.proofs.scan.Goals as goal

pub loop-i-init : goal.loop-i-init
loop-i-init c = record { so_far = scan-start _ _ _; ended = c.requires }

pub returns-in_err-found : goal.returns-in_err-found
returns-in_err-found c =
    let all = scan-wrong _ _ _ _ _ _ c.loop-i.invariant.so_far c.in_err-found.ensures in
    record { answered = rw c.from_residual.ensures all.0; contents = all.1 }

pub overflow_add-n : goal.overflow_add-n
overflow_add-n c = let i = c.loop-i.invariant.so_far in omega (arith, i.few, i.inside)

pub loop-i-preserved : goal.loop-i-preserved
loop-i-preserved c =
    let i = c.loop-i.invariant in
    let f = c.in_ok-found.ensures in
    record { so_far = rw c.put_behind.ensures (scan-turn _ _ _ _ _ _ i.so_far _ _ f.0 f.1 f.2); ended = i.ended }

pub returns : goal.returns
returns c = let all = scan-done _ _ _ _ _ _ c.loop-i.invariant.so_far c.loop-i-test.false in record { answered = all.0; contents = all.1 }
