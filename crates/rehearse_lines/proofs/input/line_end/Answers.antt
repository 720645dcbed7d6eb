-- `rehearse_lines::input::line_end` meets its contract. Assumes nothing.
use mathlib.Core.Path.{refl}
use native.Mathlib.Omega.{arith}
use Rattle.rehearse_lines.proofs.Split.{first_ends, first_goes, first-none}
use Rattle.rehearse_lines.proofs.input.line_end.Goals as goal

pub loop-i-init : goal.loop-i-init
loop-i-init c = refl

pub returns-then-s-i-eq10 : goal.returns-then-s-i-eq10
returns-then-s-i-eq10 c =
    let i = c.loop-i.i in
    omega (arith, first_ends c.args.s.now i c.loop-i-test.true c.if-s-i-eq10.true, c.loop-i.invariant)

pub loop-i-preserved : goal.loop-i-preserved
loop-i-preserved c =
    let i = c.loop-i.i in
    omega (arith, first_goes c.args.s.now i c.loop-i-test.true c.if-s-i-eq10.false, c.loop-i.invariant)

pub returns : goal.returns
returns c =
    let i = c.loop-i.i in
    omega (arith, first-none c.args.s.now i c.loop-i-test.false, c.loop-i.invariant)
