-- `blinder::scratch_size` meets its contract. Assumes nothing.
use native.Mathlib.Omega.{arith}
use Rattle.blinder.proofs.Kept.{square-bound, wide-bound, scratch-sum}
use Rattle.blinder.proofs.scratch_size.Goals as goal

pub overflow_add-result : goal.overflow_add-result
overflow_add-result c =
    let a = c.args in
    let h = c.requires in
    omega (arith, c.times.ensures, c.times-2.ensures, square-bound a.t (h), wide-bound a.t (h))

pub returns : goal.returns
returns c = omega (arith, c.times.ensures, c.times-2.ensures, scratch-sum c.args.t)
