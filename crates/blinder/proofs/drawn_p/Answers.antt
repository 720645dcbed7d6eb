-- `blinder::drawn_p` meets its contract. Assumes nothing.
use mathlib.Core.Path.{sym}
use native.Mathlib.Omega.{arith}
use lib.Seq.{length-take-le}
use Rattle.blinder.proofs.Kept.{scratch-sum, p-stands}
use Rattle.blinder.proofs.drawn_p.Goals as goal

pub slice_bounds-result-end : goal.slice_bounds-result-end
slice_bounds-result-end c =
    let told = c in
    sym (length-take-le _ told.args.scratch.now (omega (arith, c.times-square.ensures, scratch-sum told.args.t, told.requires.1)))

pub returns : goal.returns
returns c = p-stands c.args.t c.args.scratch.now c.times-square.ensures
