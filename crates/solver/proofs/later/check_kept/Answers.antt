-- `solver::later::check_kept` meets its contract. Assumes nothing.
use mathlib.Core.Path.{sym}
use native.Mathlib.Omega.{arith}
use lib.Seq.{length-take-le}
use Rattle.protocol.specs.System.{kept_s, kept_tests}
use Rattle.solver.proofs.Known.{few}
use Rattle.solver.proofs.later.check_kept.Goals as goal

pub slice_bounds-kept-end : goal.slice_bounds-kept-end
slice_bounds-kept-end c =
    let f = few c.args.s.terms c.requires in
    let n = c.well_formed.0.1.1.1.1.0.1.0.1 in
    omega (arith, c.side_size-side.ensures, f.side-few, n)

pub slice_bounds-all_below-end : goal.slice_bounds-all_below-end
slice_bounds-all_below-end c =
    let f = few c.args.s.terms c.requires in
    let n = c.well_formed.0.1.1.1.1.0.1.0.1 in
    sym (length-take-le _ _ (omega (arith, c.side_size-side.ensures, f.side-few, n)))

pub returns : goal.returns
unfolding kept_tests kept_s
returns c = rw (c.all_below.ensures, c.side_size-side.ensures) at c.need.ensures
