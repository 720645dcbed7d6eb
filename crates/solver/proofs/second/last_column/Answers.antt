-- `solver::second::last_column` meets its contract. Assumes nothing.
use mathlib.Core.Path.{refl}
use native.Mathlib.Omega.{arith}
use Rattle.algebra.specs.Matrix.{zeros, tabulate}
use Rattle.protocol.specs.Bounds.{columns}
use Rattle.protocol.specs.System.{side_size}
use Rattle.solver.proofs.Known.{few}
use Rattle.solver.proofs.Formulas.{kept-column}
use Rattle.solver.proofs.second.last_column.Goals as goal

pub overflow_sub-t : goal.overflow_sub-t
overflow_sub-t c = omega (arith, (few c.args.t c.requires.0).least)

pub write_cols-requires : goal.write_cols-requires
unfolding columns side_size
write_cols-requires c =
    let h = c.requires in
    let f = few c.args.t h.0 in
    (omega (arith, f.whole), omega (arith, h.1), omega (arith, f.side-few))

pub returns : goal.returns
unfolding columns zeros tabulate
returns c =
    let a = c.args in
    let f = few a.t c.requires.0 in
    kept-column a.t.m a.t.p (columns a.t.m a.t.p) a.share.now c.write_cols.ensures refl f.whole
