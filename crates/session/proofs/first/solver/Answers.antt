-- `session::first::solver` meets its contract. Assumes nothing.
use mathlib.Core.Path.{sym}
use mathlib.Core.List.{[]}
use Prim.Native.Nat.{◌*◌}
use lib.ListN.{length, take, drop}
use lib.Seq.{length-take-le}
use Rattle.protocol.specs.Tape.{slot_at}
use Rattle.protocol.specs.System.{no_solver, solver_first}
use Rattle.vectors.proofs.Written.{tail-part}
use Rattle.entry.specs.Record.{of_solver}
use Rattle.local.proofs.Recorded.{carried-leaves}
use Rattle.session.proofs.first.solver.Goals as goal

pub slice_bounds-solver_first-end : goal.slice_bounds-solver_first-end
slice_bounds-solver_first-end c = sym (length-take-le _ _ c.square_of-n.ensures.0)

pub returns : goal.returns
returns c =
    let at9 = c in
    let at14 = c in
    let at18 = c in
    let a = at18.args in
    let s = slot_at a.pool.now a.at.size a.at.index in
    let n = a.t.m * a.t.m in
    let l = a.input.now in
    let cut = at14.square_of-n.ensures in
    let e = rw (tail-part at14.square_of-n.result l, cut.1, cut.2) at at9.solver_first.ensures in
    rw c.kept.ensures
    (carried-leaves of_solver no_solver s [] a.out.now []
    (solver_first a.t s (take n l) (drop n l) (length a.out.now)) at9.solver_first.result.answer e)
