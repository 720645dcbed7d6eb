-- `session::drop::solver` meets its contract. Assumes nothing.
use mathlib.Core.List.{[]}
use Rattle.protocol.specs.Tape.{slot_at}
use Rattle.entry.specs.Record.{solver_of, of_solver}
use Rattle.local.proofs.Recorded.{recorded-leaves}
use Rattle.local.proofs.Ends.{drop-solver-told}
use Rattle.session.proofs.drop.solver.Goals as goal

pub returns : goal.returns
returns c =
    let at7 = c in
    let at8 = c in
    let at11 = c in
    let a = at11.args in
    let s = slot_at a.pool.now a.at.size a.at.index in
    let told = drop-solver-told (solver_of a.x) s in
    let e = rw at8.held.ensures at at7.solver_drop-d.ensures in
    rw (c.over.ensures, c.is_settled.ensures, c.kept.ensures, c.silent.ensures)
    (recorded-leaves of_solver a.x (solver_of a.x) s [] [] [] told at7.solver_drop-d.result.answer e)
