-- `session::next::solver` meets its contract. Assumes nothing.
use mathlib.Core.List.{[]}
use lib.ListN.{length}
use borrow.Author.Tests.{eq-eqb, ne_eqb}
use Rattle.protocol.specs.Tape.{slot_at}
use Rattle.protocol.specs.Message.{message_in}
use Rattle.entry.specs.Record.{solver_of, of_solver}
use Rattle.local.proofs.Recorded.{recorded-leaves}
use Rattle.local.proofs.Ends.{solver-second-told, solver-ending-told}
use Rattle.session.proofs.next.solver.Goals as goal

pub returns-then-x-eq2 : goal.returns-then-x-eq2
returns-then-x-eq2 c =
    let at5 = c in
    let at7 = c in
    let at12 = c in
    let a = at12.args in
    let s = slot_at a.pool.now a.at.size a.at.index in
    let m = message_in a.a in
    let told = solver-second-told (solver_of a.x) s m (length a.out.now) in
    let e = rw at5.held-s.ensures at c.solver_second-second.ensures in
    rw (c.over.ensures, c.is_settled.ensures, c.kept.ensures, eq-eqb a.x.due 2 at7.if-x-eq2.true)
    (recorded-leaves of_solver a.x (solver_of a.x) s [] a.out.now [] told c.solver_second-second.result.answer e)

pub returns : goal.returns
returns c =
    let at5 = c in
    let at7 = c in
    let at9 = c in
    let at14 = c in
    let a = at14.args in
    let s = slot_at a.pool.now a.at.size a.at.index in
    let m = message_in a.a in
    let told = solver-ending-told (solver_of a.x) s m (length a.out.now) in
    let e = rw at7.held-s.ensures at at5.solver_ending-last.ensures in
    rw (c.over-2.ensures, c.is_settled-2.ensures, c.kept-2.ensures, ne_eqb a.x.due 2 at9.if-x-eq2.false)
    (recorded-leaves of_solver a.x (solver_of a.x) s [] a.out.now [] told at5.solver_ending-last.result.answer e)
