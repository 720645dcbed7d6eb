-- `session::next::next_step` meets its contract. Assumes nothing.
use mathlib.Core.List.{[]}
use native.Mathlib.Omega.{arith}
use lib.ListN.{length}
use Rattle.protocol.specs.Tape.{slot_at}
use Rattle.protocol.specs.Message.{message_in}
use Rattle.entry.specs.Record.{right_of, solver_of, of_right, of_solver}
use Rattle.local.proofs.Recorded.{any-scratch, any-sent, any-result}
use Rattle.local.proofs.Ends.{solver-next-no-scratch, solver-next-no-result, right-last-no-scratch, right-last-no-sent}
use Rattle.session.proofs.Chosen.{next-solver, next-blinder, next-right}
use Rattle.session.proofs.next.next_step.Goals as goal

pub returns-in-4 : goal.returns-in-4
returns-in-4 c =
    let at4 = c in
    let at7 = c in
    let at14 = c in
    let a = at14.args in
    let s = slot_at a.pool.now a.at.size a.at.index in
    let m = message_in a.a in
    let room = length a.out.now in
    let which = next-solver a.x s a.scratch.now m room (length a.res.now) c.in-4.is in
    let no-scratch = solver-next-no-scratch (solver_of a.x) s m room a.x.due of_solver in
    let no_result = solver-next-no-result (solver_of a.x) s m room a.x.due of_solver in
    rw which
    (any-scratch a.x s a.out.now a.res.now a.scratch.now no-scratch
    (any-result a.x s [] a.out.now a.res.now no_result at4.solver.ensures))

pub returns-in-3 : goal.returns-in-3
returns-in-3 c =
    let at8 = c in
    let at13 = c in
    let at15 = c in
    let at22 = c in
    let a = at22.args in
    let s = slot_at a.pool.now a.at.size a.at.index in
    let m = message_in a.a in
    let which = next-blinder a.x s a.scratch.now m (length a.out.now) (length a.res.now) (omega arith) c.in-3.is in
    rw which at8.blinder.ensures

pub returns-in_default : goal.returns-in_default
returns-in_default c =
    let at4 = c in
    let at7 = c in
    let at9 = c in
    let at16 = c in
    let a = at16.args in
    let s = slot_at a.pool.now a.at.size a.at.index in
    let m = message_in a.a in
    let share = length a.res.now in
    let which = next-right a.x s a.scratch.now m (length a.out.now) share (omega arith) (omega arith) in
    let no-scratch = right-last-no-scratch (right_of a.x) s m share of_right in
    let no-sent = right-last-no-sent (right_of a.x) s m share of_right in
    rw which
    (any-scratch a.x s a.out.now a.res.now a.scratch.now no-scratch
    (any-sent a.x s [] a.res.now a.out.now no-sent at4.right.ensures))
