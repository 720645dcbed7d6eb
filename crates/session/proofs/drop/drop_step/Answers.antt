-- `session::drop::drop_step` meets its contract. Assumes nothing.
use mathlib.Core.List.{[]}
use native.Mathlib.Omega.{arith}
use Rattle.protocol.specs.Tape.{slot_at}
use Rattle.entry.specs.Record.{right_of, solver_of, of_right, of_solver}
use Rattle.local.proofs.Recorded.{any-scratch}
use Rattle.local.proofs.Ends.{drop-right-no-scratch, drop-solver-no-scratch}
use Rattle.session.proofs.Chosen.{drop-solver, drop-blinder, drop-right}
use Rattle.session.proofs.drop.drop_step.Goals as goal

pub returns-in-4 : goal.returns-in-4
returns-in-4 c =
    let at4 = c in
    let at8 = c in
    let a = at8.args in
    let s = slot_at a.pool.now a.at.size a.at.index in
    let which = drop-solver a.x s a.scratch.now c.in-4.is in
    rw which (any-scratch a.x s [] [] a.scratch.now (drop-solver-no-scratch (solver_of a.x) s of_solver) c.solver.ensures)

pub returns-in-3 : goal.returns-in-3
returns-in-3 c =
    let at4 = c in
    let at7 = c in
    let at9 = c in
    let at13 = c in
    let a = at13.args in
    let s = slot_at a.pool.now a.at.size a.at.index in
    rw (drop-blinder a.x s a.scratch.now (omega arith) c.in-3.is) at4.blinder.ensures

pub returns-in_default : goal.returns-in_default
returns-in_default c =
    let at4 = c in
    let at6 = c in
    let at10 = c in
    let a = at10.args in
    let s = slot_at a.pool.now a.at.size a.at.index in
    let which = drop-right a.x s a.scratch.now (omega arith) (omega arith) in
    rw which (any-scratch a.x s [] [] a.scratch.now (drop-right-no-scratch (right_of a.x) s of_right) c.right.ensures)
