-- `solver::first::solver_first` meets its contract. Assumes nothing.
use mathlib.Core.Path.{sym}
use mathlib.Core.List.{[]}
use lib.ListN.{length}
use Rattle.protocol.specs.Tape.{solver, slot_at}
use Rattle.protocol.specs.System.{no_solver, solver_first_effect, solver_first}
use Rattle.judging.proofs.Leaving.{refused-leaves, step-leaves}
use Rattle.judging.proofs.Fits.{first-placed as placed}
use Rattle.solver.proofs.Known.{first-known}
use Rattle.solver.proofs.first.solver_first.Goals as goal

pub returns-in-Err : goal.returns-in-Err
unfolding solver_first
returns-in-Err c =
    let a = c.args in
    let s = slot_at a.pool.now a.at.size a.at.index in
    rw (c.refused.ensures, c.no_session.ensures)
    (sym (refused-leaves no_solver s [] a.out.now [] _ (solver_first_effect a.t s a.l.now a.x.now) (sym c.in-Err.ensures)))

pub take_up_at-requires : goal.take_up_at-requires
take_up_at-requires c =
    let far = c in
    let a = far.args in
    let s = slot_at a.pool.now a.at.size a.at.index in
    let passed = sym c.in_default.ensures in
    placed solver a.t s (first-known a.t s a.l.now a.x.now (length a.out.now) passed).first

pub returns : goal.returns
unfolding solver_first solver_first_effect
returns c =
    let far = c in
    let compute = c.compute-done in
    let take-up-at = c.take_up_at in
    let a = far.args in
    let s = slot_at a.pool.now a.at.size a.at.index in
    let passed = sym c.in_default.ensures in
    step-leaves no_solver s [] a.out.now [] _ (solver_first_effect a.t s a.l.now a.x.now) passed compute.ensures take-up-at.ensures
