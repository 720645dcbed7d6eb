-- `solver::last::solver_last` meets its contract. Assumes nothing.
use mathlib.Core.Path.{sym}
use mathlib.Core.List.{[]}
use lib.ListN.{length}
use Rattle.protocol.specs.Tape.{solver, slot_at}
use Rattle.protocol.specs.Message.{Message, message_in, last_fits, message_parts}
use Rattle.protocol.specs.System.{joint_sum, last_tests, solver_last_effect, solver_last_tests, solver_last}
use Rattle.judging.proofs.Leaving.{refused-leaves, step-leaves, as-taken}
use Rattle.judging.proofs.Fits.{open-placed as placed}
use Rattle.solver.specs.Groups.{sort_tests, receiving}
use Rattle.solver.proofs.Known.{last-known}
use Rattle.solver.proofs.last.solver_last.Goals as goal

pub returns-in-Err : goal.returns-in-Err
unfolding solver_last solver_last_tests receiving sort_tests last_tests last_fits
returns-in-Err c =
    let a = c.args in
    let s = slot_at a.pool.now a.at.size a.at.index in
    let effect = solver_last_effect a.s s (message_in a.a) in
    rw c.refused.ensures (sym (refused-leaves a.s s [] a.out.now [] _ effect (sym c.in-Err.ensures)))

pub compute-done-requires : goal.compute-done-requires
unfolding solver_last_tests receiving sort_tests last_tests last_fits
compute-done-requires c =
    let a = c.args in
    let s = slot_at a.pool.now a.at.size a.at.index in
    let passed = sym c.in_default.ensures in
    let k = last-known a.s s (message_in a.a) (length a.out.now) passed in
    as-taken (λ (m : Message). solver_last_tests a.s s m (length a.out.now)) k.fits.message passed

pub spend_at-requires : goal.spend_at-requires
unfolding solver_last_tests receiving sort_tests last_tests last_fits
spend_at-requires c =
    let a = c.args in
    let s = slot_at a.pool.now a.at.size a.at.index in
    let passed = sym c.in_default.ensures in
    let k = last-known a.s s (message_in a.a) (length a.out.now) passed in
    placed solver a.s.terms s k.fits.later.session-open

pub returns : goal.returns
unfolding solver_last solver_last_tests solver_last_effect receiving sort_tests last_tests last_fits message_parts joint_sum
returns c =
    let far = c in
    let compute = c.compute-done in
    let spend-at = c.spend_at in
    let a = far.args in
    let s = slot_at a.pool.now a.at.size a.at.index in
    let passed = sym c.in_default.ensures in
    let effect = solver_last_effect a.s s (message_in a.a) in
    step-leaves a.s s [] a.out.now [] _ effect passed compute.ensures spend-at.ensures
