-- `solver::second::solver_second` meets its contract. Assumes nothing.
use mathlib.Core.Path.{sym, ◌∙◌}
use mathlib.Core.List.{[]}
use lib.ListN.{length}
use Rattle.protocol.specs.Tape.{slot_at}
use Rattle.protocol.specs.Message.{Message, message_in, message_parts}
use Rattle.protocol.specs.System.{solver_second_effect, solver_second_tests, solver_second}
use Rattle.tape.proofs.Slots.{same-pool}
use Rattle.judging.proofs.Leaving.{refused-leaves, step-leaves, as-taken}
use Rattle.solver.proofs.Known.{second-known}
use Rattle.solver.proofs.Order.{second-tests}
use Rattle.solver.proofs.second.solver_second.Goals as goal

pub returns-in-Err : goal.returns-in-Err
unfolding solver_second
returns-in-Err c =
    let a = c.args in
    let s = slot_at a.pool.now a.at.size a.at.index in
    let message = message_in a.a in
    let told = sym (second-tests a.s s message (length a.out.now)) ∙ sym c.in-Err.ensures in
    rw c.refused.ensures (sym (refused-leaves a.s s [] a.out.now [] _ (solver_second_effect a.s s message) told))

pub compute-requires : goal.compute-requires
compute-requires c =
    let a = c.args in
    let s = slot_at a.pool.now a.at.size a.at.index in
    let message = message_in a.a in
    let passed = sym (second-tests a.s s message (length a.out.now)) ∙ sym c.in_default.ensures in
    let k = second-known a.s s message (length a.out.now) passed in
    as-taken (λ (m : Message). solver_second_tests a.s s m (length a.out.now)) k.message passed

pub returns : goal.returns
unfolding solver_second solver_second_effect message_parts
returns c =
    let a = c.args in
    let s = slot_at a.pool.now a.at.size a.at.index in
    let message = message_in a.a in
    let passed = sym (second-tests a.s s message (length a.out.now)) ∙ sym c.in_default.ensures in
    let k = second-known a.s s message (length a.out.now) passed in
    let same = sym (same-pool s k.later.session-open.half.inside) in
    step-leaves a.s s [] a.out.now [] _ (solver_second_effect a.s s message) passed c.compute.ensures same
