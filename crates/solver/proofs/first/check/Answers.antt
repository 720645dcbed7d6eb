-- `solver::first::check` meets its contract. Assumes nothing.
use mathlib.Core.Path.{sym, ◌∙◌}
use native.Mathlib.Omega.{arith}
use Rattle.protocol.specs.Bounds.{field_fits}
use Rattle.protocol.specs.Tape.{slot_at}
use Rattle.protocol.specs.System.{regular_tests}
use Rattle.judging.proofs.Join.{hands_on, goes-past}
use Rattle.solver.proofs.Known.{few, inputs-known}
use Rattle.solver.proofs.Order.{first-phases}
use Rattle.solver.proofs.first.check.Goals as goal

pub returns-in_err-check_inputs : goal.returns-in_err-check_inputs
returns-in_err-check_inputs c =
    let a = c.args in
    hands_on c.from_residual.result _ c.from_residual.ensures.1 c.in_err-check_inputs.ensures
    ∙ sym (first-phases a.t (slot_at a.pool.now a.at.size a.at.index) a.l.now a.x.now a.room)

pub has_inverse-requires : goal.has_inverse-requires
unfolding field_fits
has_inverse-requires c =
    let a = c.args in
    let told = sym c.in_ok-check_inputs.ensures in
    let k = inputs-known a.t (slot_at a.pool.now a.at.size a.at.index) a.l.now a.x.now a.room told in
    let f = k.0.terms in
    (f.field, omega (arith, f.small), (few a.t f.sides).few, k.1)

pub returns : goal.returns
unfolding regular_tests
returns c =
    let a = c.args in
    (rw c.has_inverse.ensures at c.need.ensures)
    ∙ sym (first-phases a.t (slot_at a.pool.now a.at.size a.at.index) a.l.now a.x.now a.room
    ∙ goes-past c.in_ok-check_inputs.ensures)
