-- `judging::step::check_first_received` meets its contract. Assumes nothing.
use mathlib.Core.Path.{sym, ◌∙◌}
use Rattle.protocol.specs.Tape.{slot_at}
use Rattle.tape.specs.Ends.{role}
use Rattle.judging.proofs.Join.{hands_on, goes-past}
use Rattle.judging.specs.Received.{first_received}
use Rattle.judging.proofs.Fits.{turn-placed, half-fits}
use Rattle.judging.proofs.Steps.{received-phases}
use Rattle.judging.proofs.step.check_first_received.Goals as goal

pub returns-in_err-check_first_numbers : goal.returns-in_err-check_first_numbers
returns-in_err-check_first_numbers c =
    let a = c.args in
    hands_on c.from_residual.result _ c.from_residual.ensures.1 c.in_err-check_first_numbers.ensures ∙ sym
    (received-phases (role a.end) a.t (slot_at a.pool.now a.at.size a.at.index) a.kind a.a.head a.a.residues.now)

pub slot-requires : goal.slot-requires
unfolding first_received
slot-requires c =
    let a = c.args in
    (turn-placed (role a.end) a.t a.a.head _ a.pool.now a.at.size a.at.index _
    (sym c.in_ok-check_first_numbers.ensures)).inside

pub check_arrived-requires : goal.check_arrived-requires
unfolding first_received
check_arrived-requires c =
    let a = c.args in
    let p = turn-placed (role a.end) a.t a.a.head _ a.pool.now a.at.size a.at.index _
    (sym c.in_ok-check_first_numbers.ensures) in
    half-fits (role a.end) a.t (slot_at a.pool.now a.at.size a.at.index) p c.slot.ensures

pub returns : goal.returns
returns c =
    let a = c.args in
    (rw c.slot.ensures at c.check_arrived.ensures) ∙ sym
    (received-phases (role a.end) a.t (slot_at a.pool.now a.at.size a.at.index) a.kind a.a.head a.a.residues.now
    ∙ goes-past c.in_ok-check_first_numbers.ensures)
