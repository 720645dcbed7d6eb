-- `judging::step::check_later` meets its contract. Assumes nothing.
use mathlib.Core.Path.{sym, ◌∙◌}
use Rattle.protocol.specs.Tape.{slot_at}
use Rattle.tape.specs.Ends.{role}
use Rattle.judging.proofs.Join.{hands_on, goes-past}
use Rattle.judging.specs.Received.{later_received}
use Rattle.judging.proofs.Fits.{turn-placed, half-fits}
use Rattle.judging.proofs.Phases.{is_open_lem}
use Rattle.judging.proofs.Steps.{later-phases, later-closed}
use Rattle.judging.proofs.step.check_later.Goals as goal

pub returns-then-due-eq0 : goal.returns-then-due-eq0
returns-then-due-eq0 c =
    let a = c.args in
    c.check_closed.ensures ∙ sym (later-closed (role a.end) a.t (slot_at a.pool.now a.at.size a.at.index) a.kind a.a.head
    a.a.residues.now a.due c.if-due-eq0.true)

pub returns-in_err-check_later_numbers : goal.returns-in_err-check_later_numbers
returns-in_err-check_later_numbers c =
    let a = c.args in
    hands_on c.from_residual.result _ c.from_residual.ensures.1 c.in_err-check_later_numbers.ensures ∙ sym
    (later-phases (role a.end) a.t (slot_at a.pool.now a.at.size a.at.index) a.kind a.a.head a.a.residues.now a.due
    (is_open_lem a.due c.if-due-eq0.false))

pub slot-requires : goal.slot-requires
unfolding later_received
slot-requires c =
    let a = c.args in
    (turn-placed (role a.end) a.t a.a.head _ a.pool.now a.at.size a.at.index _
    (sym c.in_ok-check_later_numbers.ensures)).inside

pub check_arrived-requires : goal.check_arrived-requires
unfolding later_received
check_arrived-requires c =
    let a = c.args in
    let p = turn-placed (role a.end) a.t a.a.head _ a.pool.now a.at.size a.at.index _
    (sym c.in_ok-check_later_numbers.ensures) in
    half-fits (role a.end) a.t (slot_at a.pool.now a.at.size a.at.index) p c.slot.ensures

pub returns : goal.returns
returns c =
    let a = c.args in
    (rw c.slot.ensures at c.check_arrived.ensures) ∙ sym
    (later-phases (role a.end) a.t (slot_at a.pool.now a.at.size a.at.index) a.kind a.a.head a.a.residues.now a.due
    (is_open_lem a.due c.if-due-eq0.false)
    ∙ goes-past c.in_ok-check_later_numbers.ensures)
