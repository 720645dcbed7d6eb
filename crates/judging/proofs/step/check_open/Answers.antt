-- `judging::step::check_open` meets its contract. Assumes nothing.
use mathlib.Core.Path.{sym, ◌∙◌}
use Rattle.protocol.specs.Tape.{slot_at}
use Rattle.tape.specs.Ends.{role}
use Rattle.judging.proofs.Join.{hands_on, goes-past}
use Rattle.judging.proofs.Fits.{numbers-placed, header-fits}
use Rattle.judging.proofs.Phases.{is_open_lem}
use Rattle.judging.proofs.Steps.{open-phases, none-due}
use Rattle.judging.proofs.step.check_open.Goals as goal

pub returns-then-due-eq0 : goal.returns-then-due-eq0
returns-then-due-eq0 c =
    let a = c.args in
    c.check_none_due.ensures ∙ sym (none-due (role a.end) a.t (slot_at a.pool.now a.at.size a.at.index) a.due c.if-due-eq0.true)

pub returns-in_err-check_numbers : goal.returns-in_err-check_numbers
returns-in_err-check_numbers c =
    let a = c.args in
    hands_on c.from_residual.result _ c.from_residual.ensures.1 c.in_err-check_numbers.ensures ∙ sym
    (open-phases (role a.end) a.t (slot_at a.pool.now a.at.size a.at.index) a.due (is_open_lem a.due c.if-due-eq0.false))

pub slot-requires : goal.slot-requires
slot-requires c =
    let a = c.args in
    (numbers-placed (role a.end) a.t a.pool.now a.at.size a.at.index
    (sym c.in_ok-check_numbers.ensures)).inside

pub check_tape-requires : goal.check_tape-requires
check_tape-requires c =
    let a = c.args in
    let p = numbers-placed (role a.end) a.t a.pool.now a.at.size a.at.index
    (sym c.in_ok-check_numbers.ensures) in
    header-fits (role a.end) a.t (slot_at a.pool.now a.at.size a.at.index) p c.slot.ensures

pub returns : goal.returns
returns c =
    let a = c.args in
    (rw c.slot.ensures at c.check_tape.ensures) ∙ sym
    (open-phases (role a.end) a.t (slot_at a.pool.now a.at.size a.at.index) a.due (is_open_lem a.due c.if-due-eq0.false)
    ∙ goes-past c.in_ok-check_numbers.ensures)
