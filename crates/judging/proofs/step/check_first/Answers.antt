-- `judging::step::check_first` meets its contract. Assumes nothing.
use mathlib.Core.Path.{sym, ◌∙◌}
use Rattle.protocol.specs.Tape.{slot_at}
use Rattle.tape.specs.Ends.{role}
use Rattle.judging.proofs.Join.{hands_on, goes-past}
use Rattle.judging.proofs.Fits.{numbers-placed, half-fits}
use Rattle.judging.proofs.Steps.{first-phases}
use Rattle.judging.proofs.step.check_first.Goals as goal

pub returns-in_err-check_numbers : goal.returns-in_err-check_numbers
returns-in_err-check_numbers c =
    let a = c.args in
    hands_on c.from_residual.result _ c.from_residual.ensures.1 c.in_err-check_numbers.ensures
    ∙ sym (first-phases (role a.end) a.t (slot_at a.pool.now a.at.size a.at.index))

pub slot-requires : goal.slot-requires
slot-requires c =
    let a = c.args in
    (numbers-placed (role a.end) a.t a.pool.now a.at.size a.at.index (sym c.in_ok-check_numbers.ensures)).inside

pub check_ready-requires : goal.check_ready-requires
check_ready-requires c =
    let a = c.args in
    let p = numbers-placed (role a.end) a.t a.pool.now a.at.size a.at.index (sym c.in_ok-check_numbers.ensures) in
    half-fits (role a.end) a.t (slot_at a.pool.now a.at.size a.at.index) p c.slot.ensures

pub returns : goal.returns
returns c =
    let a = c.args in
    (rw c.slot.ensures at c.check_ready.ensures)
    ∙ sym (first-phases (role a.end) a.t (slot_at a.pool.now a.at.size a.at.index) ∙ goes-past c.in_ok-check_numbers.ensures)
