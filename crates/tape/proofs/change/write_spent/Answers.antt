-- `tape::change::write_spent` meets its contract. Assumes nothing.
use mathlib.Core.Path.{◌∙◌}
use Rattle.tape.proofs.Slots.{zeroed-spent}
use Rattle.tape.proofs.change.write_spent.Goals as goal

pub returns : goal.returns
returns c =
    let a = c.args in
    c.set_status.ensures ∙ zeroed-spent a.n a.slot.now _ c.requires
    c.write_zeros.ensures
