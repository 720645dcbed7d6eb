-- `judging::held::check_tape` meets its contract. Assumes nothing.
use mathlib.Core.Path.{sym, ◌∙◌}
use mathlib.Core.List.{[], ◌∷◌}
use Rattle.tape.specs.Ends.{role}
use Rattle.judging.proofs.Join.{also}
use Rattle.judging.proofs.Header.{tape-as-two}
use Rattle.judging.proofs.held.check_tape.Goals as goal

pub returns : goal.returns
returns c =
    let a = c.args in
    also (_ ∷ []) (_ ∷ []) c.worst.ensures (rw c.status_is.ensures at c.need-mark.ensures)
    (rw c.bears.ensures at c.need-numbers.ensures) ∙ sym (tape-as-two (role a.end) a.status a.t a.slot.now)
