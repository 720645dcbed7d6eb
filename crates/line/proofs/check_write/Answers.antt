-- `line::check_write` meets its contract: the head is checked first, then room and residues. Assumes nothing.
use mathlib.Core.Path.{sym, ap, ◌∙◌}
use Prim.Native.Nat.{ℕ}
use Rattle.judging.specs.InOrder.{judged}
use Rattle.judging.proofs.Join.{hands_on, goes-past}
use Rattle.line.specs.Reading.{rest_tests}
use Rattle.line.proofs.Fits.{head_few}
use Rattle.line.proofs.Judged.{message-phases}
use Rattle.line.proofs.check_write.Goals as goal

pub returns-in_err-check_message : goal.returns-in_err-check_message
returns-in_err-check_message c =
    let a = c.args in
    hands_on c.from_residual.result _ c.from_residual.ensures.1 c.in_err-check_message.ensures
    ∙ sym (message-phases a.h a.residues.now _ a.room)

pub message_length-requires : goal.message_length-requires
message_length-requires c = head_few _ _ (sym c.in_ok-check_message.ensures)

pub returns : goal.returns
returns c =
    let a = c.args in
    c.check_rest.ensures ∙ ap (λ (n : ℕ). judged (rest_tests a.h.terms.q a.residues.now n a.room)) c.message_length.ensures
    ∙ sym (message-phases a.h a.residues.now _ a.room ∙ goes-past c.in_ok-check_message.ensures)
