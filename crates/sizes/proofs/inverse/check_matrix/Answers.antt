-- `sizes::inverse::check_matrix` meets its contract. Assumes nothing.
use mathlib.Core.Path.{sym, ◌∙◌}
use Rattle.judging.proofs.Join.{hands_on, goes-past}
use Rattle.sizes.proofs.Square.{inverse-phases, square-known}
use Rattle.sizes.proofs.inverse.check_matrix.Goals as goal

pub returns-in_err-check_square : goal.returns-in_err-check_square
returns-in_err-check_square c =
    let a = c.args in
    hands_on c.from_residual.result _ c.from_residual.ensures.1 c.in_err-check_square.ensures ∙ sym (inverse-phases a.q a.n a.bytes.now)

pub check_words-requires : goal.check_words-requires
check_words-requires c = square-known _ _ _ (sym c.in_ok-check_square.ensures)

pub returns : goal.returns
returns c =
    let a = c.args in
    c.check_words.ensures ∙ sym (inverse-phases a.q a.n a.bytes.now ∙ goes-past c.in_ok-check_square.ensures)
