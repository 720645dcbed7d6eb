-- `sizes::inverse::check_inverse` meets its contract. Assumes nothing.
use mathlib.Core.Path.{sym, ◌∙◌}
use Rattle.judging.proofs.Join.{hands_on, goes-past}
use Rattle.sizes.proofs.Square.{matrix-phases, matrix-known}
use Rattle.sizes.proofs.inverse.check_inverse.Goals as goal

pub returns-in_err-need : goal.returns-in_err-need
returns-in_err-need c =
    let a = c.args in
    hands_on c.from_residual.result _ c.from_residual.ensures.1 (rw c.all_below.ensures at c.in_err-need.ensures)
    ∙ sym (matrix-phases a.q a.n a.words.now)

pub has_inverse-requires : goal.has_inverse-requires
has_inverse-requires c =
    let a = c.args in
    let h = c.requires in
    let told = rw c.all_below.ensures at c.in_ok-need.ensures in
    (h.0, h.1, h.2, matrix-known a.q a.n a.words.now h.3 (sym told))

pub returns : goal.returns
returns c =
    let a = c.args in
    let told = rw c.all_below.ensures at c.in_ok-need.ensures in
    (rw c.has_inverse.ensures at c.need-2.ensures) ∙ sym (matrix-phases a.q a.n a.words.now ∙ goes-past told)
