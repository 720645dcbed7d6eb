-- `dealer::check::check_raw` meets its contract. Assumes nothing.
use mathlib.Core.Path.{sym, ◌∙◌}
use Rattle.judging.proofs.Join.{hands_on, goes-past}
use Rattle.dealer.specs.Sorts.{sort}
use Rattle.dealer.proofs.Order.{raw-phases}
use Rattle.dealer.proofs.Known.{coins-enough}
use Rattle.dealer.proofs.check.check_raw.Goals as goal

pub returns-in_err-check_coins : goal.returns-in_err-check_coins
returns-in_err-check_coins c =
    let a = c.args in
    hands_on c.from_residual.result _ c.from_residual.ensures.1 (rw c.draw_count.ensures at c.in_err-check_coins.ensures)
    ∙ sym (raw-phases (sort a.r.now.sort) a.r.now.terms a.r.now.words.now)

pub check_mask-requires : goal.check_mask-requires
check_mask-requires c =
    let a = c.args in
    (c.requires, coins-enough a.r.now.terms.q _ a.r.now.words.now (rw c.draw_count.ensures at c.in_ok-check_coins.ensures))

pub returns : goal.returns
returns c =
    let a = c.args in
    c.check_mask.ensures
    ∙ sym (raw-phases (sort a.r.now.sort) a.r.now.terms a.r.now.words.now ∙ goes-past (rw c.draw_count.ensures at c.in_ok-check_coins.ensures))
