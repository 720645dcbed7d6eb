-- `dealer::check::check` meets its contract. Assumes nothing.
use mathlib.Core.Path.{sym, ◌∙◌}
use Rattle.judging.proofs.Join.{hands_on, goes-past}
use Rattle.dealer.specs.Sorts.{sort}
use Rattle.dealer.proofs.Order.{deal-phases}
use Rattle.dealer.proofs.Known.{numbers_fit}
use Rattle.dealer.proofs.check.check.Goals as goal

pub returns-in_err-check_numbers : goal.returns-in_err-check_numbers
returns-in_err-check_numbers c =
    let a = c.args in
    hands_on c.from_residual.result _ c.from_residual.ensures.1 c.in_err-check_numbers.ensures
    ∙ sym (deal-phases (sort a.r.now.sort) a.r.now.terms a.first.now a.second.now a.at.size a.at.index a.r.now.words.now c.requires)

pub check_words-requires : goal.check_words-requires
check_words-requires c =
    let a = c.args in
    numbers_fit (sort a.r.now.sort) a.r.now.terms _ _ _ _ c.in_ok-check_numbers.ensures

pub returns : goal.returns
returns c =
    let a = c.args in
    c.check_words.ensures
    ∙ sym (deal-phases (sort a.r.now.sort) a.r.now.terms a.first.now a.second.now a.at.size a.at.index a.r.now.words.now c.requires
    ∙ goes-past c.in_ok-check_numbers.ensures)
