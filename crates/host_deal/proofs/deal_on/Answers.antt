-- `host_deal::deal_on` meets its contract. Assumes nothing.
use mathlib.Core.Path.{◌∙◌}
use Rattle.host_deal.proofs.Leaving.{other-sort, by-sort}
use Rattle.host_deal.proofs.deal_on.Goals as goal

pub returns-in_default : goal.returns-in_default
returns-in_default c =
    let a = c.args in
    rw c.report_of.ensures
    (other-sort a.first.now a.second.now a.size a.index a.words.now a.sort a.tape a.q a.m a.k a.p (rw c.in_default.is at c.sort_of.ensures))

pub returns : goal.returns
returns c =
    let a = c.args in
    c.deal_sort.ensures
    ∙ by-sort a.first.now a.second.now a.size a.index a.words.now a.sort _
    (record { session = record { 0 = 1 }; tape = record { 0 = a.tape }; q = a.q; m = a.m; k = a.k; p = a.p })
    c.in-Some.ensures
