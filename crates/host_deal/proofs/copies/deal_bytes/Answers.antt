-- `host_deal::copies::deal_bytes` meets its contract. Assumes nothing.
use Rattle.dealer.specs.Sorts.{sort}
use Rattle.host_deal.proofs.Leaving.{copied-refused, copied-done}
use Rattle.host_deal.proofs.copies.deal_bytes.Goals as goal

pub returns-in_err-read : goal.returns-in_err-read
returns-in_err-read c =
    let a = c.args in
    copied-refused a.at (sort a.r.now.sort) a.r.now.terms a.first.now a.second.now a.r.now.words.now _ _ c.take_words.ensures c.take_words-2.ensures
    _ _ _ _ c.from_residual.ensures.1 c.in_err-read.ensures

pub returns : goal.returns
returns c =
    let a = c.args in
    copied-done a.at (sort a.r.now.sort) a.r.now.terms a.first.now a.second.now a.r.now.words.now _ _ c.take_words.ensures c.take_words-2.ensures
    _ _ c.in_ok-read.ensures c.put_back.ensures c.put_back-2.ensures
