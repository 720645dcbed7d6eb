-- `host_deal::copies::take_words` meets its contract. Assumes nothing.
use Rattle.host_deal.proofs.Leaving.{part-taken}
use Rattle.host_deal.proofs.copies.take_words.Goals as goal

pub returns : goal.returns
returns c =
    let start = c in
    let a = start.args in
    part-taken a.at a.bytes.now a.out.now start.requires.0 c.get_words.ensures
