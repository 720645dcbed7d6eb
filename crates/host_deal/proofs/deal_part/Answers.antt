-- `host_deal::deal_part` meets its contract. Assumes nothing.
use native.Mathlib.Omega.{arith}
use lib.ListN.{length-take}
use Rattle.entry.specs.Bytes.{words_of}
use Rattle.dealer.specs.Sorts.{sort}
use Rattle.host_deal.proofs.Leaving.{all_told}
use Rattle.host_deal.proofs.deal_part.Goals as goal

pub slice_bounds-r-end : goal.slice_bounds-r-end
slice_bounds-r-end c =
    let few = c.sift_for-sifted.ensures.few in
    simp length-take (omega (arith, few))

pub returns : goal.returns
returns c =
    let dealt = c in
    let a = c.args in
    rw c.report_of.ensures
    (all_told a.at (sort a.s) a.t a.first.now a.second.now (words_of a.words.now) _ _ _ dealt.deal_bytes-answer.result _
    c.sift_for-sifted.ensures.kept c.sift_for-sifted.ensures.read dealt.deal_bytes-answer.ensures)
