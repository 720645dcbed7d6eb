-- `host_deal::deal_sort` meets its contract. Assumes nothing.
use mathlib.Core.Path.{◌∙◌}
use lib.ListN.{length}
use Rattle.dealer.specs.Sorts.{sort}
use Rattle.host_deal.proofs.Fits.{part-known, part_lies}
use Rattle.host_deal.proofs.Alike.{deal-told}
use Rattle.host_deal.proofs.deal_sort.Goals as goal

pub deal_part-requires : goal.deal_part-requires
deal_part-requires c =
    let a = c.args in
    let s = sort a.s in
    let first = length a.first.now in
    let second = length a.second.now in
    let words = length a.words.now in
    rw c.part_of-part.ensures (
      part-known s a.t first second words a.at.size a.at.index,
      part_lies s a.t first second words a.at.size a.at.index,
      c.requires,
    )

pub returns : goal.returns
returns c =
    let part = c in
    let start = c.before.before.before.before.before.before.before in
    let a = start.args in
    rw part.part_of-part.ensures at c.deal_part.ensures
    ∙ deal-told (sort a.s) a.t a.first.now a.second.now a.words.now a.at.size a.at.index start.requires
    part.bytes_known.ensures part.bytes_known-2.ensures
