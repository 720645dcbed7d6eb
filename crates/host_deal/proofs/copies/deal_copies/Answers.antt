-- `host_deal::copies::deal_copies` meets its contract. Assumes nothing.
use mathlib.Core.Path.{◌≡◌}
use native.Mathlib.Omega.{arith}
use lib.ListN.{length, length-take}
use lib.Seq.{length-take-le}
use Rattle.host_deal.proofs.Leaving.{cut-back}
use borrow.Author.Rules.{rules}
use Rattle.host_deal.proofs.copies.deal_copies.Goals as goal

pub slice_bounds-deal-end-2 : goal.slice_bounds-deal-end-2
slice_bounds-deal-end-2 c = let few = c.requires in simp length-take (search rules)

pub slice_bounds-deal-end-4 : goal.slice_bounds-deal-end-4
slice_bounds-deal-end-4 c = let few = c.requires in simp length-take (search rules)

pub returns : goal.returns
returns c =
    let deal = c.deal in
    let start = c in
    let a = start.args in
    let one : length deal.new.first ≡ a.size = omega (arith, length-take-le a.size a.one.now start.requires.1) in
    let two : length deal.new.second ≡ a.size = omega (arith, length-take-le a.size a.two.now start.requires.2) in
    cut-back a.size _ _ a.one.now a.two.now one two deal.ensures
