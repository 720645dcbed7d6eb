-- `host_deal::part::part_of` meets its contract. Assumes nothing.
use mathlib.Core.Path.{sym}
use Rattle.judging.proofs.Flags.{fails, holds}
use Prim.Native.Nat.{◌/◌}
use Rattle.tape.proofs.Slots.{slot-inside}
use Rattle.dealer.specs.Sorts.{sort}
use Rattle.host_deal.proofs.Fits.{fitting, part-fits, part_none}
use borrow.Author.Rules.{rules}
use Rattle.host_deal.proofs.part.part_of.Goals as goal

pub returns-then-not-is_fit : goal.returns-then-not-is_fit
returns-then-not-is_fit c =
    let a = c.args in
    sym (part_none (sort a.s) a.t a.first a.second a.words a.at.size a.at.index (fails c.is_fit.ensures c.if-not-is_fit.true))

pub overflow_mul-result : goal.overflow_mul-result
overflow_mul-result c =
    let a = c.args in
    let s = sort a.s in
    let e = holds c.is_fit.ensures c.if-not-is_fit.false in
    let f = fitting s a.t a.first a.second a.words a.at.size a.at.index e in
    let i = slot-inside (a.first / 4) a.at.size a.at.index f.in-first in
    search rules

pub larger_half-requires : goal.larger_half-requires
larger_half-requires c =
    let a = c.args in
    let s = sort a.s in
    let e = holds c.is_fit.ensures c.if-not-is_fit.false in
    let f = fitting s a.t a.first a.second a.words a.at.size a.at.index e in
    f.sides

pub returns : goal.returns
returns c =
    let a = c.args in
    let e = holds c.is_fit.ensures c.if-not-is_fit.false in
    rw c.larger_half.ensures (sym (part-fits (sort a.s) a.t a.first a.second a.words a.at.size a.at.index e))
