-- `host_deal::sift_for` meets its contract. Assumes nothing.
use native.Mathlib.Omega.{arith}
use Rattle.dealer.specs.Sorts.{sort}
use Rattle.entry.specs.Bytes.{words_of}
use Rattle.host_deal.proofs.Fits.{few-drawn}
use Rattle.host_deal.proofs.Leaving.{sifted-none, sifted-some}
use Rattle.host_deal.proofs.sift_for.Goals as goal

pub returns-then-at-eq0 : goal.returns-then-at-eq0
returns-then-at-eq0 c =
    let a = c.args in
    sifted-none (sort a.s) a.t a.at.size (words_of a.words.now) a.out.now c.if-at-eq0.true

pub draw_count-requires : goal.draw_count-requires
draw_count-requires c = c.requires.0.sides (omega arith)

pub sift-requires : goal.sift-requires
sift-requires c =
    let a = c.args in
    let known = c.requires.0 in
    let few = few-drawn (sort a.s) a.t.m a.t.k a.t.p (known.sides (omega arith)) in
    (known.some-q (omega arith), omega (arith, few, c.draw_count.ensures))

pub returns : goal.returns
returns c =
    let some = c in
    let a = some.args in
    let sides = some.requires.0.sides (omega (arith, some.if-at-eq0.false)) in
    sifted-some (sort a.s) a.t a.at.size (words_of a.words.now) _ _ a.out.now _ some.if-at-eq0.false sides
    c.draw_count.ensures c.sift.ensures
