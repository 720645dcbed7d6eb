-- `dealer::halves::draw_next` meets its contract: the parts that are lent are tails. Assumes nothing.
use native.Mathlib.Omega.{arith}
use borrow.Author.Rules.{rules}
use lib.ListN.{drop, length-drop}
use Rattle.drawing.proofs.Then.{read-few}
use Rattle.vectors.proofs.Written.{tail-part, part-written}
use Rattle.dealer.proofs.halves.draw_next.Goals as goal

pub overflow_add-result : goal.overflow_add-result
overflow_add-result c =
    let a = c.args in
    let e = rw (tail-part a.from a.words.now) at c.draw-read.ensures.value in
    omega (arith, e, read-few a.q a.n (drop a.from a.words.now), length-drop a.from a.words.now)

pub returns : goal.returns
returns c =
    let a = c.args in
    let e = rw (tail-part a.from a.words.now) at c.draw-read.ensures in record {
      value = omega (arith, e.value);
      out_after = part-written a.at _ a.out.now _ (search rules) e.out_after;
    }
