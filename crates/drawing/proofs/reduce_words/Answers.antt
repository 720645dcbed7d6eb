-- `drawing::reduce_words` meets its contract: each word is reduced. Assumes nothing.
use mathlib.Core.Path.{◌≡◌, ◌∙◌}
use Prim.Native.Nat.{◌*◌, ◌%◌}
use lib.ListN.{get_or}
use borrow.Author.Rules.{rules}
use Rattle.protocol.specs.Drawing.{residue_of}
use Rattle.reduction.proofs.Prepared.{one-times}
use Rattle.vectors.proofs.Fill.{filled-each}
use Rattle.drawing.specs.Extent.{residue_at}
use Rattle.drawing.proofs.reduce_words.Goals as goal

pub returns : goal.returns
unfolding residue_at residue_of
returns c =
    let a = c.args in
    let s = c.set_each.ensures in
    filled-each (residue_at a.q a.out.now) a.out.now _ a.n (search rules) (search rules) (λ i h.
    let e = s.each i 0 h in
    let product : get_or c.set_each.new.out i 0 ≡ c.prepare-unit.result.value * get_or a.out.now i 0 % a.q = search rules in
    product ∙ one-times a.q _ _ c.prepare-unit.ensures.0)
    s.others
