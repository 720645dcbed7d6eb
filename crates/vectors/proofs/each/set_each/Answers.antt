-- After i turns the first i words are set; the others are as they were. Assumes nothing.
use mathlib.Core.Path.{◌∙◌}
use borrow.Author.Rules.{rules}
use Rattle.vectors.proofs.Fill.{rest_at}
use Rattle.vectors.proofs.each.set_each.Goals as goal

pub f-requires : goal.f-requires
f-requires g c =
    let l = c.loop-i in
    let w = c.index-out-i in
    rw (w.is ∙ rest_at l.out c.args.out.now l.i w.result l.invariant.0) (c.requires.1 l.i w.result (search rules))
