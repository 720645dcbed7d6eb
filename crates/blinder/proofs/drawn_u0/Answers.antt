-- `blinder::drawn_u0` meets its contract. Assumes nothing.
use borrow.Author.Rules.{rules}
use Rattle.blinder.proofs.Kept.{square-bound, scratch-sum, u0-stands}
use Rattle.blinder.proofs.drawn_u0.Goals as goal

pub offset_bounds-scratch-square : goal.offset_bounds-scratch-square
offset_bounds-scratch-square c =
    let few = square-bound c.args.t c.requires.0 in
    search rules

pub slice_bounds-result-count : goal.slice_bounds-result-count
slice_bounds-result-count c = let both = scratch-sum c.args.t in search rules

pub slice_bounds-result-start : goal.slice_bounds-result-start
slice_bounds-result-start c = let both = scratch-sum c.args.t in search rules

pub returns : goal.returns
returns c =
    let a = c.args in
    u0-stands a.t a.scratch.now c.times-square.ensures c.scratch_size-both.ensures
