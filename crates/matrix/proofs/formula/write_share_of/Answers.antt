-- The share of a message's two parts. Assumes nothing.
use Rattle.std.proofs.Common.{◌*◌, sym, arith, length-drop, length-take-le}
use Rattle.algebra.specs.Product.{right_share}
use Rattle.vectors.proofs.Written.{tail-part}
use Rattle.matrix.proofs.formula.write_share_of.Goals as goal

pub slice_bounds-write_share-end : goal.slice_bounds-write_share-end
slice_bounds-write_share-end c =
    let start = c in
    sym (length-take-le _ start.args.message.now start.requires.0.full-x)

pub write_share-requires : goal.write_share-requires
write_share-requires c =
    let start = c in
    let a = start.args in
    let h = start.requires in
    let n = a.s.m * a.s.k in (
      record {
        some-q = h.0.some-q;
        small-q = h.0.small-q;
        few-k = h.0.few-k;
        few-y = h.0.few-y;
        full-x = omega (arith, length-take-le n a.message.now h.0.full-x);
        full-y = h.0.full-y;
        room = h.0.room;
      },
      omega (arith, length-drop n a.message.now, h.1),
      h.2,
    )

pub returns : goal.returns
unfolding right_share
returns c =
    let a = c.args in
    rw (tail-part (a.s.m * a.s.k) a.message.now) at c.write_share.ensures
