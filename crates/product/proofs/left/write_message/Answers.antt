-- `product::left::write_message` meets its contract. Assumes nothing.
use mathlib.Core.Path.{ap, ◌∙◌}
use Prim.Native.Nat.{◌*◌}
use native.Mathlib.Omega.{arith}
use lib.ListN.{length}
use Rattle.algebra.specs.Product.{send_x, send_r}
use Rattle.algebra.proofs.Lists.{add-residues as sum-residues}
use Rattle.protocol.specs.Bounds.{product}
use Rattle.protocol.proofs.Residues.{over-length}
use Rattle.vectors.proofs.Written.{part_then}
use Rattle.tape.proofs.Sides.{sides-of}
use Rattle.product.proofs.left.write_message.Goals as goal

pub write_reply-requires : goal.write_reply-requires
write_reply-requires c =
    let start = c in
    let a = start.args in
    let h = start.requires in
    let n = c.times-mk.ensures in
    let b = sides-of product a.t.m a.t.k a.t.p h.sides in
    let full = (sum-residues h.some-q (a.t.m * a.t.k) a.x.now a.x0.now).size in
    rw c.from.ensures (
      record {
        some-q = h.some-q;
        small-q = h.small-q;
        few-k = b.few-k;
        few-y = b.few-kp;
        full-x = omega (arith, h.plain.size);
        full-y = omega (arith, h.full-y);
        room = omega (arith, h.room, n);
      },
      omega (arith, h.full-u),
      omega (arith, h.full-a),
    )

pub returns : goal.returns
unfolding send_x send_r
returns c =
    let start = c in
    let a = start.args in
    let h = start.requires in
    let n = c.times-mk.ensures in
    let full = (sum-residues h.some-q (a.t.m * a.t.k) a.x.now a.x0.now).size in
    let first = rw n at c.add_residues.ensures in
    rw n
    (part_then _ _ a.out.now _ _ (a.t.m * a.t.k) full (omega (arith, ap length first ∙ over-length _ a.out.now (omega (arith, full, h.room)), h.room))
    first (rw (n, c.from.ensures) at c.write_reply.ensures))
