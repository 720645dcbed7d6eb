-- `product::left::compute` meets its contract. Assumes nothing.
use mathlib.Core.Path.{sym, ap, ◌∙◌}
use mathlib.Core.List.{append-nil}
use Prim.Native.Nat.{◌≤◌}
use native.Mathlib.Omega.{arith}
use lib.ListN.{length}
use Rattle.algebra.specs.Count.{join}
use Rattle.algebra.specs.Words.{over}
use Rattle.protocol.specs.Drawing.{residues_of}
use Rattle.protocol.specs.Tape.{left, slot_at}
use Rattle.protocol.specs.Product.{left_effect}
use Rattle.drawing.proofs.Then.{drawn-count, coins-part}
use Rattle.judging.specs.Leaves.{taken}
use Rattle.judging.proofs.Fits.{first-placed}
use Rattle.judging.proofs.KindLaws.{size-1, whole-message}
use Rattle.product.proofs.Known.{left-known, answering}
use borrow.Author.Rules.{rules}
use Rattle.product.proofs.left.compute.Goals as goal

pub matrix-x0-requires : goal.matrix-x0-requires
matrix-x0-requires c =
    let start = c in
    let a = start.args in
    let s = slot_at a.pool.now a.at.size a.at.index in
    let f = left-known a.t s a.x.now a.words.now (taken 1 a.t a.residues.now) (length a.out.now) (length a.share.now) start.requires in
    (first-placed left a.t s f.first, omega arith)

pub matrix-a0-requires : goal.matrix-a0-requires
matrix-a0-requires c =
    let start = c in
    let a = start.args in
    let s = slot_at a.pool.now a.at.size a.at.index in
    let f = left-known a.t s a.x.now a.words.now (taken 1 a.t a.residues.now) (length a.out.now) (length a.share.now) start.requires in
    (first-placed left a.t s f.first, omega arith)

pub draw-count-requires : goal.draw-count-requires
draw-count-requires c =
    let start = c in
    let a = start.args in
    let s = slot_at a.pool.now a.at.size a.at.index in
    let f = left-known a.t s a.x.now a.words.now (taken 1 a.t a.residues.now) (length a.out.now) (length a.share.now) start.requires in
    let enough = f.enough in
    let n = c.times-mp.ensures in
    ((omega (arith, f.first.terms.big), omega (arith, f.first.terms.small)), omega (arith, enough, n), omega (arith, f.share-room, n))

pub slice_bounds-write_message-end : goal.slice_bounds-write_message-end
slice_bounds-write_message-end c =
    let at = c in
    let start = c in
    let a = start.args in
    let s = slot_at a.pool.now a.at.size a.at.index in
    let f = left-known a.t s a.x.now a.words.now (taken 1 a.t a.residues.now) (length a.out.now) (length a.share.now) start.requires in
    let enough = f.enough in
    let n = at.times-mp.ensures in
    search rules

pub slice_bounds-write_message-end-2 : goal.slice_bounds-write_message-end-2
slice_bounds-write_message-end-2 c =
    let at = c in
    let start = c in
    let a = start.args in
    let s = slot_at a.pool.now a.at.size a.at.index in
    let f = left-known a.t s a.x.now a.words.now (taken 1 a.t a.residues.now) (length a.out.now) (length a.share.now) start.requires in
    let enough = f.enough in
    let few : at.times-mp.result ≤ length (residues_of a.t.q a.words.now) = omega (arith, at.times-mp.ensures, enough) in
    let u = coins-part _ _ a.words.now _ _ few c.draw-count.ensures.out_after in
    sym (ap length u ∙ drawn-count _ _ _ few)

pub write_message-requires : goal.write_message-requires
write_message-requires c =
    let at = c in
    let start = c in
    let a = start.args in
    let s = slot_at a.pool.now a.at.size a.at.index in
    let m = taken 1 a.t a.residues.now in
    let f = left-known a.t s a.x.now a.words.now m (length a.out.now) (length a.share.now) start.requires in
    let enough = f.enough in
    let few : at.times-mp.result ≤ length (residues_of a.t.q a.words.now) = omega (arith, at.times-mp.ensures, enough) in
    let u = coins-part _ _ a.words.now _ _ few c.draw-count.ensures.out_after in
    rw (at.matrix-a0.ensures, at.matrix-x0.ensures)
    (answering a.t s a.x.now a.words.now m (length a.out.now) (length a.share.now) f (ap length u ∙ (drawn-count _ _ _ few ∙ at.times-mp.ensures)))

pub returns : goal.returns
unfolding left_effect join over
returns c =
    let start = c in
    let a = start.args in
    let s = slot_at a.pool.now a.at.size a.at.index in
    let m = taken 1 a.t a.residues.now in
    let f = left-known a.t s a.x.now a.words.now m (length a.out.now) (length a.share.now) start.requires in
    let enough = f.enough in
    let few : c.times-mp.result ≤ length (residues_of a.t.q a.words.now) = omega (arith, c.times-mp.ensures, enough) in
    let draw = c.draw-count in
    let u = coins-part _ _ a.words.now _ _ few draw.ensures.out_after in
    let y = whole-message a.t m (f.message.residues.size ∙ sym (size-1 a.t)) in
    let sent = rw (u, c.times-mp.ensures, c.matrix-a0.ensures, c.matrix-x0.ensures) at c.write_message.ensures in
    rw (rw c.times-mp.ensures at draw.ensures.value, sent, rw c.times-mp.ensures at draw.ensures.out_after) (simp (append-nil, y))
