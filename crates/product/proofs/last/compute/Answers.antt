-- `product::last::compute` meets its contract. Assumes nothing.
use mathlib.Core.Path.{◌≡◌, sym, ◌∙◌}
use Prim.Native.Nat.{◌+◌, ◌*◌}
use mathlib.Core.List.{List}
use Prim.Native.Nat.{ℕ}
use lib.ListN.{length}
use native.Mathlib.Omega.{arith}
use Rattle.algebra.specs.Words.{over}
use Rattle.protocol.specs.Bounds.{product}
use Rattle.protocol.specs.Tape.{Slot, right, slot_at}
use Rattle.protocol.specs.declared.RightSession.{RightSession}
use Rattle.protocol.specs.Judge.{done}
use Rattle.protocol.specs.Message.{Message}
use Rattle.protocol.specs.Product.{right_last_effect, right_last_tests}
use Rattle.judging.specs.InOrder.{judged}
use Rattle.tape.specs.Placed.{Placed}
use Rattle.tape.proofs.Sides.{sides-of}
use Rattle.tape.proofs.Matrices.{matrix-length}
use Rattle.judging.specs.Leaves.{taken}
use Rattle.judging.proofs.Fits.{open-placed}
use Rattle.judging.proofs.KindLaws.{size-2}
use Rattle.product.proofs.Known.{last-known, first_part, second-part}
use Rattle.product.proofs.last.compute.Goals as goal

place : (x : RightSession) (s : Slot) (a : Message) (n : ℕ) → judged (right_last_tests x s a n) ≡ done tt → Placed right x.terms s
place x s a n h = open-placed right x.terms s (last-known x s a n h).later.session-open

full : (x : RightSession) (s : Slot) (w : List ℕ) (n : ℕ) → judged (right_last_tests x s (taken 2 x.terms w) n) ≡ done tt
    → length w ≡ x.terms.m * x.terms.k + x.terms.m * x.terms.p
full x s w n h = (last-known x s (taken 2 x.terms w) n h).message.residues.size ∙ sym (size-2 x.terms)

pub matrix-y0-requires : goal.matrix-y0-requires
matrix-y0-requires c = (place _ _ _ _ c.requires, omega arith)

pub matrix-b0-requires : goal.matrix-b0-requires
matrix-b0-requires c = (place _ _ _ _ c.requires, omega arith)

pub write_share_of-requires : goal.write_share_of-requires
write_share_of-requires c =
    let start = c in
    let a = start.args in
    let t = a.s.terms in
    let s = slot_at a.pool.now a.at.size a.at.index in
    let k = last-known _ _ _ _ c.requires in
    let b = sides-of product t.m t.k t.p (place _ _ _ _ c.requires).sides in
    let n = full _ _ _ _ c.requires in
    rw (c.from.ensures, c.matrix-y0.ensures, c.matrix-b0.ensures) (
      record {
        some-q = omega (arith, k.later.session-open.terms.big);
        small-q = omega (arith, k.later.session-open.terms.small);
        few-k = b.few-k;
        few-y = b.few-kp;
        full-x = omega (arith, n);
        full-y = omega (arith, matrix-length right t 0 s (place _ _ _ _ c.requires));
        room = k.share-room;
      },
      omega (arith, n),
      omega (arith, matrix-length right t 1 s (place _ _ _ _ c.requires)),
    )

pub returns : goal.returns
unfolding right_last_effect over
returns c =
    let start = c in
    let a = start.args in
    let m = taken 2 a.s.terms a.residues.now in
    let share = rw (c.from.ensures, c.matrix-y0.ensures, c.matrix-b0.ensures) at c.write_share_of.ensures in
    rw (c.accepted.ensures, c.closed.ensures, c.no_head.ensures, share) (simp (first_part a.s.terms m, second-part a.s.terms m (full _ _ _ _ c.requires)))
