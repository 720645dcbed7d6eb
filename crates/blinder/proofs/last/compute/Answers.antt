-- `blinder::last::compute` meets its contract. Assumes nothing.
use mathlib.Core.Path.{ap, ◌∙◌}
use native.Mathlib.Omega.{arith}
use lib.ListN.{length}
use Rattle.algebra.specs.Words.{over}
use Rattle.protocol.specs.Bounds.{columns}
use Rattle.protocol.specs.Tape.{slot_at, blinder}
use Rattle.protocol.specs.System.{blinder_last_effect}
use Rattle.protocol.proofs.CompletionLaws.{third_of}
use Rattle.tape.proofs.Sides.{unknowns}
use Rattle.judging.specs.Leaves.{taken}
use Rattle.judging.proofs.Fits.{open-placed}
use Rattle.blinder.proofs.Kept.{side-is, side-bound, square-is, wide_enough}
use Rattle.blinder.proofs.Known.{last-known}
use Rattle.blinder.proofs.Sent.{found-size, found_part}
use Rattle.blinder.proofs.last.compute.Goals as goal

pub overflow_sub-rhs : goal.overflow_sub-rhs
overflow_sub-rhs c =
    let a = c.args in
    let f = last-known a.s (slot_at a.pool.now a.at.size a.at.index) (taken 5 a.s.terms a.residues.now) a.scratch.now (length a.out.now) c.requires in
    wide_enough a.s.terms f.later.session-open.terms.sides

pub matrix-qm-requires : goal.matrix-qm-requires
matrix-qm-requires c =
    let a = c.args in
    let f = last-known a.s (slot_at a.pool.now a.at.size a.at.index) (taken 5 a.s.terms a.residues.now) a.scratch.now (length a.out.now) c.requires in
    (open-placed blinder a.s.terms (slot_at a.pool.now a.at.size a.at.index) f.later.session-open, omega arith)

pub write_product-requires : goal.write_product-requires
write_product-requires c =
    let a = c.args in
    let f = last-known a.s (slot_at a.pool.now a.at.size a.at.index) (taken 5 a.s.terms a.residues.now) a.scratch.now (length a.out.now) c.requires in
    let t = a.s.terms in
    let o = f.later.session-open.terms in
    let u = unknowns t.m t.k t.p o.sides in
    let side = side-is t o.sides in
    record {
      some-q = omega (arith, o.big);
      small-q = omega (arith, o.small);
      few-k = omega (arith, u.few);
      few-y = omega (arith, side, side-bound t o.sides);
      full-x = omega (arith, ap length c.matrix-qm.ensures ∙ (third_of f.later.matrices-fit).size, square-is t o.sides);
      full-y = omega (arith, side, found-size t (taken 5 t a.residues.now) f.message);
      room = omega (arith, side, f.write-room);
    }

pub forget-requires : goal.forget-requires
forget-requires c =
    let a = c.args in
    let f = last-known a.s (slot_at a.pool.now a.at.size a.at.index) (taken 5 a.s.terms a.residues.now) a.scratch.now (length a.out.now) c.requires in
    (f.later.session-open.terms.sides, f.scratch-room)

pub returns : goal.returns
unfolding blinder_last_effect columns over
returns c =
    let a = c.args in
    let f = last-known a.s (slot_at a.pool.now a.at.size a.at.index) (taken 5 a.s.terms a.residues.now) a.scratch.now (length a.out.now) c.requires in
    let m = taken 5 a.s.terms a.residues.now in
    let t = a.s.terms in
    rw (
      c.accepted.ensures,
      c.forget.ensures.value,
      c.forget.ensures.scratch_after,
      c.no_head.ensures,
      c.write_product.ensures,
      c.matrix-qm.ensures,
    ) (simp (found_part t m (found-size t m f.message)))
