-- `blinder::first::compute` meets its contract. Assumes nothing.
use native.Mathlib.Omega.{arith}
use lib.ListN.{length}
use Rattle.protocol.specs.Tape.{slot_at, blinder}
use Rattle.judging.specs.Leaves.{taken}
use Rattle.judging.proofs.Fits.{first-placed}
use Rattle.blinder.proofs.Kept.{square-bound, side-bound}
use Rattle.blinder.proofs.Known.{first-known, masking-known, first-computed}
use Rattle.blinder.proofs.first.compute.Goals as goal

pub scratch_size-requires : goal.scratch_size-requires
scratch_size-requires c =
    let a = c.args in
    let f = first-known a.t (slot_at a.pool.now a.at.size a.at.index) (length a.scratch.now) a.mm.now a.y.now (taken 1 a.t a.residues.now)
    (length a.out.now) a.words.now c.requires in
    f.first.terms.sides

pub draw-count-requires : goal.draw-count-requires
draw-count-requires c =
    let a = c.args in
    let f = first-known a.t (slot_at a.pool.now a.at.size a.at.index) (length a.scratch.now) a.mm.now a.y.now (taken 1 a.t a.residues.now)
    (length a.out.now) a.words.now c.requires in
    let size = c.scratch_size.ensures in
    ((omega (arith, f.first.terms.big), omega (arith, f.first.terms.small)), omega (arith, size, f.enough), omega (arith, size, f.scratch-room))

pub matrix-x0-requires : goal.matrix-x0-requires
matrix-x0-requires c =
    let a = c.args in
    let f = first-known a.t (slot_at a.pool.now a.at.size a.at.index) (length a.scratch.now) a.mm.now a.y.now (taken 1 a.t a.residues.now)
    (length a.out.now) a.words.now c.requires in
    (first-placed blinder a.t (slot_at a.pool.now a.at.size a.at.index) f.first, omega arith)

pub matrix-a0-requires : goal.matrix-a0-requires
matrix-a0-requires c =
    let a = c.args in
    let f = first-known a.t (slot_at a.pool.now a.at.size a.at.index) (length a.scratch.now) a.mm.now a.y.now (taken 1 a.t a.residues.now)
    (length a.out.now) a.words.now c.requires in
    (first-placed blinder a.t (slot_at a.pool.now a.at.size a.at.index) f.first, omega arith)

pub send-requires : goal.send-requires
send-requires c =
    let a = c.args in
    let f = first-known a.t (slot_at a.pool.now a.at.size a.at.index) (length a.scratch.now) a.mm.now a.y.now (taken 1 a.t a.residues.now)
    (length a.out.now) a.words.now c.requires in
    masking-known a.t (slot_at a.pool.now a.at.size a.at.index) a.scratch.now a.mm.now a.y.now a.words.now (taken 1 a.t a.residues.now)
    (length a.out.now) f c.matrix-x0.ensures c.matrix-a0.ensures c.scratch_size.ensures c.draw-count.ensures.out_after

pub opened-requires : goal.opened-requires
opened-requires c =
    let a = c.args in
    let f = first-known a.t (slot_at a.pool.now a.at.size a.at.index) (length a.scratch.now) a.mm.now a.y.now (taken 1 a.t a.residues.now)
    (length a.out.now) a.words.now c.requires in
    let fits = f.first.terms.sides in
    (omega (arith, f.m-fits.size, square-bound a.t fits), omega (arith, f.y-fits.size, side-bound a.t fits))

pub returns : goal.returns
returns c =
    let a = c.args in
    let f = first-known a.t (slot_at a.pool.now a.at.size a.at.index) (length a.scratch.now) a.mm.now a.y.now (taken 1 a.t a.residues.now)
    (length a.out.now) a.words.now c.requires in
    first-computed a.t (slot_at a.pool.now a.at.size a.at.index) a.scratch.now a.mm.now a.y.now a.words.now
    (taken 1 a.t a.residues.now) (length a.out.now) f c.matrix-x0.ensures
    c.matrix-a0.ensures c.scratch_size.ensures c.draw-count.ensures.out_after
    a.out.now c.draw-count.ensures.value c.opened.ensures c.send.ensures
