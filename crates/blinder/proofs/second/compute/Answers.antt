-- `blinder::second::compute` meets its contract. Assumes nothing.
use mathlib.Core.Path.{◌≡◌, ◌∙◌}
use native.Mathlib.Omega.{arith}
use lib.ListN.{length}
use lib.Seq.{length-take-le}
use mathlib.Core.List.{List}
use Prim.Native.Nat.{ℕ, ◌≤◌}
use Rattle.protocol.specs.Tape.{slot_at, blinder}
use Rattle.judging.specs.Leaves.{taken}
use Rattle.judging.proofs.Fits.{open-placed}
use Rattle.blinder.proofs.Kept.{side-bound, square-bound}
use Rattle.blinder.proofs.Known.{second-known, sending-known, second-computed}
use Rattle.blinder.proofs.second.compute.Goals as goal

-- what the session keeps of M or y
kept-fits : (xs : List ℕ) (n : ℕ) {size is : ℕ} → length xs ≡ n → size ≡ is → is ≤ n → size ≤ length xs
kept-fits xs n l e h = omega (arith, l, e, h)

pub matrix-qm-requires : goal.matrix-qm-requires
matrix-qm-requires c =
    let a = c.args in
    let f = second-known a.s (slot_at a.pool.now a.at.size a.at.index) (taken 3 a.s.terms a.residues.now) a.scratch.now (length a.out.now) c.requires in
    (open-placed blinder a.s.terms (slot_at a.pool.now a.at.size a.at.index) f.later.session-open, omega arith)

pub matrix-g-requires : goal.matrix-g-requires
matrix-g-requires c =
    let a = c.args in
    let f = second-known a.s (slot_at a.pool.now a.at.size a.at.index) (taken 3 a.s.terms a.residues.now) a.scratch.now (length a.out.now) c.requires in
    (open-placed blinder a.s.terms (slot_at a.pool.now a.at.size a.at.index) f.later.session-open, omega arith)

pub shared_ref_as_front-send : goal.shared_ref_as_front-send
shared_ref_as_front-send c =
    let a = c.args in
    let f = second-known a.s (slot_at a.pool.now a.at.size a.at.index) (taken 3 a.s.terms a.residues.now) a.scratch.now (length a.out.now) c.requires in
    omega (arith, c.times-square.ensures, square-bound a.s.terms f.later.session-open.terms.sides)

pub shared_ref_as_front-send-2 : goal.shared_ref_as_front-send-2
shared_ref_as_front-send-2 c =
    let a = c.args in
    let f = second-known a.s (slot_at a.pool.now a.at.size a.at.index) (taken 3 a.s.terms a.residues.now) a.scratch.now (length a.out.now) c.requires in
    omega (arith, c.side_size-side.ensures, side-bound a.s.terms f.later.session-open.terms.sides)

pub send-requires : goal.send-requires
send-requires c =
    let a = c.args in
    let f = second-known a.s (slot_at a.pool.now a.at.size a.at.index) (taken 3 a.s.terms a.residues.now) a.scratch.now (length a.out.now) c.requires in
    let m-fits = kept-fits a.s.mm 256 c.well_formed.1.1.1.0.1.1.1.1.0.1.0.1
    c.times-square.ensures (square-bound a.s.terms f.later.session-open.terms.sides) in
    let y-fits = kept-fits a.s.y 16 c.well_formed.1.1.1.0.1.1.1.1.1.0.1.0.1
    c.side_size-side.ensures (side-bound a.s.terms f.later.session-open.terms.sides) in
    sending-known a.s (slot_at a.pool.now a.at.size a.at.index) (taken 3 a.s.terms a.residues.now) f c.matrix-qm.ensures c.matrix-g.ensures
    (length-take-le _ a.s.mm m-fits ∙ c.times-square.ensures) (length-take-le _ a.s.y y-fits ∙ c.side_size-side.ensures)

pub returns : goal.returns
returns c =
    let a = c.args in
    let f = second-known a.s (slot_at a.pool.now a.at.size a.at.index) (taken 3 a.s.terms a.residues.now) a.scratch.now (length a.out.now) c.requires in
    rw c.accepted.ensures
    (second-computed a.s (slot_at a.pool.now a.at.size a.at.index) (taken 3 a.s.terms a.residues.now) f
    c.matrix-qm.ensures c.matrix-g.ensures
    a.out.now c.last_kind.ensures c.times-square.ensures c.side_size-side.ensures
    c.send.ensures)
