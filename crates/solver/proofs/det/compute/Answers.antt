-- `solver::det::compute` meets its contract. Assumes nothing.
use mathlib.Core.Path.{◌≡◌, refl, sym, ◌∙◌}
use mathlib.Core.List.{List}
use Prim.Native.Nat.{ℕ, ◌*◌, ◌≤◌, ◌<◌}
use native.Mathlib.Omega.{arith}
use lib.ListN.{length, take}
use lib.Seq.{length-take-le}
use Rattle.protocol.specs.Bounds.{field_fits}
use Rattle.protocol.specs.declared.SolverSession.{SolverSession}
use Rattle.protocol.specs.Judge.{done}
use Rattle.protocol.specs.System.{solver_determinant_tests}
use Rattle.protocol.specs.Tape.{Slot, slot_at}
use Rattle.judging.specs.InOrder.{judged}
use Rattle.algebra.specs.Words.{over}
use Rattle.protocol.specs.Message.{message_size}
use Rattle.protocol.proofs.StepTests.{SolverLastFits}
use Rattle.judging.specs.Leaves.{taken}
use Rattle.solver.specs.Formulas.{sum_of}
use Rattle.vectors.proofs.Written.{first_word}
use Rattle.judging.proofs.KindLaws.{size-6}
use Rattle.solver.proofs.Known.{few, determinant-known, last-terms}
use Rattle.solver.proofs.Formulas.{joint-asked, sum-residues, sum-found, determinant-left}
use Rattle.solver.proofs.det.compute.Goals as goal

module _ (x : SolverSession) (s : Slot) (residues : List ℕ) (room : ℕ)
    (h : judged (solver_determinant_tests x s (taken 4 x.terms residues) room) ≡ done tt) where
  known : SolverLastFits 6 x s (taken 4 x.terms residues) (message_size 6 x.terms) room
  known = determinant-known x s (taken 4 x.terms residues) room h

  -- W + V, as the array holds it
  found : (n : ℕ) (out : List ℕ) {words : List ℕ} → n ≡ x.terms.m * x.terms.m → length out ≡ 256 → words ≡ over (sum_of x.terms s residues) out
      → (n ≤ length words) × (take n words ≡ sum_of x.terms s residues)
  found n out en size e = sum-found x s (taken 4 x.terms residues) known n out en size e

pub write_joint-requires : goal.write_joint-requires
write_joint-requires c =
    let a = c.args in
    let s = slot_at a.pool.now a.at.size a.at.index in
    joint-asked a.s s (taken 4 a.s.terms a.residues.now) (known a.s s a.residues.now (length a.out.now) c.requires)

pub slice_bounds-sum-end : goal.slice_bounds-sum-end
slice_bounds-sum-end c =
    let a = c.args in
    let s = slot_at a.pool.now a.at.size a.at.index in
    (found a.s s a.residues.now (length a.out.now) c.requires c.times-n.result _ c.times-n.ensures refl c.write_joint.ensures).0

pub slice_bounds-determinant-end : goal.slice_bounds-determinant-end
slice_bounds-determinant-end c =
    let a = c.args in
    let s = slot_at a.pool.now a.at.size a.at.index in
    let f = found a.s s a.residues.now (length a.out.now) c.requires c.times-n.result _ c.times-n.ensures refl c.write_joint.ensures in
    sym (length-take-le _ _ f.0)

pub determinant-requires : goal.determinant-requires
unfolding field_fits
determinant-requires c =
    let a = c.args in
    let s = slot_at a.pool.now a.at.size a.at.index in
    let t = a.s.terms in
    let f = found a.s s a.residues.now (length a.out.now) c.requires c.times-n.result _ c.times-n.ensures refl c.write_joint.ensures in
    let o = last-terms (known a.s s a.residues.now (length a.out.now) c.requires) in
    (o.field, omega (arith, o.small), (few t o.sides).few, rw f.1 (sum-residues t s a.residues.now (omega (arith, o.big))))

pub bounds-out-0 : goal.bounds-out-0
bounds-out-0 c =
    let a = c.args in
    let k = known a.s (slot_at a.pool.now a.at.size a.at.index) a.residues.now (length a.out.now) c.requires in
    omega (arith, k.fits.message-room, size-6 a.s.terms)

pub returns : goal.returns
returns c =
    let a = c.args in
    let s = slot_at a.pool.now a.at.size a.at.index in
    let k = known a.s s a.residues.now (length a.out.now) c.requires in
    let f = found a.s s a.residues.now (length a.out.now) c.requires c.times-n.result _ c.times-n.ensures refl c.write_joint.ensures in
    let room : 0 < length a.out.now = omega (arith, k.fits.message-room, size-6 a.s.terms) in
    rw (c.accepted.ensures, c.session_of.ensures)
    (determinant-left a.s s (taken 4 a.s.terms a.residues.now) a.out.now
    (first_word _ a.out.now room ∙ rw (c.determinant.ensures, f.1)))
