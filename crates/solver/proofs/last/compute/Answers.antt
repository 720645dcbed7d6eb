-- `solver::last::compute` meets its contract. Assumes nothing.
use mathlib.Core.Path.{◌≡◌, refl, sym}
use mathlib.Core.List.{List}
use Prim.Native.Nat.{ℕ, ◌*◌, ◌≤◌}
use native.Mathlib.Omega.{arith}
use lib.ListN.{length, take}
use lib.Seq.{length-take-le}
use Rattle.protocol.specs.Bounds.{field_fits}
use Rattle.protocol.specs.declared.SolverSession.{SolverSession}
use Rattle.protocol.specs.Judge.{done}
use Rattle.protocol.specs.System.{solver_last_tests}
use Rattle.protocol.specs.Tape.{Slot, slot_at}
use Rattle.judging.specs.InOrder.{judged}
use Rattle.algebra.specs.Words.{over}
use Rattle.protocol.specs.Message.{message_size}
use Rattle.protocol.proofs.StepTests.{SolverLastFits}
use Rattle.judging.specs.Leaves.{taken}
use Rattle.solver.specs.Formulas.{sum_of}
use Rattle.protocol.specs.System.{side_size}
use Rattle.judging.proofs.KindLaws.{size-5}
use Rattle.solver.proofs.Known.{one_side, last-known, last-terms, last-count}
use Rattle.solver.proofs.Formulas.{joint-asked, sum-residues, sum-found, last-left}
use Rattle.solver.proofs.last.compute.Goals as goal

module _ (x : SolverSession) (s : Slot) (residues : List ℕ) (room : ℕ)
    (h : judged (solver_last_tests x s (taken 4 x.terms residues) room) ≡ done tt) where
  known : SolverLastFits 5 x s (taken 4 x.terms residues) (message_size 5 x.terms) room
  known = last-known x s (taken 4 x.terms residues) room h

  -- W + V, as the array holds it
  found : (n : ℕ) (out : List ℕ) {words : List ℕ} → n ≡ x.terms.m * x.terms.m → length out ≡ 256 → words ≡ over (sum_of x.terms s residues) out
      → (n ≤ length words) × (take n words ≡ sum_of x.terms s residues)
  found n out en size e = sum-found x s (taken 4 x.terms residues) known n out en size e

pub write_joint-requires : goal.write_joint-requires
write_joint-requires c =
    let a = c.args in
    let s = slot_at a.pool.now a.at.size a.at.index in
    joint-asked a.s s (taken 4 a.s.terms a.residues.now) (known a.s s a.residues.now (length a.out.now) c.requires)

pub slice_bounds-sum-end : goal.slice_bounds-sum-end
slice_bounds-sum-end c =
    let a = c.args in
    let s = slot_at a.pool.now a.at.size a.at.index in
    (found a.s s a.residues.now (length a.out.now) c.requires c.times-n.result _ c.times-n.ensures refl c.write_joint.ensures).0

pub slice_bounds-find_t-end : goal.slice_bounds-find_t-end
slice_bounds-find_t-end c =
    let a = c.args in
    let s = slot_at a.pool.now a.at.size a.at.index in
    let f = found a.s s a.residues.now (length a.out.now) c.requires c.times-n.result _ c.times-n.ensures refl c.write_joint.ensures in
    sym (length-take-le _ _ f.0)

pub find_t-found-requires : goal.find_t-found-requires
unfolding field_fits side_size
find_t-found-requires c =
    let a = c.args in
    let s = slot_at a.pool.now a.at.size a.at.index in
    let t = a.s.terms in
    let f = found a.s s a.residues.now (length a.out.now) c.requires c.times-n.result _ c.times-n.ensures refl c.write_joint.ensures in
    let k = known a.s s a.residues.now (length a.out.now) c.requires in
    let o = last-terms k in (
      o.field,
      o.big,
      omega (arith, o.small),
      o.sides,
      k.sort-is,
      rw f.1 (sum-residues t s a.residues.now (omega (arith, o.big))),
      last-count k,
      c.well_formed.1.1.0.1.1.1.1.0.1.0.1,
      omega (arith, k.fits.message-room, size-5 t, one_side t o.sides k.sort-is),
    )

pub returns : goal.returns
returns c =
    let a = c.args in
    let s = slot_at a.pool.now a.at.size a.at.index in
    let f = found a.s s a.residues.now (length a.out.now) c.requires c.times-n.result _ c.times-n.ensures refl c.write_joint.ensures in
    let told = rw f.1 at c.find_t-found.ensures in
    rw c.answer.ensures
    (last-left a.s s (taken 4 a.s.terms a.residues.now) a.out.now c.find_t-found.result told.0 told.1)
