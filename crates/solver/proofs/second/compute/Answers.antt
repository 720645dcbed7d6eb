-- `solver::second::compute` meets its contract. Assumes nothing.
use mathlib.Core.Path.{◌≡◌, refl, sym, ap, ◌∙◌}
use mathlib.Core.List.{append-nil}
use mathlib.Core.List.{List}
use Prim.Native.Nat.{ℕ, ◌+◌, ◌*◌, ◌≤◌}
use native.Mathlib.Omega.{arith}
use lib.ListN.{length, take, drop}
use lib.Seq.{length-take-le}
use Rattle.algebra.specs.Count.{part, join}
use Rattle.algebra.specs.Product.{right_share}
use Rattle.algebra.specs.Words.{over}
use Rattle.protocol.specs.Message.{message_size}
use Rattle.protocol.specs.declared.SolverSession.{SolverSession}
use Rattle.protocol.specs.Judge.{done}
use Rattle.protocol.specs.System.{solver_second_effect, solver_second_tests}
use Rattle.judging.specs.InOrder.{judged}
use Rattle.protocol.specs.Tape.{Slot, slot_words, solver, matrices, slot_at}
use Rattle.protocol.proofs.StepTests.{SolverFits}
use Rattle.tape.specs.Placed.{Placed}
use Rattle.judging.specs.Leaves.{taken}
use Rattle.judging.proofs.Fits.{open-placed}
use Rattle.solver.proofs.Known.{Few, few, second-known, second-counts}
use Rattle.solver.proofs.Formulas.{y0-size, b0-size, r-size, share_of, share-found, share-length}
use Rattle.solver.proofs.second.compute.Goals as goal

module _ (x : SolverSession) (s : Slot) (residues : List ℕ) (room : ℕ)
    (h : judged (solver_second_tests x s (taken 2 x.terms residues) room) ≡ done tt) where
  known : SolverFits 2 x s (taken 2 x.terms residues) (message_size 3 x.terms) room
  known = second-known x s (taken 2 x.terms residues) room h

  place : Placed solver x.terms s
  place = open-placed solver x.terms s known.later.session-open

  small : Few x.terms
  small = few x.terms place.sides

  counts : (length residues ≡ x.terms.m * x.terms.k + x.terms.m * x.terms.p) × (x.terms.m * x.terms.k ≤ room)
  counts = second-counts x s (taken 2 x.terms residues) room known

  -- S, as the array holds it
  found : (n : ℕ) (out : List ℕ) {words : List ℕ} → n ≡ x.terms.m * x.terms.p → length out ≡ 272
      → words ≡ over (right_share x.terms.q x.terms.m x.terms.k x.terms.p (take (x.terms.m * x.terms.k) residues)
      (part 0 (matrices solver x.terms (slot_words s))) (drop (x.terms.m * x.terms.k) residues) (part 1 (matrices solver x.terms (slot_words s)))) out
      → (n ≤ length words) × (take n words ≡ share_of x.terms s (taken 2 x.terms residues))
  found n out en size w = share-found x.terms s (taken 2 x.terms residues) small n out en (omega (arith, small.mp, en)) counts.0 w

pub matrix-y0-requires : goal.matrix-y0-requires
matrix-y0-requires c =
    let a = c.args in
    (place a.s (slot_at a.pool.now a.at.size a.at.index) a.residues.now (length a.out.now) c.requires, omega arith)

pub matrix-b0-requires : goal.matrix-b0-requires
matrix-b0-requires c =
    let a = c.args in
    (place a.s (slot_at a.pool.now a.at.size a.at.index) a.residues.now (length a.out.now) c.requires, omega arith)

pub matrix-r-requires : goal.matrix-r-requires
matrix-r-requires c =
    let a = c.args in
    (place a.s (slot_at a.pool.now a.at.size a.at.index) a.residues.now (length a.out.now) c.requires, omega arith)

pub write_share_of-requires : goal.write_share_of-requires
write_share_of-requires c =
    let a = c.args in
    let s = slot_at a.pool.now a.at.size a.at.index in
    let t = a.s.terms in
    let p = place a.s s a.residues.now (length a.out.now) c.requires in
    let o = (known a.s s a.residues.now (length a.out.now) c.requires).later.session-open.terms in
    let f = small a.s s a.residues.now (length a.out.now) c.requires in
    let n = (counts a.s s a.residues.now (length a.out.now) c.requires).0 in
    rw (c.from.ensures, c.matrix-y0.ensures, c.matrix-b0.ensures) (
      record {
        some-q = omega (arith, o.big);
        small-q = omega (arith, o.small);
        few-k = omega (arith, f.square, f.few);
        few-y = omega (arith, f.kp-is, f.mp);
        full-x = omega (arith, n);
        full-y = omega (arith, y0-size t s p);
        room = omega (arith, f.mp);
      },
      omega (arith, n),
      omega (arith, b0-size t s p),
    )

pub slice_bounds-share-end : goal.slice_bounds-share-end
slice_bounds-share-end c =
    let a = c.args in
    let s = slot_at a.pool.now a.at.size a.at.index in
    let w = rw (c.from.ensures, c.matrix-y0.ensures, c.matrix-b0.ensures) at c.write_share_of.ensures in
    (found a.s s a.residues.now (length a.out.now) c.requires c.times-n.result _ c.times-n.ensures refl w).0

pub slice_bounds-finish-end : goal.slice_bounds-finish-end
slice_bounds-finish-end c =
    let a = c.args in
    let s = slot_at a.pool.now a.at.size a.at.index in
    let w = rw (c.from.ensures, c.matrix-y0.ensures, c.matrix-b0.ensures) at c.write_share_of.ensures in
    let f = found a.s s a.residues.now (length a.out.now) c.requires c.times-n.result _ c.times-n.ensures refl w in
    sym (length-take-le _ _ f.0)

pub finish-requires : goal.finish-requires
finish-requires c =
    let a = c.args in
    let s = slot_at a.pool.now a.at.size a.at.index in
    let t = a.s.terms in
    let w = rw (c.from.ensures, c.matrix-y0.ensures, c.matrix-b0.ensures) at c.write_share_of.ensures in
    let f = found a.s s a.residues.now (length a.out.now) c.requires c.times-n.result _ c.times-n.ensures refl w in
    let o = (known a.s s a.residues.now (length a.out.now) c.requires).later.session-open.terms in
    let r = ap length c.matrix-r.ensures ∙ r-size t s (place a.s s a.residues.now (length a.out.now) c.requires) in
    let share = share-length t s (taken 2 t a.residues.now) (small a.s s a.residues.now (length a.out.now) c.requires) in
    let n = (counts a.s s a.residues.now (length a.out.now) c.requires).1 in
    (omega (arith, o.big), o.sides, r, ap length f.1 ∙ share, n)

pub returns : goal.returns
unfolding solver_second_effect share_of join over
returns c =
    let a = c.args in
    let s = slot_at a.pool.now a.at.size a.at.index in
    let w = rw (c.from.ensures, c.matrix-y0.ensures, c.matrix-b0.ensures) at c.write_share_of.ensures in
    let f = found a.s s a.residues.now (length a.out.now) c.requires c.times-n.result _ c.times-n.ensures refl w in
    let sent = rw (c.matrix-r.ensures, f.1) at c.finish.ensures.out_after in
    rw (c.finish.ensures.value, sent, f.1) (simp append-nil)
