-- `solver::first::compute` meets its contract. Assumes nothing.
use mathlib.Core.Path.{ap, ◌∙◌}
use mathlib.Core.List.{append-nil}
use native.Mathlib.Omega.{arith}
use lib.ListN.{length}
use Rattle.algebra.specs.Count.{join}
use Rattle.algebra.specs.Words.{over}
use Rattle.protocol.specs.Tape.{solver, slot_at}
use Rattle.protocol.specs.System.{solver_first_effect}
use Rattle.judging.proofs.Fits.{first-placed}
use Rattle.judging.proofs.KindLaws.{size-1}
use Rattle.solver.proofs.Known.{first-known}
use Rattle.solver.proofs.Formulas.{y0-size}
use Rattle.solver.proofs.first.compute.Goals as goal

pub matrix-y0-requires : goal.matrix-y0-requires
matrix-y0-requires c =
    let start = c in
    let a = start.args in
    let s = slot_at a.pool.now a.at.size a.at.index in
    (first-placed solver a.t s (first-known a.t s a.l.now a.x.now (length a.out.now) start.requires).first, omega arith)

pub write_y1-requires : goal.write_y1-requires
write_y1-requires c =
    let start = c in
    let a = start.args in
    let s = slot_at a.pool.now a.at.size a.at.index in
    let f = first-known a.t s a.l.now a.x.now (length a.out.now) start.requires in (
      omega (arith, f.first.terms.big),
      f.first.terms.sides,
      f.l-fits.size,
      f.x_fits.size,
      ap length c.matrix-y0.ensures ∙ y0-size a.t s (first-placed solver a.t s f.first),
      omega (arith, f.message-room, size-1 a.t),
    )

pub returns : goal.returns
unfolding solver_first_effect join over
returns c = rw (
  c.accepted.ensures,
  c.session_of.ensures,
  c.write_y1.ensures,
  c.matrix-y0.ensures,
) (simp append-nil)
