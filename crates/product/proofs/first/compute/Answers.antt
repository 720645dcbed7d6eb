-- `product::first::compute` meets its contract. Assumes nothing.
use mathlib.Core.Path.{ap}
use mathlib.Core.List.{append-nil}
use native.Mathlib.Omega.{arith}
use lib.ListN.{length}
use Rattle.algebra.specs.Count.{join}
use Rattle.algebra.specs.Words.{over}
use Rattle.algebra.specs.Product.{send_y}
use Rattle.protocol.specs.Tape.{right, slot_at}
use Rattle.protocol.specs.Product.{right_first_effect}
use Rattle.protocol.proofs.CompletionLaws.{first_of}
use Rattle.judging.proofs.Fits.{first-placed}
use Rattle.judging.proofs.KindLaws.{size-1}
use Rattle.product.proofs.Known.{first-known}
use Rattle.product.proofs.first.compute.Goals as goal

pub matrix-y0-requires : goal.matrix-y0-requires
matrix-y0-requires c =
    let start = c in
    let a = start.args in
    let s = slot_at a.pool.now a.at.size a.at.index in
    (first-placed right a.t s (first-known a.t s a.y.now (length a.out.now) start.requires).first, omega arith)

pub subtract_residues-requires : goal.subtract_residues-requires
subtract_residues-requires c =
    let start = c in
    let a = start.args in
    let s = slot_at a.pool.now a.at.size a.at.index in
    let f = first-known a.t s a.y.now (length a.out.now) start.requires in
    let n = c.times.ensures in
    let is = c.matrix-y0.ensures in
    let y0 = first_of f.first.matrices-fit in (
      omega (arith, f.first.terms.small),
      λ j l. f.y-fits.below j (omega (arith, n)),
      λ j l. rw is (y0.below j (omega (arith, n))),
      omega (arith, f.y-fits.size, n),
      omega (arith, ap length is, y0.size, n),
      omega (arith, f.message-room, size-1 a.t, n),
    )

pub returns : goal.returns
unfolding right_first_effect send_y join over
returns c =
    let at = c in
    rw (c.accepted.ensures, c.subtract_residues.ensures, at.times.ensures, at.matrix-y0.ensures) (simp append-nil)
