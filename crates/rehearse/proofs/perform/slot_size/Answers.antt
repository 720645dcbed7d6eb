-- `rehearse::perform::slot_size` meets its contract. Assumes nothing.
use native.Mathlib.Omega.{arith}
use Rattle.protocol.specs.Rehearsal.{slot_size}
use Rattle.tape.proofs.Matrices.{product-bound}
use Rattle.rehearse.proofs.perform.slot_size.Goals as goal

pub returns : goal.returns
unfolding slot_size
returns c =
    let t = c.args.t in
    let b = product-bound t.m t.k t.p c.requires in
    (omega (arith, c.half_size.ensures, c.half_size-2.ensures, c.max.ensures), omega (arith, c.half_size.ensures, c.half_size-2.ensures, c.max.ensures, b))
