-- `session::record::BlinderSessionKept::held` meets its contract. Assumes nothing.
use native.Mathlib.Omega.{arith}
use Rattle.entry.specs.Record.{blinder_of}
use Rattle.session.proofs.Arrays.{copied-start, copied-end}
use Rattle.session.proofs.record.BlinderSessionKept.held.Goals as goal

pub write_copy-requires : goal.write_copy-requires
write_copy-requires c =
    let at4 = c in
    let n = at4.well_formed.0.1.1.1.1.1.0.1.0.1 in
    (omega arith, omega arith)

pub slice_bounds-write_copy-end-3 : goal.slice_bounds-write_copy-end-3
slice_bounds-write_copy-end-3 c =
    let at7 = c in
    let n = at7.well_formed.0.1.1.1.1.1.0.1.0.1 in
    omega arith

pub returns : goal.returns
unfolding blinder_of
returns c =
    let at6 = c in
    let at11 = c in
    let n = at11.well_formed.0.1.1.1.1.1.0.1.0.1 in
    rw (
      copied-start 256 at11.args.x.kept _ _ (omega arith) (omega arith) at6.write_copy.ensures,
      copied-end 256 16 at11.args.x.kept _ _ (omega arith) (omega arith) c.write_copy-2.ensures,
    )
