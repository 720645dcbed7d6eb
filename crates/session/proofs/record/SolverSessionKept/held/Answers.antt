-- `session::record::SolverSessionKept::held` meets its contract. Assumes nothing.
use native.Mathlib.Omega.{arith}
use Rattle.entry.specs.Record.{solver_of}
use Rattle.session.proofs.Arrays.{copied-start}
use Rattle.session.proofs.record.SolverSessionKept.held.Goals as goal

pub write_copy-requires : goal.write_copy-requires
write_copy-requires c =
    let at4 = c in
    let n = at4.well_formed.0.1.1.1.1.1.0.1.0.1 in
    (omega arith, omega arith)

pub returns : goal.returns
unfolding solver_of
returns c =
    let at6 = c in
    let n = at6.well_formed.0.1.1.1.1.1.0.1.0.1 in
    rw (copied-start 16 at6.args.x.kept _ _ (omega arith) (omega arith) c.write_copy.ensures)
