-- `session::record::SolverSessionKept::record` meets its contract. Assumes nothing.
use native.Mathlib.Omega.{arith}
use Rattle.entry.specs.Record.{of_solver}
use Rattle.session.proofs.Arrays.{kept-start}
use Rattle.session.proofs.record.SolverSessionKept.record.Goals as goal

pub write_copy-requires : goal.write_copy-requires
write_copy-requires c =
    let at4 = c in
    let n = at4.well_formed.0.1.1.1.1.0.1.0.1 in
    (omega arith, omega arith)

pub returns : goal.returns
unfolding of_solver
returns c =
    let at6 = c in
    let n = at6.well_formed.0.1.1.1.1.0.1.0.1 in
    rw (kept-start 16 272 at6.args.self.s _ n c.write_copy.ensures)
