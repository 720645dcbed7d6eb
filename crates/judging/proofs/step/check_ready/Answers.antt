-- `judging::step::check_ready` meets its contract. Assumes nothing.
use Rattle.judging.proofs.Join.{also}
use native.Mathlib.Omega.{arith}
use Rattle.tape.specs.Ends.{role}
use Rattle.tape.proofs.Slots.{half-body}
use Rattle.judging.proofs.step.check_ready.Goals as goal

pub check_tape-tape-requires : goal.check_tape-tape-requires
check_tape-tape-requires c =
    let a = c.args in
    omega (arith, half-body (role a.end) a.t, c.requires.1)

pub returns : goal.returns
returns c = also _ _ c.worst.ensures c.check_tape-tape.ensures c.check_body-body.ensures
