-- `judging::held::check_arrived` meets its contract. Assumes nothing.
use Rattle.judging.specs.Groups.{same_tests}
use Rattle.judging.specs.Received.{sent_tests, received_words}
use Rattle.judging.proofs.Join.{also}
use native.Mathlib.Omega.{arith}
use Rattle.tape.specs.Ends.{role}
use Rattle.tape.proofs.Slots.{half-body}
use Rattle.judging.proofs.held.check_arrived.Goals as goal

pub check_tape-tape-requires : goal.check_tape-tape-requires
check_tape-tape-requires c =
    let a = c.args in
    omega (arith, half-body (role a.end) a.t, c.requires.1)

pub returns : goal.returns
unfolding received_words sent_tests same_tests
returns c =
    also _ _ c.worst-2.ensures c.check_tape-tape.ensures
    (also _ _ c.worst.ensures c.check_sent-sent.ensures c.check_body-body.ensures)
