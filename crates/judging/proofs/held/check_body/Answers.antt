-- `judging::held::check_body` meets its contract. Assumes nothing.
use Rattle.protocol.specs.Tape.{body_tests}
use Rattle.judging.proofs.held.check_body.Goals as goal

pub returns : goal.returns
unfolding body_tests
returns c = rw c.holds_residues.ensures at c.need.ensures
