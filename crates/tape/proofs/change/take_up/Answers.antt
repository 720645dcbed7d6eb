-- `tape::change::take_up` meets its contract. Assumes nothing.
use Rattle.protocol.specs.Tape.{words_in_use}
use Rattle.tape.proofs.change.take_up.Goals as goal

pub returns : goal.returns
unfolding words_in_use
returns c = c.set_status.ensures
