-- `judging::message::last_kind` meets its contract. Assumes nothing.
use Rattle.protocol.specs.Message.{last_kind}
use Rattle.tape.proofs.Chain.{chain}
use Rattle.judging.proofs.message.last_kind.Goals as goal

pub returns-then-t : goal.returns-then-t
unfolding last_kind
returns-then-t c = search chain

pub returns-else-t : goal.returns-else-t
unfolding last_kind
returns-else-t c = search chain
