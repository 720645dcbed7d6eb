-- `judging::numbers::check_message` meets its contract. Assumes nothing.
use Rattle.judging.specs.Groups.{message_numbers}
use Rattle.judging.proofs.Join.{also}
use Rattle.judging.proofs.numbers.check_message.Goals as goal

pub returns : goal.returns
unfolding message_numbers
returns c = also _ _ c.worst.ensures c.check_kind-kind.ensures c.check_head-head.ensures
