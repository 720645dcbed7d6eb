-- `judging::message::first_part` meets its contract. Assumes nothing.
use Rattle.std.proofs.Common.{arith}
use Rattle.std.proofs.lemmas.Bool.Decides.{nat_tests}
use Rattle.protocol.specs.Message.{message_layout}
use Rattle.protocol.specs.System.{side_size}
use Rattle.judging.proofs.message.first_part.Goals as goal

pub returns-in-1 : goal.returns-in-1
unfolding message_layout
returns-in-1 c = rw c.in-1.is c.times.ensures

pub returns-in-2 : goal.returns-in-2
unfolding message_layout
returns-in-2 c = grind (arith, nat_tests)

pub returns-in-5 : goal.returns-in-5
unfolding message_layout side_size
returns-in-5 c = rw c.in-5.is c.side_size.ensures

pub returns-in_default : goal.returns-in_default
unfolding message_layout
returns-in_default c = grind (arith, nat_tests)

pub returns-in_default-2 : goal.returns-in_default-2
unfolding message_layout
returns-in_default-2 c = grind (arith, nat_tests)
