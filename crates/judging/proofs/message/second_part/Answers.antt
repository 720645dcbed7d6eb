-- `judging::message::second_part` meets its contract. Assumes nothing.
use mathlib.Core.Path.{sym}
use native.Mathlib.Omega.{arith}
use Rattle.protocol.specs.Message.{message_layout}
use Rattle.protocol.specs.System.{side_size}
use Rattle.judging.proofs.KindLaws.{no_second}
use Rattle.judging.proofs.message.second_part.Goals as goal

pub returns-in-2 : goal.returns-in-2
unfolding message_layout
returns-in-2 c = rw c.in-2.is c.times.ensures

pub returns-in-4 : goal.returns-in-4
unfolding message_layout side_size
returns-in-4 c = rw c.in-4.is c.side_size.ensures

pub returns-in_default : goal.returns-in_default
returns-in_default c = sym (no_second c.args.kind c.args.t (omega arith) (omega arith))
