-- `judging::message::has_room` meets its contract. Assumes nothing.
use mathlib.Core.Path.{sym}
use native.Mathlib.Omega.{arith}
use borrow.Author.Tests.{lt-leb}
use Rattle.protocol.specs.Message.{message_size}
use Rattle.judging.proofs.KindLaws.{two-parts, room-left}
use Rattle.judging.proofs.message.has_room.Goals as goal

pub returns-then-room-first : goal.returns-then-room-first
returns-then-room-first c =
    let a = c.args in
    sym (lt-leb (message_size a.kind a.t) a.room (omega (arith, two-parts a.kind a.t, c.first_part-first.ensures)))

pub returns : goal.returns
returns c =
    let a = c.args in
    let first = c.first_part-first in
    rw (← two-parts a.kind a.t, ← first.ensures, ← c.second_part.ensures) (room-left first.result c.second_part.result a.room (omega arith))
