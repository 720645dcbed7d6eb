-- `rehearse_lines::print::put_messages` meets its contract. Assumes nothing.
use native.Mathlib.Omega.{arith}
use Rattle.protocol.specs.Line.{message_line}
use Rattle.protocol.specs.Message.{message_with}
use Rattle.rehearse_lines.proofs.Stores.{two_bytes, two-stored}
use Rattle.rehearse_lines.proofs.print.put_messages.Goals as goal

pub returns : goal.returns
returns c =
    let last = c.put_message in
    let first = c.put_message-behind in
    let a = c.args in
    let one = message_line (message_with a.one a.y1.now) in
    let two = message_line (message_with a.two a.x1r1.now) in
    let stored = two-stored a.out.now one two 0 first.result last.result first.ensures.place last.ensures.place _ _ first.ensures.contents last.ensures.contents in record {
      place = omega (arith, two_bytes a.out.now one two 0 first.result last.result first.ensures.place last.ensures.place);
      few = omega (arith, first.ensures.few, last.ensures.few);
      contents = stored;
    }
