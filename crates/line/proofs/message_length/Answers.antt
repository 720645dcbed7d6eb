-- `line::message_length` meets its contract: the head, then the residues. Assumes nothing.
use mathlib.Core.Path.{ap}
use native.Mathlib.Omega.{arith}
use lib.ListN.{length}
use Rattle.line.proofs.Bytes.{message-lines}
use Rattle.line.proofs.message_length.Goals as goal

pub overflow_add-result : goal.overflow_add-result
overflow_add-result c =
    omega (arith, c.line_length.ensures.few, c.line_length-2.ensures.few, ap length c.head_words-words.ensures)

pub returns : goal.returns
returns c =
    let a = c.args in
    omega (arith, c.line_length.ensures.bytes, c.line_length-2.ensures.bytes, message-lines a.h a.residues.now c.head_words-words.ensures)
