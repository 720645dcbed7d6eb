-- `decimal::end_byte` meets its contract: byte 10 or a comma. Assumes nothing.
use Rattle.protocol.proofs.LineRoundTrip.{end_byte-more}
use Rattle.decimal.proofs.end_byte.Goals as goal

pub returns-else-left-eq0 : goal.returns-else-left-eq0
returns-else-left-eq0 c = end_byte-more _ c.if-left-eq0.false
