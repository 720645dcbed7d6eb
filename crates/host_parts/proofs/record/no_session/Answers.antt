-- `host_parts::record::no_session` meets its contract. Assumes nothing.
use Rattle.blinder.proofs.Kept.{zero-array}
use Rattle.host_parts.proofs.record.no_session.Goals as goal

pub returns : goal.returns
returns c = rw (c.no_head-none.ensures, zero-array 272)
