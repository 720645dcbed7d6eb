-- `host_parts::seen::end_of` meets its contract. Assumes nothing.
use Rattle.host_parts.proofs.Looked.{role_numbered}
use Rattle.host_parts.proofs.seen.end_of.Goals as goal

pub returns : goal.returns
returns c = rw c.unwrap_or.ensures (role_numbered c.args.end _ c.try_from.ensures)
