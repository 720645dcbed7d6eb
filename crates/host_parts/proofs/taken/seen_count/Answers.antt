-- `host_parts::taken::seen_count` meets its contract. Assumes nothing.
use Rattle.host_parts.proofs.TakenLaws.{seen_none, seen_all}
use Rattle.host_parts.proofs.taken.seen_count.Goals as goal

pub returns-then-count-gt3072 : goal.returns-then-count-gt3072
returns-then-count-gt3072 c = seen_none _ c.if-count-gt3072.true

pub returns : goal.returns
returns c = seen_all _ c.if-count-gt3072.false
