-- `host_parts::store::is_sum` meets its contract. Assumes nothing.
use Rattle.algebra.specs.Count.{both}
use Rattle.local.proofs.Recorded.{singular-equal}
use Rattle.host_parts.proofs.store.is_sum.Goals as goal

pub returns-then-sums : goal.returns-then-sums
unfolding both
returns-then-sums c = rw (c.if-sums.true, c.eq.ensures) (singular-equal c.args.r)

pub returns-else-sums : goal.returns-else-sums
unfolding both
returns-else-sums c = rw c.if-sums.false
