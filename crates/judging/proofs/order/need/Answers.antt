-- `need` meets its contract. Assumes nothing.
use Rattle.judging.proofs.Join.{judged-true, judged-false}
use Rattle.judging.proofs.order.need.Goals as goal

pub returns-then-holds : goal.returns-then-holds
returns-then-holds c = judged-true c.args.r c.if-holds.true

pub returns-else-holds : goal.returns-else-holds
returns-else-holds c = judged-false c.args.r c.if-holds.false
