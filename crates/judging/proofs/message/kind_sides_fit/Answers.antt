-- `message::kind_sides_fit` meets its contract: by the sort of the kind. Assumes nothing.
use Rattle.judging.proofs.KindLaws.{product-kind, system-kind}
use Rattle.judging.proofs.message.kind_sides_fit.Goals as goal

pub returns-then-kind-le2 : goal.returns-then-kind-le2
returns-then-kind-le2 c = rw (product-kind c.args.kind c.if-kind-le2.true) c.sides_fit.ensures

pub returns : goal.returns
returns c = rw (system-kind c.args.kind c.if-kind-le2.false) c.system_sides_fit.ensures
