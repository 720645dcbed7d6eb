-- `session::numbers::joint_field` meets its contract: a prime is asked for by either. Assumes nothing.
use Rattle.field.proofs.FieldLaws.{system-made}
use Rattle.judging.proofs.KindLaws.{product-kind, system-kind}
use Rattle.judging.proofs.numbers.joint_field.Goals as goal

pub returns-then-kind-le2 : goal.returns-then-kind-le2
returns-then-kind-le2 c = rw (product-kind c.args.kind c.if-kind-le2.true) c.end_field.ensures

pub returns : goal.returns
returns c =
    rw (system-kind c.args.kind c.if-kind-le2.false) (system-made c.of_system.result _ c.of_system.ensures)
