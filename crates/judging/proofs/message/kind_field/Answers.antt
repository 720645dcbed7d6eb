-- `message::kind_field` meets its contract: only a system asks for a prime. Assumes nothing.
use Rattle.field.proofs.FieldLaws.{new-made, system-made}
use Rattle.judging.proofs.KindLaws.{product-kind, system-kind}
use Rattle.judging.proofs.message.kind_field.Goals as goal

pub returns-then-kind-le2 : goal.returns-then-kind-le2
returns-then-kind-le2 c = rw (product-kind c.args.kind c.if-kind-le2.true) (new-made c.new.result _ c.new.ensures)

pub returns : goal.returns
returns c = rw (system-kind c.args.kind c.if-kind-le2.false) (system-made c.of_system.result _ c.of_system.ensures)
