-- `host_first::call::takes_message` meets its contract. Assumes nothing.
use mathlib.Core.Path.{refl}
use borrow.Author.Tests.{eq-eqb, ne_eqb}
use Rattle.entry.specs.Entry.{takes_message}
use Rattle.host_first.proofs.call.takes_message.Goals as goal

pub returns-then-end-eq-LEFT : goal.returns-then-end-eq-LEFT
unfolding takes_message
returns-then-end-eq-LEFT c = rw (eq-eqb c.args.end 1 c.if-end-eq-LEFT.true) refl

pub returns-else-end-eq-LEFT : goal.returns-else-end-eq-LEFT
unfolding takes_message
returns-else-end-eq-LEFT c = rw (ne_eqb c.args.end 1 c.if-end-eq-LEFT.false) refl
