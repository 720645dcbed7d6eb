-- `tape::header::is_free` meets its contract. Assumes nothing.
use Rattle.protocol.specs.Deal.{is_free}
use Rattle.tape.proofs.header.is_free.Goals as goal

pub returns-then-status_is : goal.returns-then-status_is
unfolding is_free
returns-then-status_is c = rw (← c.status_is.ensures, c.if-status_is.true)

pub returns-else-status_is : goal.returns-else-status_is
unfolding is_free
returns-else-status_is c = rw (← c.status_is.ensures, c.if-status_is.false, c.status_is-else-status_is.ensures)
