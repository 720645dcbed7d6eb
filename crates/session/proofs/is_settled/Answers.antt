-- `session::is_settled` meets its contract. Assumes nothing.
use Rattle.local.proofs.Recorded.{singular-equal}
use Rattle.session.proofs.is_settled.Goals as goal

pub returns-in-Err : goal.returns-in-Err
returns-in-Err c = rw (c.in-Err.is, c.eq.ensures) (singular-equal c.in-Err.r)
