-- `host_later::calls::drop` meets its contract. Assumes nothing.
use native.Mathlib.Omega.{arith}
use Rattle.host_later.proofs.Dropped.{nothing_lent}
use Rattle.host_later.proofs.calls.drop.Goals as goal

pub returns : goal.returns
returns c = nothing_lent (omega arith) (omega arith) c.drop_with.ensures
