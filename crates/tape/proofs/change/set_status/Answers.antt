-- `tape::change::set_status` meets its contract. Assumes nothing.
use native.Mathlib.Omega.{arith}
use Rattle.tape.proofs.Slots.{status-set}
use Rattle.tape.proofs.change.set_status.Goals as goal

pub returns : goal.returns
returns c = status-set c.args.status c.args.slot.now (omega (arith, c.requires))
