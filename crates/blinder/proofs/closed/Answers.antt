-- `blinder::closed` meets its contract. Assumes nothing.
use Rattle.blinder.proofs.Kept.{zero-array}
use Rattle.blinder.proofs.closed.Goals as goal

pub returns : goal.returns
returns c = rw (zero-array 256, zero-array 16)
