-- `host_parts::taken::shrunk_of` meets its contract. Assumes nothing.
use mathlib.Core.Path.{refl}
use Rattle.local.specs.Seen.{shrunk}
use Rattle.host_parts.proofs.taken.shrunk_of.Goals as goal

pub returns : goal.returns
unfolding shrunk
returns c = refl
