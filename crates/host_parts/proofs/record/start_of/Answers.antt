-- `host_parts::record::start_of` meets its contract. Assumes nothing.
use mathlib.Core.Path.{refl}
use Rattle.local.specs.Stored.{start_words}
use Rattle.host_parts.proofs.record.start_of.Goals as goal

pub returns : goal.returns
unfolding start_words
returns c = refl
