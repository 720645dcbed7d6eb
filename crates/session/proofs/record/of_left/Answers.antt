-- `session::record::of_left` meets its contract. Assumes nothing.
use Rattle.entry.specs.Record.{of_left}
use Rattle.blinder.proofs.Kept.{zero-array}
use Rattle.session.proofs.record.of_left.Goals as goal

pub returns : goal.returns
unfolding of_left
returns c = rw (zero-array 272)
