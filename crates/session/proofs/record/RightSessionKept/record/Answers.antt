-- `session::record::RightSessionKept::record` meets its contract. Assumes nothing.
use Rattle.entry.specs.Record.{of_right}
use Rattle.blinder.proofs.Kept.{zero-array}
use Rattle.session.proofs.record.RightSessionKept.record.Goals as goal

pub returns : goal.returns
unfolding of_right
returns c = rw (zero-array 272)
