-- `judging::message::side_size` meets its contract: m times what is left of p. Assumes nothing.
use mathlib.Core.Path.{refl}
use Rattle.protocol.specs.System.{side_size}
use Rattle.protocol.specs.Bounds.{columns}
use Rattle.judging.proofs.message.side_size.Goals as goal

pub returns : goal.returns
unfolding side_size columns
returns c = rw (c.times.ensures, c.saturating_sub.ensures) refl
