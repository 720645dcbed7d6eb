-- `message::last_fits` meets its contract: only kinds 5 and 6 are tested. Assumes nothing.
use borrow.Author.Tests.{lt-ltb, le-ltb}
use Rattle.protocol.specs.Message.{last_fits}
use Rattle.judging.proofs.message.last_fits.Goals as goal

pub returns-then-kind-le4 : goal.returns-then-kind-le4
unfolding last_fits
returns-then-kind-le4 c = rw (le-ltb 4 _ c.if-kind-le4.true)

pub returns : goal.returns
unfolding last_fits
returns c = rw (lt-ltb 4 _ c.if-kind-le4.false, c.last_kind.ensures)
