-- `host_parts::own::check_whole` meets its contract. Assumes nothing.
use Rattle.entry.specs.Entry.{whole_tests}
use Rattle.host_parts.proofs.own.check_whole.Goals as goal

pub returns : goal.returns
unfolding whole_tests
returns c = c.need.ensures
