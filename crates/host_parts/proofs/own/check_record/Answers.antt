-- `host_parts::own::check_record` meets its contract. Assumes nothing.
use Rattle.entry.specs.Entry.{record_tests}
use Rattle.host_parts.proofs.own.check_record.Goals as goal

pub returns : goal.returns
unfolding record_tests
returns c = c.need.ensures
