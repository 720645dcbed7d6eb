-- `host_deal::part::check_whole` meets its contract. Assumes nothing.
use mathlib.Core.List.{◌++◌}
use Rattle.judging.proofs.Join.{also}
use Rattle.entry.specs.Entry.{whole_tests}
use Rattle.host_deal.proofs.part.check_whole.Goals as goal

pub returns : goal.returns
unfolding whole_tests
returns c =
    let need = c in
    let a = need.args in
    also (whole_tests a.first) (whole_tests a.second ++ whole_tests a.words) c.worst-2.ensures need.need-one.ensures
    (also (whole_tests a.second) (whole_tests a.words) c.worst.ensures need.need-two.ensures need.need-raw.ensures)
