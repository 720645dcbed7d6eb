-- `steps::check_numbers` meets its contract. Assumes nothing.
use mathlib.Core.List.{◌++◌}
use Rattle.judging.proofs.Join.{also}
use Rattle.tape.specs.Ends.{sort}
use Rattle.judging.specs.Groups.{kind_tests, modulus_tests}
use Rattle.judging.specs.Received.{received_numbers}
use Rattle.judging.proofs.received.check_numbers.Goals as goal

pub returns : goal.returns
unfolding received_numbers kind_tests modulus_tests
returns c =
    let a = c.args in
    also (kind_tests a.a ++ modulus_tests (sort a.end) a.t.q) _ c.worst-2.ensures
    c.check_moduli-moduli.ensures
    (also _ _ c.worst.ensures c.check_head-head.ensures c.check_sizes-sizes.ensures)
