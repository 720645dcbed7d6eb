-- `dealer::check::check_numbers` meets its contract. Assumes nothing.
use Rattle.judging.proofs.Join.{also}
use Rattle.dealer.specs.Groups.{size_tests, deal_numbers}
use Rattle.dealer.proofs.check.check_numbers.Goals as goal

pub returns : goal.returns
unfolding deal_numbers size_tests
returns c =
    let first-end = c.first_end-a in
    let worst = c.worst in
    let check-sizes = c.check_sizes-one in
    let second-end = c.second_end-b in
    let check-sizes2 = c.check_sizes-two in
    also _ _ c.worst-2.ensures (rw first-end.ensures at c.check_modulus-modulus.ensures)
    (also _ _ worst.ensures (rw first-end.ensures at check-sizes.ensures) (rw second-end.ensures at check-sizes2.ensures))
