-- `host_deal::part::is_fit` meets its contract. Assumes nothing.
use mathlib.Core.Path.{refl, ◌∙◌}
use mathlib.Core.List.{◌++◌}
use Prim.Native.Nat.{◌/◌}
use native.Mathlib.Omega.{arith}
use Rattle.algebra.specs.Count.{both}
use Rattle.protocol.specs.Deal.{first_role, second_role}
use Rattle.judging.proofs.Join.{also}
use Rattle.dealer.specs.Sorts.{sort}
use Rattle.dealer.specs.Groups.{size_tests}
use Rattle.host_deal.specs.Part.{own_tests, part_tests, is_fit}
use Rattle.host_deal.proofs.Leaving.{fit-told}
use Rattle.host_deal.proofs.part.is_fit.Goals as goal

-- all three checks
pub returns-then-t-ne0 : goal.returns-then-t-ne0
unfolding part_tests size_tests
returns-then-t-ne0 c =
    let a = c.args in
    let one = rw c.first_end.ensures at c.check_sizes-one.ensures in
    let two = rw c.second_end.ensures at c.check_sizes-two.ensures in
    let first = size_tests (first_role (sort a.s)) a.t (a.first / 4) a.at.size a.at.index in
    let second = size_tests (second_role (sort a.s)) a.t (a.second / 4) a.at.size a.at.index in
    c.is_ok.ensures.value
    ∙ fit-told (sort a.s) a.t a.first a.second a.words a.at.size a.at.index _ (omega arith)
    (also (own_tests a.first a.second a.words) (first ++ second) c.worst-then-t-ne0.ensures c.check_whole-whole.ensures
    (also first second c.worst.ensures one two))

pub returns-else-t-ne0 : goal.returns-else-t-ne0
unfolding is_fit both
returns-else-t-ne0 c = rw c.if-t-ne0.false refl
