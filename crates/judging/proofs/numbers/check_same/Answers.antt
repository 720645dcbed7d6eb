-- `judging::numbers::check_same` meets its contract. Assumes nothing.
use mathlib.Core.Path.{sym, ◌∙◌}
use Rattle.algebra.specs.Count.{both}
use Rattle.judging.specs.Groups.{same_terms}
use Rattle.judging.proofs.Header.{same-as-one}
use Rattle.judging.proofs.numbers.check_same.Goals as goal

pub returns : goal.returns
unfolding same_terms both
returns c =
    let a = c.args in
    (rw (c.eq.ensures) at c.need.ensures) ∙ sym (same-as-one a.a a.t)
