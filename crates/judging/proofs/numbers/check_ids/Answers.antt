-- `session::numbers::check_ids` meets its contract. Assumes nothing.
use Rattle.judging.specs.Groups.{id_tests}
use Rattle.judging.proofs.Join.{judged-cons}
use Rattle.judging.proofs.numbers.check_ids.Goals as goal

pub returns : goal.returns
unfolding id_tests
returns c =
    simp (
      c.worst-2.ensures,
      c.worst.ensures,
      c.need-first.ensures,
      c.need-sides.ensures,
      c.need-second.ensures,
      judged-cons,
    )
