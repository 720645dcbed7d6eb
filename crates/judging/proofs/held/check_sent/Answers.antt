-- `judging::held::check_sent` meets its contract. Assumes nothing.
use mathlib.Core.List.{[], ◌∷◌}
use Rattle.judging.specs.Received.{sent_tests}
use Rattle.judging.proofs.Join.{also}
use Rattle.judging.proofs.held.check_sent.Goals as goal

pub returns : goal.returns
unfolding sent_tests
returns c =
    also _ (_ ∷ []) c.worst.ensures c.check_same-same.ensures (rw c.all_below.ensures at c.need-sent.ensures)
