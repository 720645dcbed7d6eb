-- `steps::check_closed` meets its contract. Assumes nothing.
use mathlib.Core.List.{[], ◌∷◌}
use Rattle.judging.proofs.Join.{also}
use Rattle.judging.specs.Received.{closed_tests}
use Rattle.judging.proofs.received.check_closed.Goals as goal

pub returns : goal.returns
unfolding closed_tests
returns c =
    also _ _ c.worst-3.ensures c.check_kind-kind.ensures
    (also _ _ c.worst-2.ensures c.check_head-head.ensures
    (also (_ ∷ []) _ c.worst.ensures
    (rw c.is_slot.ensures at c.need-slot.ensures) c.need-turn.ensures))
