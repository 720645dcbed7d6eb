-- `product::left::check_own` meets its contract. Assumes nothing.
use mathlib.Core.List.{[], ◌∷◌}
use Rattle.protocol.specs.Bounds.{room_tests}
use Rattle.judging.proofs.Join.{also}
use Rattle.product.proofs.left.check_own.Goals as goal

pub returns : goal.returns
unfolding room_tests
returns c =
    also _ (_ ∷ _ ∷ []) c.worst-2.ensures (rw c.times.ensures at c.check_input-input.ensures)
    (also (_ ∷ []) (_ ∷ []) c.worst.ensures (rw c.has_room.ensures at c.need-sent.ensures) (rw c.times-2.ensures at c.need-result.ensures))
