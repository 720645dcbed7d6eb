-- `host_parts::own::check_first` meets its contract. Assumes nothing.
use mathlib.Core.List.{[], ◌∷◌}
use Rattle.judging.proofs.Join.{also}
use Rattle.host_parts.proofs.own.check_first.Goals as goal

pub returns : goal.returns
returns c =
    also _ _ c.worst-2.ensures c.check_whole-one.ensures
    (also _ (_ ∷ []) c.worst.ensures c.check_whole-two.ensures c.need-free.ensures)
