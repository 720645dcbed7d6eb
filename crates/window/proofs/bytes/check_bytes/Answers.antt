-- `window::bytes::check_bytes` meets its contract: all three tests. Assumes nothing.
use mathlib.Core.List.{[], ◌∷◌}
use Rattle.entry.specs.Entry.{whole_tests}
use Rattle.judging.proofs.Join.{also}
use Rattle.window.proofs.bytes.check_bytes.Goals as goal

pub returns : goal.returns
unfolding whole_tests
returns c = also (_ ∷ []) (_ ∷ _ ∷ []) c.worst.ensures c.need-whole.ensures c.check_window-numbers.ensures
