-- `window::bytes::check_run` meets its contract: both tests. Assumes nothing.
use mathlib.Core.List.{[], ◌∷◌}
use Rattle.entry.specs.Entry.{whole_tests}
use Rattle.judging.proofs.Join.{also}
use Rattle.window.specs.Entries.{flags_tests_on}
use Rattle.window.proofs.bytes.check_run.Goals as goal

pub returns : goal.returns
unfolding flags_tests_on whole_tests
returns c =
    also (_ ∷ []) (_ ∷ []) c.worst.ensures c.need-whole.ensures
    (rw c.run_fits.ensures at c.need-run.ensures)
