-- What a list of calls computes with: `unfolding list-rules` opens the sessions' rules, the drops, and how a list is run. Assumes nothing.
use native.Mathlib.Decide.{ℕ_discrete}
use Rattle.protocol.specs.Drop.{drop_right, drop_solver, drop_blinder}
use Rattle.protocol.specs.Completion.{said}
use Rattle.history.specs.Ends.{run_first, run_later}
use Rattle.history.specs.Log.{half_role, here}
use Rattle.history.specs.Contents.{half}
use Rattle.protocol.proofs.Computing.{session-rules}

unfoldable pub list-rules : Unit {0}
unfolding session-rules drop_right drop_solver drop_blinder said run_first run_later here half_role half ℕ_discrete
list-rules = tt
