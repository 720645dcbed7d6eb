-- `solver::session_of` meets its contract. Assumes nothing.
use mathlib.Core.Path.{refl}
use Rattle.algebra.specs.Matrix.{zeros, tabulate}
use Rattle.solver.proofs.session_of.Goals as goal

pub returns : goal.returns
unfolding zeros tabulate
returns c = refl
