-- `rehearse::check::residues` meets its contract. Assumes nothing.
use mathlib.Core.List.{[], ◌∷◌}
use Rattle.judging.proofs.Join.{also}
use Rattle.rehearse.specs.Order.{residue_tests}
use Rattle.rehearse.proofs.check.residues.Goals as goal

pub returns : goal.returns
unfolding residue_tests
returns c =
    also (_ ∷ []) _ c.worst.ensures (rw c.all_below.ensures at c.need-in_x.ensures)
    (rw c.all_below-2.ensures at c.need-in_y.ensures)
