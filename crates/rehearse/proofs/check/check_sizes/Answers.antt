-- `rehearse::check::check_sizes` meets its contract. Assumes nothing.
use Rattle.judging.proofs.Join.{also}
use mathlib.Core.List.{[], ◌∷◌}
use Rattle.rehearse.specs.Order.{size_tests}
use Rattle.rehearse.proofs.check.check_sizes.Goals as goal

pub returns : goal.returns
unfolding size_tests
returns c =
    let inner = c in
    let sides = rw inner.sides_fit.ensures at inner.need-sides.ensures in
    let x = rw inner.times.ensures at inner.need-full_x.ensures in
    let y = rw inner.times-2.ensures at inner.need-full_y.ensures in
    let both = also (_ ∷ []) _ c.worst.ensures x y in
    let rest = also (_ ∷ []) _ c.worst-2.ensures inner.need-second.ensures both in
    also (_ ∷ []) _ c.worst-4.ensures inner.need-first.ensures (also (_ ∷ []) _ c.worst-3.ensures sides rest)
