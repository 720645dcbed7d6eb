use mathlib.Core.Path.{◌≡◌}
use Prim.Native.Nat.{ℕ, ◌<◌}
use lib.ListN.{get_or, drop}
use Rattle.vectors.proofs.each.set_each.Given as goal

abbrev pub invariant-loop-i : goal.invariant-loop-i
invariant-loop-i g l =
    (drop l.i l.out ≡ drop l.i l.initial.out)
    × ((i : ℕ) (none : _) → i < l.i → goal.F-post g l.f i (get_or l.initial.out i none) (get_or l.out i none))
