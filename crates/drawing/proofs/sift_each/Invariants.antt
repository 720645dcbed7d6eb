use mathlib.Core.Path.{◌≡◌}
use mathlib.Core.List.{List}
use Prim.Native.Nat.{ℕ, ◌<◌}
use lib.ListN.{length, get_or}
use Rattle.drawing.proofs.Sifting.{Sifts}
use Rattle.drawing.proofs.sift_each.Given as goal

abbrev pub invariant-loop-i : goal.invariant-loop-i
invariant-loop-i g l =
    (ws : List ℕ) → length ws ≡ l.many → ((i w : ℕ) → i < l.many → goal.F-post g l.word i w → w ≡ get_or ws i 0) → Sifts l.q l.n ws l.initial.out l.i l.j l.out
