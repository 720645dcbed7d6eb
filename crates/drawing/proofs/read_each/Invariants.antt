use Prim.Native.Nat.{◌<◌}
use Rattle.drawing.proofs.Turns.{Passed}
use Rattle.drawing.proofs.read_each.Given as goal

-- some are still needed
abbrev pub invariant-loop-i : goal.invariant-loop-i
invariant-loop-i l = Passed l.q l.n l.words l.i l.due × (0 < l.due)
