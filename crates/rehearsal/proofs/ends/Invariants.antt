use Prim.Native.Nat.{◌≤◌}
use Rattle.rehearsal.proofs.ends.Given as goal

-- no more lines than bytes
abbrev pub invariant-loop-i : goal.invariant-loop-i
invariant-loop-i l = l.n ≤ l.i
