use mathlib.Core.Path.{◌≡◌}
use Prim.Native.Nat.{◌-◌, ◌≤◌}
use Rattle.protocol.specs.Tape.{matrix_at}
use Rattle.tape.specs.Ends.{role}
use Rattle.tape.proofs.half.matrix_at.Given as goal

abbrev pub invariant-loop-i : goal.invariant-loop-i
invariant-loop-i l = (l.i ≤ l.j) × (l.at ≡ matrix_at (role l.end) l.t.m l.t.k l.t.p l.i)

abbrev pub decreases-loop-i : goal.decreases-loop-i
decreases-loop-i l = l.j - l.i
