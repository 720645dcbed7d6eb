use mathlib.Core.Path.{◌≡◌}
use Prim.Native.Nat.{◌+◌}
use lib.ListN.{length, drop}
use Rattle.protocol.specs.Rehearsal.{first_line}
use Rattle.rehearse_lines.proofs.input.line_end.Given as goal

-- the line ends where what is left of it does
abbrev pub invariant-loop-i : goal.invariant-loop-i
invariant-loop-i l = l.i + length (first_line (drop l.i l.s)) ≡ l.at + length (first_line (drop l.at l.s))
