use mathlib.Core.Path.{◌≡◌}
use Prim.Native.Nat.{◌-◌, ◌≤◌}
use lib.ListN.{length, drop}
use Rattle.protocol.specs.Rehearsal.{line_at}
use Rattle.rehearse_lines.proofs.input.line_start.Given as goal

-- the lines that are left to skip
abbrev pub invariant-loop : goal.invariant-loop
invariant-loop l = record {
  inside : l.at ≤ length l.s;
  begins : line_at (l.n - l.counter) (drop l.at l.s) ≡ line_at l.n l.s;
}
