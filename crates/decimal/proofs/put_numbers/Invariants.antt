use mathlib.Core.Path.{◌≡◌}
use Prim.Native.Nat.{◌+◌}
use lib.ListN.{length, drop}
use lib.Seq.{sets}
use Rattle.decimal.specs.Writing.{line_before}
use Rattle.decimal.proofs.put_numbers.Given as goal

-- what stands on the line so far, and what is left, make the whole
abbrev pub invariant-loop-j : goal.invariant-loop-j
invariant-loop-j l = record {
  contents : sets l.out l.p (line_before l.more (drop l.j l.xs)) ≡ sets l.initial.out l.at (line_before l.more l.xs);
  place : l.p + length (line_before l.more (drop l.j l.xs)) ≡ l.at + length (line_before l.more l.xs);
}
