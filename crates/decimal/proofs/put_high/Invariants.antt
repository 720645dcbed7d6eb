use mathlib.Core.Path.{◌≡◌}
use Prim.Native.Nat.{◌+◌}
use lib.ListN.{length}
use Rattle.decimal.proofs.Powers.{above, upto}
use lib.Seq.{sets}
use Rattle.decimal.proofs.put_high.Given as goal

abbrev pub invariant-loop-power : goal.invariant-loop-power
invariant-loop-power l = record {
  contents : l.out ≡ sets l.initial.out l.at (upto l.n (above l.power-index));
  place : l.p ≡ l.at + length (upto l.n (above l.power-index));
}
