use Prim.Native.Nat.{◌-◌}
use lib.ListN.{length}
use Rattle.decimal.proofs.Scans.{Scanning}
use Rattle.decimal.specs.Reading.{Ended}
use Rattle.decimal.proofs.scan.Given as goal

abbrev pub invariant-loop-i : goal.invariant-loop-i
invariant-loop-i l = record { so_far : Scanning l.skip l.s l.initial.out l.out l.n l.i; ended : Ended l.s }

abbrev pub decreases-loop-i : goal.decreases-loop-i
decreases-loop-i l = length l.s - l.i
