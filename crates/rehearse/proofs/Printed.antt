-- What is printed has room where it was printed, for programs that write it out. Assumes nothing.
use mathlib.Core.Path.{◌≡◌, ap}
use mathlib.Core.List.{List}
use Prim.Native.Nat.{ℕ, ◌≤◌}
use native.Mathlib.Omega.{arith}
use lib.ListN.{length, drop, length-append}
use Rattle.algebra.specs.Words.{over}

pub printed-fits : (bytes before : List ℕ) (n : ℕ) (after : List ℕ) → after ≡ over bytes before → n ≡ length bytes → n ≤ length after
unfolding over
printed-fits bytes before n after e f = omega (arith, f, ap length e, length-append bytes (drop (length bytes) before))
