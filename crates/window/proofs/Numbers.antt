-- A window's numbers, as the code tests them: how long it is, and then where it begins.
--   length-fails, length-known   of a length that doesn't fit, and of one that does
--   begins-early                 where it begins, without a sum that could overflow
--   window-known, next_known     both, for a window and for the next one
-- Assumes nothing.
use mathlib.Core.Path.{◌≡◌, refl}
use mathlib.Core.Bool.{Bool, true, false}
use Prim.Native.Nat.{ℕ, suc, ◌+◌, ◌-◌, ◌≤◌}
use native.Mathlib.Omega.{arith}
use lib.Dec.{leb, ltb}
use borrow.Author.Tests.{leb-true, leb-false, le-leb, lt-leb}
use Rattle.algebra.specs.Count.{both}
use Rattle.algebra.proofs.Tests.{and_left, and_right}
use Rattle.protocol.specs.Bounds.{within}
use Rattle.protocol.specs.Window.{longest_run, window_fits}

abbrev pub length_fits : (q run w : ℕ) → Bool
length_fits q run w = both (within 1 longest_run run) (both (within 1 run w) (ltb w q))

-- the definition, with where it begins set apart
set_apart : (a b c d : Bool) → both a (both b (both c d)) ≡ both (both a (both b c)) d
unfolding both
set_apart true true c d = refl
set_apart true false c d = refl
set_apart false b c d = refl

by_length : (q run first w : ℕ) → window_fits q run first w ≡ both (length_fits q run w) (leb (first + w) run)
unfolding window_fits
by_length q run first w = set_apart (within 1 longest_run run) (within 1 run w) (ltb w q) (leb (first + w) run)

pub length-fails : (q run first w : ℕ) → length_fits q run w ≡ false → window_fits q run first w ≡ false
unfolding both
length-fails q run first w e = rw (by_length q run first w, e)

pub length-known : (q run w : ℕ) → length_fits q run w ≡ true → w ≤ run
unfolding within
length-known q run w e = leb-true w run (and_right _ _ (and_left _ _ (and_right _ _ e)))

pub begins-early : (run first w : ℕ) → w ≤ run → leb first (run - w) ≡ leb (first + w) run
begins-early run first w h = go (leb (first + w) run) refl
  where
    go : (b : Bool) → leb (first + w) run ≡ b → leb first (run - w) ≡ b
    go true e = let k = leb-true (first + w) run e in le-leb first (run - w) (omega arith)
    go false e = let k = leb-false (first + w) run e in lt-leb first (run - w) (omega arith)

pub window-known : (q run first w : ℕ) → length_fits q run w ≡ true → leb first (run - w) ≡ window_fits q run first w
unfolding both
window-known q run first w e = rw (by_length q run first w, e) (begins-early run first w (length-known q run w e))

pub next_known : (q run first w : ℕ) → length_fits q run w ≡ true → ltb first (run - w) ≡ window_fits q run (suc first) w
next_known q run first w e = window-known q run (suc first) w e
