-- What stands at the start of an array that was written over.
--   start_is, start-length
-- Assumes nothing.
use mathlib.Core.Path.{◌≡◌, sym, ap, ◌∙◌}
use mathlib.Core.List.{List}
use Prim.Native.Nat.{ℕ}
use lib.ListN.{length, take, drop}
use lib.Seq.{take_at}
use Rattle.algebra.specs.Words.{over}

pub start_is : (n : ℕ) (a d out : List ℕ) → length a ≡ n → out ≡ over a d → take n out ≡ a
unfolding over
start_is n a d out h e = ap (take n) e ∙ take_at a (drop (length a) d) n h

pub start-length : (n : ℕ) (a d out : List ℕ) → length a ≡ n → out ≡ over a d → n ≡ length (take n out)
start-length n a d out h e = sym (ap length (start_is n a d out h e) ∙ h)
