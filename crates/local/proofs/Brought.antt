-- A step on words that are brought from bytes.
--   run_on   what it leaves is what it leaves on the words of the bytes
-- Assumes nothing.
use mathlib.Core.Path.{◌≡◌, ◌∙◌}
use mathlib.Core.List.{List}
use Prim.Native.Nat.{ℕ, ◌*◌, ◌≤◌}
use native.Mathlib.Omega.{arith}
use lib.ListN.{length, take}
use lib.Seq.{length-take-le}
use Rattle.algebra.specs.Words.{over}
use Rattle.protocol.specs.Tape.{Slot, slot_at}
use Rattle.protocol.specs.Step.{Outcome}
use Rattle.judging.specs.Leaves.{Leaves, leaves}
use Rattle.entry.specs.declared.Session.{Session}
use Rattle.entry.specs.Bytes.{words_of}
use Rattle.entry.proofs.Bytes.{words-length}
use Rattle.local.proofs.Lists.{over-whole}

brought-length : (b : List ℕ) (n : ℕ) → n * 4 ≤ length b → length (take n (words_of b)) ≡ n
brought-length b n h = length-take-le n (words_of b) (omega (arith, words-length b))

brought : (b d : List ℕ) {p : List ℕ} → length d * 4 ≤ length b → p ≡ over (take (length d) (words_of b)) d → p ≡ take (length d) (words_of b)
brought b d h e = e ∙ over-whole (take (length d) (words_of b)) d (omega (arith, brought-length b (length d) h))

-- `step`: on a slot, words of scratch, and room for a result
pub run_on : (step : Slot → List ℕ → ℕ → Outcome Session) (x : Session) (out slot scratch result words lent share : List ℕ) {p l r : List ℕ} {k : Leaves Session}
    → length words * 4 ≤ length slot → length lent * 4 ≤ length scratch → length share * 4 ≤ length result
    → p ≡ over (take (length words) (words_of slot)) words → l ≡ over (take (length lent) (words_of scratch)) lent
    → r ≡ over (take (length share) (words_of result)) share
    → k ≡ leaves x (slot_at p (length words) 0) l out r (step (slot_at p (length words) 0) l (length r))
    → k ≡ leaves x (slot_at (take (length words) (words_of slot)) (length words) 0) (take (length lent) (words_of scratch)) out
    (take (length share) (words_of result))
    (step (slot_at (take (length words) (words_of slot)) (length words) 0) (take (length lent) (words_of scratch)) (length share))
run_on step x out slot scratch result words lent share h i j e f g done =
    rw (
      brought slot words h e,
      brought scratch lent i f,
      brought result share j g,
      brought-length result (length share) j,
    ) at done
