-- Lists of words. Assumes nothing.
--   same_count   the length of a field that is an array
--   over-whole   words over as many
--   least-taken  the first words of a list, where there are fewer
use mathlib.Core.Path.{◌≡◌, sym, ap, ◌∙◌}
use mathlib.Core.List.{List, append-nil, map}
use Prim.Native.Nat.{ℕ, ◌≤◌}
use native.Mathlib.Omega.{arith}
use native.Mathlib.Decide.{dec_le}
use lib.ListN.{length, take, length-map, drop_of_length-le}
use lib.Seq.{take_all}
use Rattle.algebra.specs.Words.{over}
use Rattle.local.specs.Seen.{least}
use Rattle.local.proofs.Slots.{least-left, least-right}

pub same_count : (l : List ℕ) {n : ℕ} → length (map (λ (x : ℕ). x) l) ≡ n → length l ≡ n
same_count l e = sym (length-map l (λ (x : ℕ). x)) ∙ e

pub over-whole : (ws d : List ℕ) → length d ≤ length ws → over ws d ≡ ws
unfolding over
over-whole ws d h = rw (drop_of_length-le d h) (append-nil ws)

pub least-taken : (k : ℕ) (l : List ℕ) → take (least (length l) k) l ≡ take k l
least-taken k l =
    elim (dec_le (length l) k) [
      | yes h ↦ ap (λ (i : ℕ). take i l) (least-left (length l) k h) ∙ (take_all (length l) l (omega arith) ∙ sym (take_all k l h))
      | no h ↦ ap (λ (i : ℕ). take i l) (least-right (length l) k (omega arith))
    ]
