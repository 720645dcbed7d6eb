-- A message's line: how many bytes it has, and two runs of stores from the start of a slice.
--   two_runs, message-lines, line-stored
-- Assumes nothing.
use mathlib.Core.Path.{◌≡◌, sym, ap, ap₂, ◌∙◌}
use mathlib.Core.List.{List}
use Prim.Native.Nat.{ℕ, ◌+◌, ◌≤◌}
use lib.ListN.{length}
use lib.Seq.{sets}
use Rattle.algebra.specs.Words.{over}
use Rattle.protocol.specs.declared.Head.{Head}
use Rattle.protocol.specs.Message.{message_with}
use Rattle.protocol.specs.Line.{line, message_line}
use Rattle.decimal.specs.Writing.{line_before, head_numbers}
use Rattle.decimal.proofs.Stores.{before-length}
use Rattle.decimal.proofs.Entry.{sets_over}
use Rattle.decimal.proofs.Messages.{message-bytes, message-stored}

-- ws: the numbers of the head
module _ (h : Head) (rs : List ℕ) {ws : List ℕ} (e : ws ≡ head_numbers h) where
  pub two_runs : length (message_line (message_with h rs)) ≡ length (line_before (length rs) ws) + length (line_before 0 rs)
  two_runs = message-bytes h rs ∙ ap (λ (l : List ℕ). length (line_before (length rs) l) + length (line_before 0 rs)) (sym e)

  pub message-lines : length (message_line (message_with h rs)) ≡ length (line ws) + length (line rs)
  message-lines = two_runs ∙ ap₂ (λ (a b : ℕ). a + b) (before-length (length rs) ws) (before-length 0 rs)

  pub line-stored : (out : List ℕ) {first : List ℕ} {at : ℕ} → at ≡ 0 + length (line_before (length rs) ws) → first ≡ sets out 0 (line_before (length rs) ws)
      → length (message_line (message_with h rs)) ≤ length out → sets first at (line_before 0 rs) ≡ over (message_line (message_with h rs)) out
  line-stored out {first} {at} p f k =
      ap (λ (l : List ℕ). sets l at (line_before 0 rs)) (f ∙ ap (λ (l : List ℕ). sets out 0 (line_before (length rs) l)) e)
      ∙ (message-stored h rs out 0 at (p ∙ ap (λ (l : List ℕ). 0 + length (line_before (length rs) l)) e)
      ∙ sets_over (message_line (message_with h rs)) out k)
