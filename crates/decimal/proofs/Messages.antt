-- A message's line in two runs: its head's numbers, and its residues.
--   message-bytes  how many bytes;  message-stored  what two runs of stores leave
-- Assumes nothing.
use mathlib.Core.Path.{◌≡◌, sym, ap, ◌∙◌}
use mathlib.Core.List.{List, ◌++◌}
use Prim.Native.Nat.{ℕ, ◌+◌}
use lib.ListN.{length, length-append}
use lib.Seq.{sets}
use Rattle.protocol.specs.declared.Head.{Head}
use Rattle.protocol.specs.Message.{message_with}
use Rattle.protocol.specs.Line.{message_line}
use Rattle.decimal.specs.Writing.{line_before, head_numbers}
use Rattle.decimal.proofs.Stores.{line-append, before-all, sets_then}

module _ (h : Head) (rs : List ℕ) where
  message-runs : message_line (message_with h rs) ≡ line_before (length rs) (head_numbers h) ++ line_before 0 rs
  unfolding message_line
  message-runs = line-append (head_numbers h) rs ∙ ap (λ (l : List ℕ). line_before (length rs) (head_numbers h) ++ l) (sym (before-all rs))

  pub message-bytes : length (message_line (message_with h rs)) ≡ length (line_before (length rs) (head_numbers h)) + length (line_before 0 rs)
  message-bytes = ap length message-runs ∙ length-append (line_before (length rs) (head_numbers h)) (line_before 0 rs)

  pub message-stored : (out : List ℕ) (at b : ℕ) → b ≡ at + length (line_before (length rs) (head_numbers h))
      → sets (sets out at (line_before (length rs) (head_numbers h))) b (line_before 0 rs) ≡ sets out at (message_line (message_with h rs))
  message-stored out at b e = sets_then out at (line_before (length rs) (head_numbers h)) (line_before 0 rs) b e ∙ ap (sets out at) (sym message-runs)
