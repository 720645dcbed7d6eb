-- A line whose form was read: its numbers stand in words, as far as there is room. Assumes nothing.
use Rattle.std.specs.Prelude.{◌≡◌, true, List, ℕ, ◌+◌, ◌≤◌, length, take, drop, Option, Some, None}
use Rattle.protocol.specs.declared.Head.{Head}
use Rattle.protocol.specs.declared.Refusal.TheVariants.{Form}
use Rattle.protocol.specs.Judge.{refused, done}
use Rattle.protocol.specs.Message.{message_with, kind_known}
use Rattle.protocol.specs.Line.{parse_message}
use Rattle.line.specs.declared.Arrived.{Arrived}

pub record MessageIn (line words : List ℕ) (h : Head) (n : ℕ) : Type 0 where
  pub residues : List ℕ
  pub reads : parse_message line ≡ done (message_with h residues)
  pub known : kind_known h.kind ≡ true
  pub count : length residues ≡ n
  pub stands : (j : ℕ) → j ≤ n → j + 7 ≤ length words → take j (drop 7 words) ≡ take j residues

abbrev pub TakenFrom : (line words : List ℕ) → Option Arrived → Type 0
TakenFrom line words (Some a) = MessageIn line words a.head a.count
TakenFrom line words None = parse_message line ≡ refused Form
