-- A line that was loaded, as the checks and the store are told of it.
--   Holds      the line's numbers, by a message's head, its count of residues and the words
--   NoMessage  a line that is no message's
--   Loads      what `load` says of a line
--   rest_tests  what is tested of a message where head and count passed
-- Assumes nothing.
use Rattle.std.specs.Prelude.{◌≡◌, List, [], ◌∷◌, ℕ, ◌+◌, ◌≤◌, ◌<◌, leb, length, take, drop, Option, Some, None}
use Rattle.std.proofs.Math.Option.{some}
use Rattle.protocol.specs.declared.Head.{Head}
use Rattle.protocol.specs.declared.Refusal.TheVariants.{Size, Residue}
use Rattle.protocol.specs.Judge.{Test, needs}
use Rattle.protocol.specs.Bounds.{all_below}
use Rattle.protocol.specs.Line.{numbers_of, message_from}
use Rattle.line.specs.declared.Arrived.{Arrived}

-- the line s is a message's: its head is h, and n residues follow
pub record Holds (s : List ℕ) (h : Head) (n : ℕ) (words : List ℕ) : Type 0 where
  pub values : List ℕ
  pub reads : numbers_of s ≡ some values
  pub seven : 7 ≤ length values
  pub head : h ≡ (message_from values).head
  pub count : length (drop 7 values) ≡ n
  -- the words have the numbers as far as there is room
  pub residues : (j : ℕ) → j ≤ n → j + 7 ≤ length words → take j (drop 7 words) ≡ take j (drop 7 values)

-- it has a fault, or fewer than seven numbers
abbrev pub NoMessage : List ℕ → Type 0
NoMessage s = (values : List ℕ) → numbers_of s ≡ some values → length values < 7

abbrev pub Loads : (s words : List ℕ) → Option Arrived → Type 0
Loads s words (Some a) = Holds s a.head a.count words
Loads s words None = NoMessage s

-- `size` words or bytes of `room` are written
unfoldable pub rest_tests : (q : ℕ) → (residues : List ℕ) → (size room : ℕ) → List Test
rest_tests q residues size room = needs Size (leb size room) ∷ needs Residue (all_below q residues) ∷ []
