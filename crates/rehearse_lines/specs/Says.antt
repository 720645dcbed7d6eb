-- What the five lines of a rehearsal say, where they can be read.
--   counts_of  the lines' counts, where all can be read
--   Loaded    what a line leaves in the words lent for it, read or not
--   Holds  words that hold a line's numbers, where there was room for them
--   Said   an input, and the words that hold it
-- Assumes nothing.
use Rattle.std.specs.Prelude.{ℕ, ◌≤◌, ◌≡◌, cond, List, eqb, length, take, Option, Some, None}
use Rattle.std.proofs.lemmas.List.Edits.{sets}
use Rattle.protocol.specs.declared.Refusal.TheVariants.{Form}
use Rattle.protocol.specs.Judge.{refused, judge}
use Rattle.protocol.specs.Rehearsal.{Input, terms_from, rehearsal_tests, run, printed, line_at, rehearse}
use Rattle.decimal.specs.Reading.{numbers_before}
use Rattle.rehearse_lines.specs.declared.Counts.{Counts}

-- the first line has six numbers
abbrev pub counts_of : (first x y dealer left : Option ℕ) → Option Counts
counts_of None x y d l = None
counts_of (Some n) None y d l = None
counts_of (Some n) (Some x) None d l = None
counts_of (Some n) (Some x) (Some y) None l = None
counts_of (Some n) (Some x) (Some y) (Some d) None = None
counts_of (Some n) (Some x) (Some y) (Some d) (Some l) = cond (eqb n 6) (Some (record { x = x; y = y; dealer = d; left = l })) None

-- the numbers of line number n, up to its first fault, stand at the start of the words, as many as there is room for
abbrev pub Loaded : (s : List ℕ) (n : ℕ) (before after : List ℕ) → Type 0
Loaded s n before after = after ≡ sets before 0 (numbers_before (line_at n s))

-- n numbers
pub record Holds (values : List ℕ) (n : ℕ) (words : List ℕ) : Type 0 where
  pub count : n ≡ length values
  -- a line of 65,536 bytes has no more
  pub few : n ≤ 32768
  pub held : n ≤ length words → take n words ≡ values

pub record Said (s first x y dealer left : List ℕ) (c : Counts) : Type 0 where
  pub input : Input
  pub prints : rehearse s ≡ printed (judge (rehearsal_tests input) (run input))
  pub terms : input.terms ≡ terms_from first
  pub in-x : Holds input.x c.x x
  pub in-y : Holds input.y c.y y
  pub in-dealer : Holds input.dealer_words c.dealer dealer
  pub in_left : Holds input.left_words c.left left

abbrev pub Says : (s first x y dealer left : List ℕ) → Option Counts → Type 0
Says s first x y dealer left (Some c) = Said s first x y dealer left c
Says s first x y dealer left None = rehearse s ≡ printed (refused Form)
