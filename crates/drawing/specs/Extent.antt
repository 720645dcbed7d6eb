-- How far raw words are read, as an answer, and what the loops of drawing leave. Assumes nothing.
--   read_for          how many words are read
--   Kept, Collected   which words are kept, and that they stand together
--   residue_at        the residue of a word at a place
use Rattle.std.specs.Prelude.{◌≡◌, true, cond, List, Option, Some, None, ℕ, ◌<◌, leb, length, get_or, drop}
use Rattle.protocol.specs.Drawing.{is_kept, residue_of, residues_of, words_read}

-- for n residues; None where too few words are kept
unfoldable pub read_for : ℕ → ℕ → List ℕ → Option ℕ
read_for q n words = cond (leb n (length (residues_of q words))) (Some (words_read q n words)) None

-- none of the first n words is thrown away
abbrev pub Kept : ℕ → ℕ → List ℕ → Type 0
Kept q n words = (j : ℕ) → j < n → is_kept q (get_or words j 0) ≡ true

unfoldable pub residue_at : ℕ → List ℕ → ℕ → ℕ
residue_at q a j = residue_of q (get_or a j 0)

-- the first n words of `out` give the first n residues of `words`, and those past n are d's
pub record Collected (q n : ℕ) (words d out : List ℕ) : Type 0 where
  pub gives : (j : ℕ) → j < n → residue_at q out j ≡ get_or (residues_of q words) j 0
  pub past : drop n out ≡ drop n d
  pub same : length out ≡ length d
