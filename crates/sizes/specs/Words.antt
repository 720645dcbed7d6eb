-- The refusals' words (RULES 8.2), for a host that shows them.
--   word_of, refusal_word   the word of a refusal, and of its number: none of another number
--   Told, told            a text over the start of a slice that has room, and its length
-- Assumes nothing.
use Rattle.std.specs.Prelude.{cond, List, [], ◌∷◌, ℕ, eqb, leb, length}
use Rattle.algebra.specs.Words.{over}
use Rattle.protocol.specs.declared.Refusal.{Refusal}
use Rattle.protocol.specs.declared.Refusal.TheVariants.{Form, Modulus, Composite, Size, Turn, Mark, Stranger, Residue, Dry, Singular}
use Rattle.protocol.specs.Ascii.{ascii}
use Rattle.protocol.specs.Judge.{refusals, refusal_number}

abbrev pub word_of : Refusal → List ℕ
word_of Form = ascii "form"
word_of Modulus = ascii "modulus"
word_of Composite = ascii "composite"
word_of Size = ascii "size"
word_of Turn = ascii "turn"
word_of Mark = ascii "mark"
word_of Stranger = ascii "stranger"
word_of Residue = ascii "residue"
word_of Dry = ascii "dry"
word_of Singular = ascii "singular"

-- the word of the refusal with this number; no text where none of them has it
unfoldable pub word_in : List Refusal → ℕ → List ℕ
word_in [] n = []
word_in (r ∷ rs) n = cond (eqb n (refusal_number r)) (word_of r) (word_in rs n)

unfoldable pub refusal_word : ℕ → List ℕ
refusal_word n = word_in refusals n

-- how many bytes were written, and the slice as it then is
pub record Told : Type 0 where
  pub bytes : ℕ
  pub slice : List ℕ

-- nothing where the slice has no room
unfoldable pub told : (text slice : List ℕ) → Told
told text slice =
    cond (leb (length text) (length slice)) (record { bytes = length text; slice = over text slice }) (record { bytes = 0; slice = slice })
