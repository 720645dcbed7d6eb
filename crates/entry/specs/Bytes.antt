-- Words as bytes, the lowest byte first (RULES 11). Assumes nothing.
--   word_of, word_at, words_of   the words that bytes are; a rest of fewer than four bytes is no word
--   word_bytes, bytes_of        the bytes of words
use Rattle.std.specs.Prelude.{List, [], ◌∷◌, ◌++◌, ℕ, ◌+◌, ◌*◌, ◌/◌, ◌%◌, get_or}

unfoldable pub word_of : (a b c d : ℕ) → ℕ
word_of a b c d = a + b * 256 + c * 65536 + d * 16777216

unfoldable pub word_at : List ℕ → ℕ → ℕ
word_at l at = word_of (get_or l at 0) (get_or l (at + 1) 0) (get_or l (at + 2) 0) (get_or l (at + 3) 0)

unfoldable pub words_of : List ℕ → List ℕ
words_of [] = []
words_of (a ∷ []) = []
words_of (a ∷ b ∷ []) = []
words_of (a ∷ b ∷ c ∷ []) = []
words_of (a ∷ b ∷ c ∷ d ∷ l) = word_of a b c d ∷ words_of l

unfoldable pub word_bytes : ℕ → List ℕ
word_bytes w = w % 256 ∷ w / 256 % 256 ∷ w / 65536 % 256 ∷ w / 16777216 % 256 ∷ []

unfoldable pub bytes_of : List ℕ → List ℕ
bytes_of [] = []
bytes_of (w ∷ ws) = word_bytes w ++ bytes_of ws
