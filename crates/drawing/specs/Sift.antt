-- The words that drawing keeps, as they are. Assumes nothing.
--   kept_words  those of a list, in order
--   SiftedTo   what sift answers and leaves
use Rattle.std.specs.Prelude.{◌≡◌, cond, List, [], ◌∷◌, ℕ, length, take, drop}
use Rattle.protocol.specs.Drawing.{is_kept, words_read}
use Rattle.drawing.specs.declared.Sifted.{Sifted}

unfoldable pub kept_words : ℕ → List ℕ → List ℕ
kept_words q [] = []
kept_words q (w ∷ ws) = let rest = kept_words q ws in cond (is_kept q w) (w ∷ rest) rest

-- of the first n words kept all that there are stand in `out`, which was d; where there are fewer, nothing is said of the words from there to n
pub record SiftedTo (q n : ℕ) (ws d out : List ℕ) (r : Sifted) : Type 0 where
  pub kept : r.kept ≡ length (take n (kept_words q ws))
  -- all words, where they are too few
  pub read : r.read ≡ words_read q n ws
  pub copied : take r.kept out ≡ take n (kept_words q ws)
  pub past : drop n out ≡ drop n d
