-- A list whose first words are written: what a loop that stores f 0, f 1, .. has left. Assumes nothing.
--   filled      a list with its first n words replaced
--   first_words  n words of a list, 0 past its end
--   negated     the negatives of n words
--   Below       the first n words of a list are below q
--   word_at     what a copy stores at a place
use Rattle.std.specs.Prelude.{List, ◌++◌, ℕ, ◌<◌, get_or, drop}
use Rattle.algebra.specs.Residue.{sub_mod}
use Rattle.algebra.specs.Matrix.{tabulate}

unfoldable pub filled : ℕ → (ℕ → ℕ) → List ℕ → List ℕ
filled n f d = tabulate n f ++ drop n d

unfoldable pub first_words : ℕ → List ℕ → List ℕ
first_words n a = tabulate n (λ e. get_or a e 0)

unfoldable pub negated : ℕ → ℕ → List ℕ → List ℕ
negated q n a = tabulate n (λ e. sub_mod q 0 (get_or a e 0))

unfoldable pub word_at : List ℕ → ℕ → ℕ
word_at a e = get_or a e 0

abbrev pub Below : ℕ → ℕ → List ℕ → Type 0
Below q n a = (j : ℕ) → j < n → get_or a j 0 < q
