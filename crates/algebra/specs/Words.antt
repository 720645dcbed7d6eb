-- Words written over a list of words: what a step writes into a slice, and what stays.
--   over       words over the start of a list
--   written_at  words over a list from a position on
use Rattle.std.specs.Prelude.{List, ◌++◌, ℕ, length, take, drop}

-- words over the start of a list; what follows them stays (RULES 1.4)
unfoldable pub over : List ℕ → List ℕ → List ℕ
over ws l = ws ++ drop (length ws) l

-- words over a list from a position on; what stands before and after them stays
unfoldable pub written_at : ℕ → List ℕ → List ℕ → List ℕ
written_at at ws l = take at l ++ over ws (drop at l)
