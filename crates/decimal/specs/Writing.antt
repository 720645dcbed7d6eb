-- What the writer's functions store.
--   digit_at     the digit of a number that stands for a power of ten
--   high        the digits above the last one
--   line_before  a run of numbers on a line that goes on behind them
--   head_numbers the numbers of a message's head
-- Assumes nothing.
use Rattle.std.specs.Prelude.{ℕ, ◌+◌, ◌/◌, ◌%◌, cond, List, [], ◌∷◌, ◌++◌, ltb, length}
use Rattle.protocol.specs.declared.Head.{Head}
use Rattle.protocol.specs.Line.{decimal, end_byte}

-- none where n doesn't reach the power
unfoldable pub digit_at : ℕ → ℕ → List ℕ
digit_at n power = cond (ltb n power) [] ((48 + n / power % 10) ∷ [])

-- all but the last digit of n: none where n is below 10
unfoldable pub high : ℕ → List ℕ
high n = cond (ltb n 10) [] (decimal (n / 10))

-- each number in decimal with the byte that ends it, where `more` numbers follow on the line
abbrev pub line_before : ℕ → List ℕ → List ℕ
line_before more [] = []
line_before more (x ∷ xs) = decimal x ++ (end_byte (length xs + more) ∷ line_before more xs)

-- in a line's order
abbrev pub head_numbers : Head → List ℕ
head_numbers h = let t = h.terms in h.kind ∷ t.session.0 ∷ t.tape.0 ∷ t.q ∷ t.m ∷ t.k ∷ t.p ∷ []
