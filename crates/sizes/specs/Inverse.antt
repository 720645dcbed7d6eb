-- A square matrix handed over as bytes: has it an inverse, or which number is the lowest that applies (RULES 11.5)?
--   inverse_tests, inverse_number   the tests, and the number that is told
--   is_square, square_tests         in the code's order: the numbers, where the bytes are n × n words
--   matrix_tests                   and then the words
--   Square                        what is known past the numbers
-- Assumes nothing.
use Rattle.std.specs.Prelude.{◌≡◌, Bool, true, List, [], ◌∷◌, ◌++◌, ℕ, ◌*◌, ◌/◌, ◌%◌, ◌<◌, ◌≤◌, eqb, length}
use Rattle.algebra.specs.Count.{both}
use Rattle.algebra.specs.Prime.{is_prime}
use Rattle.algebra.specs.Elimination.{regular}
use Rattle.protocol.specs.declared.Refusal.TheVariants.{Modulus, Composite, Size, Residue, Singular}
use Rattle.protocol.specs.Judge.{Test, needs, reply_of}
use Rattle.protocol.specs.Bounds.{system, within, largest_modulus, most_unknowns, all_below, input_tests}
use Rattle.protocol.specs.System.{regular_tests}
use Rattle.judging.specs.InOrder.{judged}
use Rattle.judging.specs.Groups.{modulus_tests}
use Rattle.entry.specs.Bytes.{words_of}
use Rattle.entry.specs.Entry.{whole_tests}

unfoldable pub inverse_tests : (q n : ℕ) → (bytes : List ℕ) → List Test
inverse_tests q n bytes =
    needs Modulus (within 2 largest_modulus q)
    ∷ needs Composite (is_prime q)
    ∷ needs Size (within 1 most_unknowns n)
    ∷ whole_tests (length bytes)
    ++ input_tests q (n * n) (words_of bytes)
    ++ regular_tests q n (words_of bytes)

-- 0 where all hold
unfoldable pub inverse_number : (q n : ℕ) → (bytes : List ℕ) → ℕ
inverse_number q n bytes = (reply_of {A = Unit} tt (judged (inverse_tests q n bytes))).number

-- ---- as the code makes them

-- so many bytes are n × n words
unfoldable pub is_square : (n size : ℕ) → Bool
is_square n size = both (within 1 most_unknowns n) (both (eqb (size % 4) 0) (eqb (size / 4) (n * n)))

unfoldable pub square_tests : (q n size : ℕ) → List Test
square_tests q n size = modulus_tests system q ++ (needs Size (is_square n size) ∷ [])

unfoldable pub matrix_tests : (q n : ℕ) → (words : List ℕ) → List Test
matrix_tests q n words = needs Residue (all_below q words) ∷ needs Singular (regular q n words) ∷ []

pub record Square (q n size : ℕ) : Type 0 where
  pub prime : is_prime q ≡ true
  pub small : q < 2147483648
  pub few : n ≤ 16
  pub whole : size ≡ n * n * 4
