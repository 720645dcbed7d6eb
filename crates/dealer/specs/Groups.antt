-- The dealer's tests, in the groups in which its code makes them. Assumes nothing.
--   deal_numbers                     those on numbers
--   mark_tests, mask_tests, raw_tests  those on words
--   deal_words                       the same together
use Rattle.std.specs.Prelude.{List, [], ◌∷◌, ◌++◌, ℕ}
use Rattle.protocol.specs.declared.Terms.{Terms}
use Rattle.protocol.specs.declared.Refusal.TheVariants.{Mark, Singular}
use Rattle.protocol.specs.Judge.{Test, needs}
use Rattle.protocol.specs.Bounds.{Sort}
use Rattle.protocol.specs.Drawing.{draw_tests}
use Rattle.protocol.specs.Tape.{Slot, slot_words, Role, sort_of, status_of}
use Rattle.protocol.specs.Deal.{first_role, second_role, is_free, mask_fits, drawn_parts}
use Rattle.judging.specs.Groups.{modulus_tests, number_tests, place_tests}
use Rattle.dealer.specs.Sorts.{draw_count, request}

-- the terms, and a role's half in its slot
unfoldable pub size_tests : Role → Terms → (pool size index : ℕ) → List Test
size_tests role t pool size index = number_tests (sort_of role) t ++ place_tests role t pool size index

-- the pools' lengths are handed over; the terms are tested with each half
unfoldable pub deal_numbers : Sort → Terms → (first second size index : ℕ) → List Test
deal_numbers s t first second size index =
    modulus_tests (sort_of (first_role s)) t.q ++ (size_tests (first_role s) t first size index ++ size_tests (second_role s) t second size index)

-- a slot's status
unfoldable pub mark_tests : Slot → List Test
mark_tests s = needs Mark (is_free (status_of (slot_words s))) ∷ []

-- a mask with an inverse
unfoldable pub mask_tests : Sort → Terms → (words : List ℕ) → List Test
mask_tests s t words = needs Singular (mask_fits s t.q t.m (drawn_parts (request s t words))) ∷ []

-- and enough raw words
unfoldable pub raw_tests : Sort → Terms → (words : List ℕ) → List Test
raw_tests s t words = draw_tests t.q (draw_count s t.m t.k t.p) words ++ mask_tests s t words

unfoldable pub deal_words : Sort → Terms → (first second : Slot) → (words : List ℕ) → List Test
deal_words s t a b words = mark_tests a ++ (mark_tests b ++ raw_tests s t words)
