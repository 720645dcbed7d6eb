-- Which words of both slots a dealing on bytes looks at: those of the larger half, and none where something is refused by 4.
--   own_tests, part_tests   what the entry tests by itself; and all that is refused by 4, by how many bytes there are
--   is_fit, part_for        nothing is, and the modulus is not 0; the words that are looked at
--   Known, Lies           what is then known
-- Assumes nothing.
use Rattle.std.specs.Prelude.{◌≡◌, Bool, true, cond, List, ◌++◌, ℕ, ◌+◌, ◌*◌, ◌/◌, ◌≤◌, ◌<◌, leb, ltb}
use Rattle.algebra.specs.Count.{both}
use Rattle.protocol.specs.declared.Terms.{Terms}
use Rattle.protocol.specs.declared.Refusal.TheVariants.{Size}
use Rattle.protocol.specs.Judge.{Test, clear}
use Rattle.protocol.specs.Bounds.{Sort, sides_fit}
use Rattle.protocol.specs.Tape.{tape_size}
use Rattle.protocol.specs.Deal.{first_role, second_role}
use Rattle.entry.specs.Entry.{whole_tests}
use Rattle.dealer.specs.Groups.{size_tests}
use Rattle.host_deal.specs.declared.part.Part.{Part}

-- the pools and the raw words are whole words
abbrev pub own_tests : (first second words : ℕ) → List Test
own_tests first second words = whole_tests first ++ (whole_tests second ++ whole_tests words)

-- the terms are tested with each half
unfoldable pub part_tests : Sort → Terms → (first second words size index : ℕ) → List Test
part_tests s t first second words size index =
    own_tests first second words ++ (size_tests (first_role s) t (first / 4) size index ++ size_tests (second_role s) t (second / 4) size index)

unfoldable pub is_fit : Sort → Terms → (first second words size index : ℕ) → Bool
is_fit s t first second words size index = both (ltb 0 t.q) (clear Size (part_tests s t first second words size index))

-- one size serves both pools
unfoldable pub larger_half : Sort → (m k p : ℕ) → ℕ
larger_half s m k p =
    cond (leb (tape_size (first_role s) m k p) (tape_size (second_role s) m k p)) (tape_size (second_role s) m k p) (tape_size (first_role s) m k p)

unfoldable pub part_for : Sort → Terms → (first second words size index : ℕ) → Part
part_for s t first second words size index =
    cond (is_fit s t first second words size index) (record { from = index * size; size = larger_half s t.m t.k t.p })
    (record { from = 0; size = 0 })

-- where words are looked at
pub record Known (s : Sort) (t : Terms) (size : ℕ) : Type 0 where
  pub some-q : 0 < size → 0 < t.q
  pub sides : 0 < size → sides_fit s t.m t.k t.p ≡ true

-- they lie in both pools, and an array of 3,079 words has room for them
pub record Lies (at : Part) (first second : ℕ) : Type 0 where
  pub in-first : at.from * 4 + at.size * 4 ≤ first
  pub in-second : at.from * 4 + at.size * 4 ≤ second
  pub few : at.size ≤ 3079
