-- Windows of days (RULES 12). Each day is a 1 by 1 by 1 product of two flags, so an end has a run of day shares; its share of a window is their sum.
-- Days are counted from 0.
--   longest_run                    the most days of a run
--   window_days, window_fits        w days from the first on; which windows there are
--   window_sum, window_share        the share of a window, and judged
--   moved, next_window             the window that begins a day later, from the share of the one before it, and judged
--   moves                         so many of them, one after the other
--   flags_fit                      a run of flags, judged
--   missed_by_both                  how many days of a window both runs of flags mark
-- The laws are in proofs/Window; demand 2 for windows is in history/specs/Windows.
-- Assumes nothing.
use Rattle.std.specs.Prelude.{Bool, List, [], ◌∷◌, ◌++◌, ℕ, zero, suc, ◌+◌, ◌%◌, leb, ltb, eqb, length, get_or, take, drop}
use Rattle.algebra.specs.Count.{both, bit}
use Rattle.algebra.specs.Residue.{add_mod, sub_mod}
use Rattle.protocol.specs.declared.Refusal.TheVariants.{Modulus, Size, Residue}
use Rattle.protocol.specs.Judge.{Test, needs, Judged, refused, done, judge}
use Rattle.protocol.specs.Bounds.{largest_modulus, within, all_below}

-- ---- windows

abbrev pub longest_run : ℕ
longest_run = 2048

-- a day of a run
abbrev pub day_of : List ℕ → ℕ → ℕ
day_of days d = get_or days d 0

-- the w days from `first` on
abbrev pub window_days : {A : Type 0} → (first w : ℕ) → List A → List A
window_days first w days = take w (drop first days)

-- a run of 1 to 2,048 days; a window of 1 to as many, of fewer than q, that ends in the run
unfoldable pub window_fits : (q run first w : ℕ) → Bool
window_fits q run first w = both (within 1 longest_run run) (both (within 1 run w) (both (ltb w q) (leb (first + w) run)))

-- ---- the share of a window

unfoldable pub sum : List ℕ → ℕ
sum [] = 0
sum (a ∷ l) = a + sum l

abbrev pub window_sum : (q : ℕ) → (shares : List ℕ) → (first w : ℕ) → ℕ
window_sum q shares first w = sum (window_days first w shares) % q

-- the numbers of a window
unfoldable pub window_tests : (q run first w : ℕ) → List Test
window_tests q run first w = needs Modulus (within 2 largest_modulus q) ∷ needs Size (window_fits q run first w) ∷ []

-- of the days that the call uses
unfoldable pub share_tests : (q : ℕ) → (used : List ℕ) → List Test
share_tests q used = needs Residue (all_below q used) ∷ []

unfoldable pub window_share : (q : ℕ) → (shares : List ℕ) → (first w : ℕ) → Judged ℕ
window_share q shares first w =
    judge (window_tests q (length shares) first w ++ share_tests q (window_days first w shares)) (window_sum q shares first w)

-- ---- the next window

-- one day is added and one taken away
unfoldable pub moved : (q share new oldest : ℕ) → ℕ
moved q share new oldest = sub_mod q (add_mod q share new) oldest

-- `share` is that of the window from `first` on; the next one begins a day later. Two days are used, whatever w is
unfoldable pub next_window : (q : ℕ) → (shares : List ℕ) → (first w share : ℕ) → Judged ℕ
next_window q shares first w share =
    let oldest = day_of shares first in
    let new = day_of shares (first + w) in
    judge (window_tests q (length shares) (suc first) w ++ share_tests q (share ∷ new ∷ oldest ∷ [])) (moved q share new oldest)

-- a move with the share of the window before it, where there is one
abbrev pub move_on : (q : ℕ) → (shares : List ℕ) → (first w : ℕ) → Judged ℕ → Judged ℕ
move_on q shares first w (refused r) = refused r
move_on q shares first w (done share) = next_window q shares first w share

-- n moves, after a sum
unfoldable pub moves : (q : ℕ) → (shares : List ℕ) → (first w n : ℕ) → Judged ℕ
moves q shares first w zero = window_share q shares first w
moves q shares first w (suc n) = move_on q shares (first + n) w (moves q shares first w n)

-- ---- flags

-- 1 marks a day that was missed
unfoldable pub flags_tests : List ℕ → List Test
flags_tests flags = needs Size (within 1 longest_run (length flags)) ∷ needs Residue (all_below 2 flags) ∷ []

unfoldable pub flags_fit : List ℕ → Judged Unit
flags_fit flags = judge (flags_tests flags) tt

-- the number of days that both lists mark
unfoldable pub both_missed : (flags flags' : List ℕ) → ℕ
both_missed [] ys = 0
both_missed (x ∷ xs) [] = 0
both_missed (x ∷ xs) (y ∷ ys) = bit (both (eqb x 1) (eqb y 1)) + both_missed xs ys

abbrev pub missed_by_both : (flags flags' : List ℕ) → (first w : ℕ) → ℕ
missed_by_both flags flags' first w = both_missed (window_days first w flags) (window_days first w flags')
