-- The entries on bytes (RULES 12.3): the call on the words that the bytes are; a run that is not whole words is refused by 4.
--   window_share_on, next_window_on   the share of a window, and of the next one
--   flags_fit_on, flags_number       a run of flags, and the number that is told
--   flags_tests_on                  the tests of a run of flags that need no more than the number of its bytes
-- Assumes nothing.
use Rattle.std.specs.Prelude.{List, [], ◌∷◌, ◌++◌, ℕ, ◌/◌, length}
use Rattle.protocol.specs.declared.Refusal.TheVariants.{Size}
use Rattle.protocol.specs.Judge.{Test, needs, Judged, reply_of}
use Rattle.protocol.specs.Bounds.{within}
use Rattle.protocol.specs.Window.{longest_run, window_share, next_window, flags_fit}
use Rattle.entry.specs.Bytes.{words_of}
use Rattle.entry.specs.Steps.{also}
use Rattle.entry.specs.Entry.{whole_tests}

unfoldable pub window_share_on : (q : ℕ) → (bytes : List ℕ) → (first w : ℕ) → Judged ℕ
window_share_on q bytes first w = also (whole_tests (length bytes)) (window_share q (words_of bytes) first w)

unfoldable pub next_window_on : (q : ℕ) → (bytes : List ℕ) → (first w share : ℕ) → Judged ℕ
next_window_on q bytes first w share = also (whole_tests (length bytes)) (next_window q (words_of bytes) first w share)

unfoldable pub flags_fit_on : (bytes : List ℕ) → Judged Unit
flags_fit_on bytes = also (whole_tests (length bytes)) (flags_fit (words_of bytes))

-- 0 where they fit
unfoldable pub flags_number : (bytes : List ℕ) → ℕ
flags_number bytes = (reply_of {A = Unit} tt (flags_fit_on bytes)).number

-- so many bytes
unfoldable pub flags_tests_on : (size : ℕ) → List Test
flags_tests_on size = whole_tests size ++ (needs Size (within 1 longest_run (size / 4)) ∷ [])
