-- The sum of a list, and words copied from bytes.
--   sum-next        one element more
--   same-sum        std's sum is that of the rules
--   words_long, words-loaded   so many words of the bytes, where they were copied
--   rest-long, window-words    the bytes from a window's first day on
-- Assumes nothing.
use mathlib.Core.Path.{◌≡◌, refl, sym, ap, ◌∙◌}
use mathlib.Core.List.{List}
use Prim.Native.Nat.{ℕ, suc, ◌+◌, ◌-◌, ◌*◌, ◌≤◌}
use native.Mathlib.Omega.{arith}
use lib.ListN.{length, get_or, take, drop, length-drop}
use lib.Seq.{take_all, length-take-le}
use Rattle.algebra.specs.Words.{over}
use Rattle.protocol.specs.Window.{window_days, sum}
use Rattle.protocol.proofs.Window.{sum-last}
use Rattle.std.specs.List.{sum as plain_sum}
use Rattle.std.proofs.lemmas.List.Recursion.{is_sum_by}
use Rattle.vectors.proofs.Written.{over-part}
use Rattle.entry.specs.Bytes.{words_of}
use Rattle.entry.proofs.Bytes.{words-length, words-drop}

pub sum-next : (i : ℕ) (l : List ℕ) → sum (take (i + 1) l) ≡ sum (take i l) + get_or l i 0
sum-next i l =
    ap (λ (n : ℕ). sum (take n l)) (let e : i + 1 ≡ suc i = omega arith in e)
    ∙ (sum-last 0 i l ∙ ap (λ (n : ℕ). sum (take i l) + get_or l n 0) (let e : 0 + i ≡ i = omega arith in e))

pub same-sum : (l : List ℕ) → plain_sum l ≡ sum l
unfolding sum
same-sum l = sym (is_sum_by sum (λ x. x) refl (λ x xs. refl) l)

-- ---- words that were copied from bytes

pub words_long : (n : ℕ) (bytes : List ℕ) → n * 4 ≤ length bytes → length (take n (words_of bytes)) ≡ n
words_long n bytes h = length-take-le n (words_of bytes) (omega (arith, words-length bytes))

pub words-loaded : (n : ℕ) (bytes zeros : List ℕ) {out : List ℕ} → n * 4 ≤ length bytes → out ≡ over (take n (words_of bytes)) zeros
    → take n out ≡ take n (words_of bytes)
words-loaded n bytes zeros h loaded = over-part n (take n (words_of bytes)) zeros loaded (words_long n bytes h)

-- what lies behind a place
rest-whole : (k : ℕ) (l : List ℕ) → take (length l - k) (drop k l) ≡ drop k l
rest-whole k l = take_all (length l - k) (drop k l) (omega (arith, length-drop k l))

pub rest-long : (k : ℕ) (l : List ℕ) → length (take (length l - k) (drop k l)) ≡ length l - k
rest-long k l = ap length (rest-whole k l) ∙ length-drop k l

-- the days of a window, from the bytes behind its first day's place
pub window-words : (first w : ℕ) (bytes : List ℕ) → take w (words_of (take (length bytes - first * 4) (drop (first * 4) bytes)))
    ≡ window_days first w (words_of bytes)
window-words first w bytes = ap (λ (l : List ℕ). take w (words_of l)) (rest-whole (first * 4) bytes) ∙ ap (take w) (sym (words-drop first bytes))
