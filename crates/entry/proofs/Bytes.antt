-- Words as bytes, and bytes as words.
--   words-length, bytes-length               how many there are
--   words-at                                 a word where it stands
--   words_take, words-drop                   the words of a part of the bytes
--   bytes-append, bytes_take, bytes_drop     the bytes of a part of the words
--   Below, below-..                          all elements of a list are below a bound
--   words-below, bytes_below                 words are below 2^32, and bytes below 256
--   words_back, bytes_back                   the bytes of words read as those words, and the other way round
--   bytes-over, bytes-written                words written over words, in their bytes
--   over-back, written_back, part-back       the same where the words are those of whole bytes
--   over-again, written-again                what a list has already, written over it again
-- Assumes nothing.
use mathlib.Core.Path.{◌≡◌, refl, sym, ap, ap₂, ◌∙◌}
use mathlib.Core.List.{List, [], ◌∷◌, ◌++◌, append-nil}
use Prim.Native.Nat.{ℕ, zero, suc, ◌+◌, ◌-◌, ◌*◌, ◌/◌, ◌%◌, ◌≤◌, ◌<◌}
use native.Mathlib.Omega.{arith}
use lib.ListN.{length, get_or, take, drop, length-take, length-drop}
use lib.Seq.{get_or-drop}
use Rattle.algebra.specs.Words.{over, written_at}
use Rattle.entry.specs.Bytes.{word_of, word_at, words_of, word_bytes, bytes_of}

-- ---- lengths

pub words-length : (l : List ℕ) → length (words_of l) ≡ length l / 4
unfolding words_of
words-length [] = refl
words-length (a ∷ []) = refl
words-length (a ∷ b ∷ []) = refl
words-length (a ∷ b ∷ c ∷ []) = refl
words-length (a ∷ b ∷ c ∷ d ∷ l) = ap suc (words-length l) ∙ omega arith

pub bytes-length : (ws : List ℕ) → length (bytes_of ws) ≡ length ws * 4
unfolding bytes_of word_bytes
bytes-length [] = refl
bytes-length (w ∷ ws) = rw (bytes-length ws) (omega arith)

-- ---- parts

four-more : (n : ℕ) → suc n * 4 ≡ suc (suc (suc (suc (n * 4))))
four-more n = omega arith

past-four : (a b c d : ℕ) (l : List ℕ) (i j : ℕ) → get_or (a ∷ b ∷ c ∷ d ∷ l) (suc i * 4 + j) 0 ≡ get_or l (i * 4 + j) 0
past-four a b c d l i j =
    let e : suc i * 4 + j ≡ suc (suc (suc (suc (i * 4 + j)))) = omega arith in
    rw e refl

past-start : (a b c d : ℕ) (l : List ℕ) (i : ℕ) → get_or (a ∷ b ∷ c ∷ d ∷ l) (suc i * 4) 0 ≡ get_or l (i * 4) 0
past-start a b c d l i = rw (four-more i) refl

pub words-at : (i : ℕ) (l : List ℕ) → i * 4 + 4 ≤ length l → get_or (words_of l) i 0 ≡ word_at l (i * 4)
unfolding words_of word_at
words-at i [] h = absurd (omega arith)
words-at i (a ∷ []) h = absurd (omega arith)
words-at i (a ∷ b ∷ []) h = absurd (omega arith)
words-at i (a ∷ b ∷ c ∷ []) h = absurd (omega arith)
words-at zero (a ∷ b ∷ c ∷ d ∷ l) h = refl
words-at (suc i) (a ∷ b ∷ c ∷ d ∷ l) h =
    rw (past-start a b c d l i, past-four a b c d l i 1, past-four a b c d l i 2, past-four a b c d l i 3) (words-at i l (omega arith))

pub words_take : (n : ℕ) (l : List ℕ) → take n (words_of l) ≡ words_of (take (n * 4) l)
unfolding words_of
words_take zero l = refl
words_take (suc n) [] = rw (four-more n) refl
words_take (suc n) (a ∷ []) = rw (four-more n) refl
words_take (suc n) (a ∷ b ∷ []) = rw (four-more n) refl
words_take (suc n) (a ∷ b ∷ c ∷ []) = rw (four-more n) refl
words_take (suc n) (a ∷ b ∷ c ∷ d ∷ l) = rw (four-more n) (ap (λ (z : List ℕ). word_of a b c d ∷ z) (words_take n l))

pub words-drop : (n : ℕ) (l : List ℕ) → drop n (words_of l) ≡ words_of (drop (n * 4) l)
unfolding words_of
words-drop zero l = refl
words-drop (suc n) [] = rw (four-more n) refl
words-drop (suc n) (a ∷ []) = rw (four-more n) refl
words-drop (suc n) (a ∷ b ∷ []) = rw (four-more n) refl
words-drop (suc n) (a ∷ b ∷ c ∷ []) = rw (four-more n) refl
words-drop (suc n) (a ∷ b ∷ c ∷ d ∷ l) = rw (four-more n) (words-drop n l)

pub bytes-append : (ws us : List ℕ) → bytes_of (ws ++ us) ≡ bytes_of ws ++ bytes_of us
unfolding bytes_of word_bytes
bytes-append [] us = refl
bytes-append (w ∷ ws) us = ap (λ (l : List ℕ). word_bytes w ++ l) (bytes-append ws us)

pub bytes_take : (n : ℕ) (ws : List ℕ) → bytes_of (take n ws) ≡ take (n * 4) (bytes_of ws)
unfolding bytes_of word_bytes
bytes_take zero ws = refl
bytes_take (suc n) [] = rw (four-more n) refl
bytes_take (suc n) (w ∷ ws) = rw (four-more n) (ap (λ (l : List ℕ). word_bytes w ++ l) (bytes_take n ws))

pub bytes_drop : (n : ℕ) (ws : List ℕ) → bytes_of (drop n ws) ≡ drop (n * 4) (bytes_of ws)
unfolding bytes_of word_bytes
bytes_drop zero ws = refl
bytes_drop (suc n) [] = rw (four-more n) refl
bytes_drop (suc n) (w ∷ ws) = rw (four-more n) (bytes_drop n ws)

-- ---- bounds

-- past its end a list reads as 0
abbrev pub Below : ℕ → List ℕ → Type 0
Below b l = (i : ℕ) → get_or l i 0 < b

pub below-cons : (b x : ℕ) (l : List ℕ) → x < b → Below b l → Below b (x ∷ l)
below-cons b x l h r zero = h
below-cons b x l h r (suc i) = r i

pub below-append : (b : ℕ) (l r : List ℕ) → Below b l → Below b r → Below b (l ++ r)
below-append b [] r h k = k
below-append b (x ∷ l) r h k = below-cons b x (l ++ r) (h 0) (below-append b l r (λ i. h (suc i)) k)

pub below-take : (b n : ℕ) (l : List ℕ) → Below b l → Below b (take n l)
below-take b zero l h = λ i. omega (arith, h 0)
below-take b (suc n) [] h = h
below-take b (suc n) (x ∷ l) h = below-cons b x (take n l) (h 0) (below-take b n l (λ i. h (suc i)))

pub below-drop : (b n : ℕ) (l : List ℕ) → Below b l → Below b (drop n l)
below-drop b n l h i = rw (get_or-drop n l i 0) (h (n + i))

word_below : (a b c d : ℕ) → a < 256 → b < 256 → c < 256 → d < 256 → word_of a b c d < 4294967296
unfolding word_of
word_below a b c d h i j k = omega arith

pub words-below : (l : List ℕ) → Below 256 l → Below 4294967296 (words_of l)
unfolding words_of
words-below [] h = λ i. omega arith
words-below (a ∷ []) h = λ i. omega arith
words-below (a ∷ b ∷ []) h = λ i. omega arith
words-below (a ∷ b ∷ c ∷ []) h = λ i. omega arith
words-below (a ∷ b ∷ c ∷ d ∷ l) h =
    below-cons 4294967296 (word_of a b c d) (words_of l) (word_below a b c d (h 0) (h 1) (h 2) (h 3)) (words-below l (λ i. h (suc (suc (suc (suc i))))))

pub bytes_below : (ws : List ℕ) → Below 256 (bytes_of ws)
unfolding bytes_of word_bytes
bytes_below [] = λ i. omega arith
bytes_below (w ∷ ws) = below-append 256 (word_bytes w) (bytes_of ws) four (bytes_below ws)
  where
    four : Below 256 (word_bytes w)
    four zero = omega arith
    four (suc zero) = omega arith
    four (suc (suc zero)) = omega arith
    four (suc (suc (suc zero))) = omega arith
    four (suc (suc (suc (suc i)))) = omega arith

-- ---- there and back

third : (w : ℕ) → w / 65536 ≡ w / 256 / 256
third w = omega arith

fourth : (w : ℕ) → w / 16777216 ≡ w / 256 / 256 / 256
fourth w = omega arith

word_back : (w : ℕ) → w < 4294967296 → word_of (w % 256) (w / 256 % 256) (w / 65536 % 256) (w / 16777216 % 256) ≡ w
unfolding word_of
word_back w h = rw (third w, fourth w) (omega arith)

pub words_back : (ws : List ℕ) → Below 4294967296 ws → words_of (bytes_of ws) ≡ ws
unfolding words_of bytes_of word_bytes
words_back [] h = refl
words_back (w ∷ ws) h = ap₂ (λ (x : ℕ) (l : List ℕ). x ∷ l) (word_back w (h 0)) (words_back ws (λ i. h (suc i)))

byte-a : (a b c d : ℕ) → a < 256 → word_of a b c d % 256 ≡ a
unfolding word_of
byte-a a b c d h = omega arith

byte-b : (a b c d : ℕ) → a < 256 → b < 256 → word_of a b c d / 256 % 256 ≡ b
unfolding word_of
byte-b a b c d h i = omega arith

byte-c : (a b c d : ℕ) → a < 256 → b < 256 → c < 256 → word_of a b c d / 65536 % 256 ≡ c
unfolding word_of
byte-c a b c d h i j = omega arith

byte-d : (a b c d : ℕ) → a < 256 → b < 256 → c < 256 → d < 256 → word_of a b c d / 16777216 % 256 ≡ d
unfolding word_of
byte-d a b c d h i j k = omega arith

word-bytes : (a b c d : ℕ) → a < 256 → b < 256 → c < 256 → d < 256 → word_bytes (word_of a b c d) ≡ a ∷ b ∷ c ∷ d ∷ []
unfolding word_bytes
word-bytes a b c d h i j k = rw (byte-a a b c d h, byte-b a b c d h i, byte-c a b c d h i j, byte-d a b c d h i j k) refl

-- of whole words
pub bytes_back : (l : List ℕ) → length l % 4 ≡ 0 → Below 256 l → bytes_of (words_of l) ≡ l
unfolding words_of bytes_of
bytes_back [] e h = refl
bytes_back (a ∷ []) e h = absurd (omega arith)
bytes_back (a ∷ b ∷ []) e h = absurd (omega arith)
bytes_back (a ∷ b ∷ c ∷ []) e h = absurd (omega arith)
bytes_back (a ∷ b ∷ c ∷ d ∷ l) e h =
    ap₂ (λ (x y : List ℕ). x ++ y) (word-bytes a b c d (h 0) (h 1) (h 2) (h 3)) (bytes_back l (omega arith) (λ i. h (suc (suc (suc (suc i))))))

-- ---- written over one another

pub bytes-over : (ws l : List ℕ) → bytes_of (over ws l) ≡ over (bytes_of ws) (bytes_of l)
unfolding over
bytes-over ws l = bytes-append ws (drop (length ws) l) ∙ ap (λ (z : List ℕ). bytes_of ws ++ z) (rw (bytes-length ws) (bytes_drop (length ws) l))

pub bytes-written : (at : ℕ) (ws l : List ℕ) → bytes_of (written_at at ws l) ≡ written_at (at * 4) (bytes_of ws) (bytes_of l)
unfolding written_at
bytes-written at ws l =
    bytes-append (take at l) (over ws (drop at l))
    ∙ ap₂ (λ (x y : List ℕ). x ++ y) (bytes_take at l) (bytes-over ws (drop at l) ∙ ap (over (bytes_of ws)) (bytes_drop at l))

module _ (l : List ℕ) (bytes : Below 256 l) where
  pub over-back : (ws : List ℕ) → length l % 4 ≡ 0 → bytes_of (over ws (words_of l)) ≡ over (bytes_of ws) l
  over-back ws whole = bytes-over ws (words_of l) ∙ ap (over (bytes_of ws)) (bytes_back l whole bytes)

  pub written_back : (at : ℕ) (ws : List ℕ) → length l % 4 ≡ 0 → bytes_of (written_at at ws (words_of l)) ≡ written_at (at * 4) (bytes_of ws) l
  written_back at ws whole = bytes-written at ws (words_of l) ∙ ap (written_at (at * 4) (bytes_of ws)) (bytes_back l whole bytes)

  -- n words from a place on, such as a slot
  pub part-back : (at n : ℕ) → at + n ≤ length l / 4 → bytes_of (take n (drop at (words_of l))) ≡ take (n * 4) (drop (at * 4) l)
  part-back at n h =
      let z = take (n * 4) (drop (at * 4) l) in
      let size : length z ≡ n * 4 = simp (length-take, length-drop) (omega arith) in
      ap bytes_of (ap (take n) (words-drop at l) ∙ words_take n (drop (at * 4) l))
      ∙ bytes_back z (omega arith) (below-take 256 (n * 4) (drop (at * 4) l) (below-drop 256 (at * 4) l bytes))

-- ---- what stands there already, written again: a slot whose first words alone are new

start-again : (n : ℕ) (l : List ℕ) → take n l ++ drop (length (take n l)) l ≡ l
start-again zero l = refl
start-again (suc n) [] = refl
start-again (suc n) (x ∷ l) = ap (λ (z : List ℕ). x ∷ z) (start-again n l)

pub over-again : (n : ℕ) (ws l : List ℕ) → over (over ws (take n l)) l ≡ over ws l
unfolding over
over-again n [] l = start-again n l
over-again zero (w ∷ ws) l = ap (λ (z : List ℕ). over (w ∷ z) l) (append-nil ws)
over-again (suc n) (w ∷ ws) [] = ap (λ (z : List ℕ). over (w ∷ z) []) (append-nil ws)
over-again (suc n) (w ∷ ws) (x ∷ l) = ap (λ (z : List ℕ). w ∷ z) (over-again n ws l)

pub written-again : (at n : ℕ) (ws l : List ℕ) → written_at at (over ws (take n (drop at l))) l ≡ written_at at ws l
unfolding written_at
written-again at n ws l = ap (λ (z : List ℕ). take at l ++ z) (over-again n ws (drop at l))
