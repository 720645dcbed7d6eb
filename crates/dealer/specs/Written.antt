-- What the dealer's writers write. Assumes nothing.
--   first_and_third             of three runs in a row, the first and the third
--   header_of                  a header, ready
--   masks_of, xa, yb, b_from    X0, Y0 and A0 as they are drawn; X0 and A0, Y0 and B0; B0 from words that hold the others
--   first_masks, second_masks   the beginning of each half, for both sorts
--   more_of, qg, rv, v_from     Q, R and G as they are drawn; Q and G, R and V; V from words that hold the others
--   more_first, more_second     a system's matrices behind the masks
use Rattle.std.specs.Prelude.{List, [], ◌∷◌, ◌++◌, ℕ, ◌+◌, ◌*◌, take, drop}
use Rattle.algebra.specs.Count.{part, parts}
use Rattle.algebra.specs.Product.{deal_b}
use Rattle.algebra.specs.System.{deal_v}
use Rattle.protocol.specs.declared.Terms.{Terms}
use Rattle.protocol.specs.Bounds.{Sort}
use Rattle.protocol.specs.Drawing.{residues_of}
use Rattle.protocol.specs.Tape.{header_size, header_words, READY}
use Rattle.dealer.specs.Sorts.{masks_count}

-- of three runs in a row, the first and the third
unfoldable pub first_and_third : (a b c : ℕ) → List ℕ → List ℕ
first_and_third a b c l = part 0 (parts (a ∷ b ∷ c ∷ []) l) ++ part 2 (parts (a ∷ b ∷ c ∷ []) l)

abbrev pub header_of : Sort → Terms → List ℕ
header_of s t = header_words READY t.tape.0 s t.q t.m t.k t.p

-- ---- X0, A0 and Y0, B0

module _ (q m k p : ℕ) where
  abbrev pub masks_of : (words : List ℕ) → List (List ℕ)
  masks_of words = parts (m * k ∷ k * p ∷ m * p ∷ []) (residues_of q words)

  unfoldable pub xa : (words : List ℕ) → List ℕ
  xa words = first_and_third (m * k) (k * p) (m * p) (residues_of q words)

  unfoldable pub yb : (words : List ℕ) → List ℕ
  yb words = part 1 (masks_of words) ++ deal_b q m k p (part 0 (masks_of words)) (part 1 (masks_of words)) (part 2 (masks_of words))

  -- X0 and A0 stand behind the first header, Y0 behind the second
  unfoldable pub b_from : (first second : List ℕ) → List ℕ
  b_from first second =
      deal_b q m k p (take (m * k) (drop header_size first)) (take (k * p) (drop header_size second)) (take (m * p) (drop (header_size + m * k) first))

unfoldable pub first_masks : Sort → Terms → (words : List ℕ) → List ℕ
first_masks s t words = header_of s t ++ xa t.q t.m t.k t.p words

unfoldable pub second_masks : Sort → Terms → (words : List ℕ) → List ℕ
second_masks s t words = header_of s t ++ yb t.q t.m t.k t.p words

-- ---- Q, G and R, V

abbrev pub more_of : (n : ℕ) → (residues : List ℕ) → List (List ℕ)
more_of n residues = parts (n * n ∷ n * n ∷ n * n ∷ []) residues

unfoldable pub qg : (n : ℕ) → (residues : List ℕ) → List ℕ
qg n residues = first_and_third (n * n) (n * n) (n * n) residues

unfoldable pub rv : (q n : ℕ) → (residues : List ℕ) → List ℕ
rv q n residues = part 1 (more_of n residues) ++ deal_v q n (part 1 (more_of n residues)) (part 0 (more_of n residues)) (part 2 (more_of n residues))

-- Q and G stand in the first words from f on, R in the second from s on
unfoldable pub v_from : (q n f s : ℕ) (first second : List ℕ) → List ℕ
v_from q n f s first second =
    deal_v q n (take (n * n) (drop s second)) (take (n * n) (drop f first)) (take (n * n) (drop (f + n * n) first))

-- the residues behind X0, Y0 and A0
abbrev pub rest_of : Terms → (words : List ℕ) → List ℕ
rest_of t words = drop (masks_count t.m t.k t.p) (residues_of t.q words)

unfoldable pub more_first : Terms → (words : List ℕ) → List ℕ
more_first t words = qg t.m (rest_of t words)

unfoldable pub more_second : Terms → (words : List ℕ) → List ℕ
more_second t words = rv t.q t.m (rest_of t words)
