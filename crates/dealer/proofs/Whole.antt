-- What the writers leave are the halves that the definition of dealing says.
--   masks-filled, more-filled        B0 and V stand where they belong
--   masks-over                       what follows the headers
--   rest-residues                    the residues behind the masks
--   mask-part                        the mask that is tested is the one that is dealt
--   system-first, system-second      a system's halves
--   same_count, same_first, same_second   a product's halves are their beginnings
-- Assumes nothing.
use mathlib.Core.Path.{◌≡◌, refl, sym, ap, ◌∙◌}
use mathlib.Core.List.{List, [], ◌∷◌, ◌++◌, append-nil, append_assoc}
use Prim.Native.Nat.{ℕ, ◌+◌, ◌*◌, ◌≤◌}
use native.Mathlib.Omega.{arith}
use lib.ListN.{length, take, drop, length-append, length-drop}
use lib.Seq.{length-take-le, drop-drop}
use Rattle.algebra.specs.Count.{part, parts, join}
use Rattle.algebra.specs.Product.{deal_b}
use Rattle.algebra.specs.System.{deal_v}
use Rattle.algebra.specs.Words.{over, written_at}
use Rattle.protocol.specs.declared.Terms.{Terms}
use Rattle.protocol.specs.Bounds.{Sort, product, system}
use Rattle.protocol.specs.Drawing.{residues_of, drawn, words_read}
use Rattle.protocol.specs.Tape.{header_size, header_words, blinder, solver, matrix_at}
use Rattle.protocol.specs.Deal.{drawn_parts, dealt_b, dealt_v}
use Rattle.drawing.proofs.Then.{next_drawn, residues-after}
use Rattle.vectors.proofs.Written.{over-then}
use Rattle.dealer.specs.declared.sort.Sort as code
use Rattle.dealer.specs.declared.sort.Sort.TheVariants.{Product}
use Rattle.dealer.specs.Sorts.{sort, masks_count, draw_count, request}
use Rattle.dealer.specs.Shape.{Room}
use Rattle.dealer.specs.Written.{first_and_third, header_of, masks_of, xa, yb, b_from, first_masks, second_masks}
use Rattle.dealer.specs.Written.{more_of, qg, rv, v_from, rest_of, more_first, more_second}
use Rattle.dealer.specs.Dealt.{first_half_words, second_half_words}
use Rattle.dealer.proofs.Words.{computed}
use Rattle.dealer.proofs.Draws.{drawn-parts}
use Rattle.dealer.proofs.Made.{b-count}
use Rattle.dealer.proofs.Known.{square, enough-masks}

-- ---- three matrices in a row

module _ (a b c : ℕ) (l : List ℕ) (enough : a + (b + c) ≤ length l) where
  abbrev D : List (List ℕ)
  D = parts (a ∷ b ∷ c ∷ []) l

  count-0 : length (part 0 D) ≡ a
  unfolding parts
  count-0 = length-take-le a l (omega arith)

  count-1 : length (part 1 D) ≡ b
  unfolding parts
  count-1 = length-take-le b (drop a l) (omega (arith, length-drop a l))

  count-2 : length (part 2 D) ≡ c
  unfolding parts
  count-2 = length-take-le c (drop b (drop a l)) (omega (arith, length-drop b (drop a l), length-drop a l))

  first-third-count : length (first_and_third a b c l) ≡ a + c
  unfolding first_and_third
  first-third-count = omega (arith, length-append (part 0 D) (part 2 D), count-0, count-2)

  -- and a fourth that is computed from them
  filled : (make : List ℕ → List ℕ → List ℕ → List ℕ) (f s : ℕ) (first second one two : List ℕ) {three : List ℕ} → f ≤ length first → s ≤ length second
      → one ≡ written_at f (first_and_third a b c l) first → two ≡ written_at s (part 1 D) second
      → three ≡ written_at (s + b) (make (take a (drop f one)) (take b (drop s two)) (take c (drop (f + a) one))) two
      → three ≡ written_at s (part 1 D ++ make (part 0 D) (part 1 D) (part 2 D)) second
  unfolding first_and_third
  filled make f s first second one two hf hs e1 e2 e3 =
      computed make f s a b c (part 0 D) (part 1 D) (part 2 D) count-0 count-1 count-2 first second one two hf hs e1 e2 e3

-- ---- X0, A0 and Y0, B0

module _ (q m k p : ℕ) (words : List ℕ) (enough : masks_count m k p ≤ length (residues_of q words)) where
  pub masks-filled : (first second one two : List ℕ) {three : List ℕ} → header_size ≤ length first → header_size ≤ length second
      → one ≡ written_at header_size (xa q m k p words) first → two ≡ written_at header_size (part 1 (masks_of q m k p words)) second
      → three ≡ written_at (header_size + k * p) (b_from q m k p one two) two → three ≡ written_at header_size (yb q m k p words) second
  unfolding xa yb b_from
  masks-filled first second one two hf hs e1 e2 e3 =
      filled (m * k) (k * p) (m * p) (residues_of q words) enough (deal_b q m k p) header_size header_size first second one two hf hs e1 e2 e3

  xa-count : length (xa q m k p words) ≡ m * k + m * p
  unfolding xa
  xa-count = first-third-count (m * k) (k * p) (m * p) (residues_of q words) enough

  yb-count : length (yb q m k p words) ≡ k * p + m * p
  unfolding yb
  yb-count =
      let d = masks_of q m k p words in
      let y = count-1 (m * k) (k * p) (m * p) (residues_of q words) enough in
      omega (arith, length-append (part 1 d) (deal_b q m k p (part 0 d) (part 1 d) (part 2 d)), y, b-count q m k p (part 0 d) (part 1 d) (part 2 d))

-- behind a header
pub masks-over : (s : Sort) (t : Terms) (x first one : List ℕ) {two : List ℕ} → one ≡ over (header_of s t) first → two ≡ written_at header_size x one
    → two ≡ over (header_of s t ++ x) first
unfolding header_words
masks-over s t x first one e f = f ∙ (ap (written_at header_size x) e ∙ over-then (header_of s t) x first header_size refl)

-- ---- Q, G and R, V

module _ (q n : ℕ) (l : List ℕ) (enough : n * n + (n * n + n * n) ≤ length l) where
  pub more-filled : (f s : ℕ) (first second one two : List ℕ) {three : List ℕ} → f ≤ length first → s ≤ length second
      → one ≡ written_at f (qg n l) first → two ≡ written_at s (part 1 (more_of n l)) second
      → three ≡ written_at (s + n * n) (v_from q n f s one two) two → three ≡ written_at s (rv q n l) second
  unfolding qg rv v_from
  more-filled f s first second one two hf hs e1 e2 e3 =
      filled (n * n) (n * n) (n * n) l enough (λ (x y g : List ℕ). deal_v q n y x g) f s first second one two hf hs e1 e2 e3

-- ---- the halves

module _ (t : Terms) (words : List ℕ) where
  product-first : first_masks product t words ≡ first_half_words (request product t words)
  unfolding first_masks xa first_and_third first_half_words join
  product-first = rw (drawn-parts (request product t words)) (simp append-nil)

  product-second : second_masks product t words ≡ second_half_words (request product t words)
  unfolding second_masks yb second_half_words join dealt_b
  product-second = rw (drawn-parts (request product t words)) (simp append-nil)

  abbrev N : ℕ
  N = masks_count t.m t.k t.p

  abbrev R : List ℕ
  R = residues_of t.q words

  abbrev E : List (List ℕ)
  E = more_of t.m (rest_of t words)

  drop-masks : drop (t.m * t.p) (drop (t.k * t.p) (drop (t.m * t.k) R)) ≡ rest_of t words
  drop-masks =
      let sum : t.m * t.k + t.k * t.p + t.m * t.p ≡ N = omega arith in
      ap (drop (t.m * t.p)) (drop-drop (t.k * t.p) (t.m * t.k) R)
      ∙ (drop-drop (t.m * t.p) (t.m * t.k + t.k * t.p) R ∙ ap (λ (i : ℕ). drop i R) sum)

  pub rest-residues : {i : ℕ} → i ≡ words_read t.q N words → N ≤ length R → residues_of t.q (drop i words) ≡ rest_of t words
  rest-residues e h = rw e (residues-after t.q N words h)

  module _ (sq : t.k ≡ t.m) where
    squares : parts (t.m * t.k ∷ t.m * t.k ∷ t.m * t.k ∷ []) (rest_of t words) ≡ E
    squares = ap (λ (n : ℕ). parts (t.m * n ∷ t.m * n ∷ t.m * n ∷ []) (rest_of t words)) sq

    -- X0, Y0 and A0, and then Q, R and G
    abbrev All : List (List ℕ) → List (List ℕ)
    All e =
        let d = masks_of t.q t.m t.k t.p words in part 0 d ∷ part 1 d ∷ part 2 d ∷ part 0 e ∷ part 1 e ∷ part 2 e ∷ []

    cut_all : drawn_parts (request system t words) ≡ All (parts (t.m * t.k ∷ t.m * t.k ∷ t.m * t.k ∷ []) (rest_of t words))
    unfolding parts
    cut_all = drawn-parts (request system t words) ∙ rw drop-masks

    system-parts : drawn_parts (request system t words) ≡ All E
    system-parts = cut_all ∙ ap All squares

    -- the mask that is tested
    pub mask-part : {i : ℕ} → i ≡ words_read t.q N words → N ≤ length R
        → drawn t.q (t.m * t.m) (drop i words) ≡ part 3 (drawn_parts (request system t words))
    unfolding parts
    mask-part {i} e h = next_drawn t.q N words i e (t.m * t.m) h ∙ sym (ap (λ (ls : List (List ℕ)). part 3 ls) system-parts)

    first-is : first_masks system t words ++ more_first t words ≡ first_half_words (request system t words)
    unfolding first_masks xa more_first qg first_and_third first_half_words join
    first-is = rw system-parts (simp (append-nil, append_assoc))

    second_is : second_masks system t words ++ more_second t words ≡ second_half_words (request system t words)
    unfolding second_masks yb more_second rv second_half_words join dealt_b dealt_v
    second_is = rw system-parts (simp (append-nil, append_assoc))

-- a list behind a half's beginning
behind : (x y half d one : List ℕ) (at : ℕ) {two : List ℕ} → length x ≡ at → x ++ y ≡ half → one ≡ over x d → two ≡ written_at at y one → two ≡ over half d
behind x y half d one at n e f g = g ∙ (ap (written_at at y) f ∙ (over-then x y d at n ∙ ap (λ (l : List ℕ). over l d) e))

module _ {t : Terms} {words : List ℕ} {x y : ℕ} (r : Room system t words x y) where
  many : masks_count t.m t.k t.p ≤ length (residues_of t.q words)
  many = enough-masks system t.m t.k t.p r.enough

  at_first : length (first_masks system t words) ≡ matrix_at blinder t.m t.k t.p 2
  unfolding first_masks header_words matrix_at
  at_first = omega (arith, length-append (header_of system t) (xa t.q t.m t.k t.p words), xa-count _ _ _ _ words many)

  at_second : length (second_masks system t words) ≡ matrix_at solver t.m t.k t.p 2
  unfolding second_masks header_words matrix_at
  at_second = omega (arith, length-append (header_of system t) (yb t.q t.m t.k t.p words), yb-count _ _ _ _ words many)

  pub system-first : (first one : List ℕ) {two : List ℕ} → one ≡ over (first_masks system t words) first
      → two ≡ written_at (matrix_at blinder t.m t.k t.p 2) (more_first t words) one → two ≡ over (first_half_words (request system t words)) first
  system-first first one e f = behind _ _ _ first one _ at_first (first-is t words (square r.fits)) e f

  pub system-second : (second one : List ℕ) {two : List ℕ} → one ≡ over (second_masks system t words) second
      → two ≡ written_at (matrix_at solver t.m t.k t.p 2) (more_second t words) one → two ≡ over (second_half_words (request system t words)) second
  system-second second one e f = behind _ _ _ second one _ at_second (second_is t words (square r.fits)) e f

-- a product's halves are their beginnings
module _ {s : code.Sort} (t : Terms) (words : List ℕ) (e : s ≡ Product) where
  pub same_count : masks_count t.m t.k t.p ≡ draw_count (sort s) t.m t.k t.p
  unfolding draw_count
  same_count = rw e

  pub same_first : first_masks (sort s) t words ≡ first_half_words (request (sort s) t words)
  same_first = rw e (product-first t words)

  pub same_second : second_masks (sort s) t words ≡ second_half_words (request (sort s) t words)
  same_second = rw e (product-second t words)
