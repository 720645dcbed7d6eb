-- The lines of a run of bytes, by positions, and the numbers that were read of them.
--   first-found, first-whole               a line by where its byte 10 stands
--   first_ends, first_goes, first-none, first_fits   a line byte by byte
--   line-next, line-part   from a line to the next, and a line as a part of the bytes
--   holds        the words that a line was read into
--   said         what the definition says of the five lines
-- Assumes nothing.
use Prim.Native.Nat.{ℕ, suc, ◌+◌, ◌-◌, ◌*◌, ◌≤◌, ◌<◌}
use mathlib.Core.Path.{◌≡◌, refl, sym, ap, ◌∙◌}
use mathlib.Core.Bool.{Bool, true, false, cond}
use mathlib.Core.List.{List, [], ◌∷◌}
use mathlib.Core.Option.{Option as Maybe, some, none}
use Rattle.std.specs.Prelude.{Option, Some, None}
use Rattle.std.specs.List.{position, position_from}
use Rattle.std.proofs.lemmas.Iterator.Adapters.{position_from-zero}
use native.Mathlib.Omega.{arith}
use native.Mathlib.Numerals.{add-one}
use lib.Dec.{eqb}
use lib.ListN.{length, get_or, take, drop, length-append, length-drop, drop_of_length-le}
use lib.Seq.{drop-cons, drop-drop, sets-eq, take_at, length-sets, take_all}
use borrow.Author.Tests.{eq-eqb, ne_eqb, eqb-true, eqb-false, leb-true}
use Rattle.algebra.specs.Count.{both}
use Rattle.algebra.proofs.Tests.{and_right}
use Rattle.protocol.specs.declared.Refusal.TheVariants.{Form}
use Rattle.protocol.specs.Judge.{refused, needs, clear, judge, judge_by, Test}
use Rattle.protocol.specs.Bounds.{within}
use Rattle.protocol.specs.Line.{decimal, end_byte, line, numbers, numbers_of}
use Rattle.protocol.specs.declared.Numeral.TheVariants.{Empty}
use Rattle.protocol.specs.Rehearsal.{Input, first_line, line_at, terms_from, rehearsal_tests, run, call_tests, printed, rehearse}
use Rattle.protocol.proofs.Judge.{accepts, accepted-first}
use Rattle.protocol.proofs.RehearsalLowest.{rehearsal-lowest}
use Rattle.protocol.proofs.LineRoundTrip.{line-was-written}
use Rattle.protocol.proofs.DecimalLaws.{length-positive}
use Rattle.decimal.specs.Reading.{Stored, Tallied}
use Rattle.rehearse_lines.specs.Says.{Holds, counts_of, Says}

-- ---- a line by where its byte 10 stands

abbrev pub ends : ℕ → Bool
ends b = eqb b 10

-- k bytes stand in front
found-from : (l : List ℕ) (k i : ℕ) → position_from ends k l ≡ Some i → k + length (first_line l) ≡ i + 1
unfolding first_line
found-from [] k i e = cc
found-from (b ∷ l) k i e = go (eqb b 10) (λ f. found-from l (k + 1) i f) e
  where
    go : (t : Bool) → (position_from ends (k + 1) l ≡ Some i → k + 1 + length (first_line l) ≡ i + 1)
        → cond t (Some k) (position_from ends (k + 1) l) ≡ Some i → k + suc (length (cond t [] (first_line l))) ≡ i + 1
    go true again f = let same : k ≡ i = cc f in omega arith
    go false again f = omega (arith, again f)

whole-from : (l : List ℕ) (k : ℕ) → position_from ends k l ≡ None → length (first_line l) ≡ length l
unfolding first_line
whole-from [] k e = refl
whole-from (b ∷ l) k e = go (eqb b 10) (λ f. whole-from l (k + 1) f) e
  where
    go : (t : Bool) → (position_from ends (k + 1) l ≡ None → length (first_line l) ≡ length l)
        → cond t (Some k) (position_from ends (k + 1) l) ≡ None → suc (length (cond t [] (first_line l))) ≡ suc (length l)
    go true again f = cc
    go false again f = omega (arith, again f)

pub first-found : (l : List ℕ) (i : ℕ) → position ends l ≡ Some i → length (first_line l) ≡ i + 1
first-found l i e = omega (arith, found-from l 0 i (sym (position_from-zero ends l) ∙ e))

pub first-whole : (l : List ℕ) → position ends l ≡ None → length (first_line l) ≡ length l
first-whole l e = whole-from l 0 (sym (position_from-zero ends l) ∙ e)

-- ---- a line, byte by byte

module _ (s : List ℕ) (i : ℕ) where
  pub first_ends : i < length s → get_or s i 0 ≡ 10 → length (first_line (drop i s)) ≡ 1
  unfolding first_line
  first_ends h e = rw (drop-cons s i 0 h, eq-eqb (get_or s i 0) 10 e)

  pub first_goes : i < length s → (get_or s i 0 ≡ 10 → ⊥) → length (first_line (drop i s)) ≡ suc (length (first_line (drop (i + 1) s)))
  unfolding first_line
  first_goes h e = rw (drop-cons s i 0 h, ne_eqb (get_or s i 0) 10 e, add-one)

  pub first-none : length s ≤ i → length (first_line (drop i s)) ≡ 0
  unfolding first_line
  first-none h = rw (drop_of_length-le s h)

first_short : (l : List ℕ) → length (first_line l) ≤ length l
unfolding first_line
first_short [] = omega arith
first_short (b ∷ l) = go (eqb b 10) (first_short l)
  where
    go : (e : Bool) → length (first_line l) ≤ length l → suc (length (cond e [] (first_line l))) ≤ suc (length l)
    go true h = omega arith
    go false h = omega arith

pub first_fits : (s : List ℕ) (at : ℕ) → at ≤ length s → at + length (first_line (drop at s)) ≤ length s
first_fits s at h = omega (arith, first_short (drop at s), length-drop at s)

-- ---- from a line to the next, and a line as a part of the bytes

pub line-next : (s : List ℕ) (k at : ℕ) → line_at (suc k) (drop at s) ≡ line_at k (drop (at + length (first_line (drop at s))) s)
unfolding line_at
line-next s k at = ap (line_at k) (drop-drop (length (first_line (drop at s))) at s)

pub line-zero : (l : List ℕ) → line_at 0 l ≡ first_line l
unfolding line_at
line-zero l = refl

first-front : (l : List ℕ) → take (length (first_line l)) l ≡ first_line l
unfolding first_line
first-front [] = refl
first-front (b ∷ l) = go (eqb b 10) (first-front l)
  where
    go : (e : Bool) → take (length (first_line l)) l ≡ first_line l → take (suc (length (cond e [] (first_line l)))) (b ∷ l) ≡ b ∷ cond e [] (first_line l)
    go true h = refl
    go false h = ap (λ (x : List ℕ). b ∷ x) h

pub line-part : (s : List ℕ) (n at end : ℕ) → line_at n s ≡ first_line (drop at s) → end ≡ at + length (first_line (drop at s))
    → take (end - at) (drop at s) ≡ line_at n s
line-part s n at end e f =
    let k : end - at ≡ length (first_line (drop at s)) = omega arith in
    rw k (first-front (drop at s) ∙ sym e)

-- ---- the words that a line was read into

line-long : (xs : List ℕ) → 2 * length xs ≤ length (line xs)
line-long [] = omega arith
line-long (x ∷ xs) = omega (arith, length-append (decimal x) (end_byte (length xs) ∷ line xs), length-positive x, line-long xs)

within-most : (n : ℕ) → within 1 65536 n ≡ true → n ≤ 65536
unfolding within
within-most n e = leb-true n 65536 (and_right _ _ e)

read_short : (l xs : List ℕ) → numbers_of l ≡ some xs → length l ≤ 65536
unfolding numbers_of
read_short l xs e = go (within 1 65536 (length l)) refl e
  where
    go : (b : Bool) → within 1 65536 (length l) ≡ b → cond b (numbers Empty l) none ≡ some xs → length l ≤ 65536
    go true w f = within-most (length l) w
    go false w f = absurd (let z : ◌≡◌ {A = ℕ} 0 1 = cc in omega arith)

pub holds : (l : List ℕ) (n : ℕ) (before after : List ℕ) (t : Stored (numbers_of l) n before after) → Holds t.values n after
holds l n before after t = record {
  count = t.count;
  few = omega (arith, read_short l t.values t.reads, line-long t.values, ap length (line-was-written l t.values t.reads).0, t.count);
  held = λ h. held h;
}
  where
    held : n ≤ length after → take n after ≡ t.values
    held h =
        let room : 0 + length t.values ≤ length before = omega (arith, t.count, ap length t.stores, length-sets before 0 t.values) in
        ap (take n) (t.stores ∙ sets-eq t.values before 0 room) ∙ take_at t.values _ n (sym t.count)

-- the words are the numbers where they are as many
pub held_all : (values words : List ℕ) (n : ℕ) → Holds values n words → n ≡ length words → words ≡ values
held_all values words n h e = sym (take_all n words (omega arith)) ∙ h.held (omega arith)

-- ---- what the definition says

form-passed : {A : Type 0} (ts : List Test) (a : A) {h : Bool} → h ≡ true → judge (needs Form h ∷ ts) a ≡ judge ts a
form-passed ts a {h} e = accepted-first (needs Form h ∷ []) ts one a (accepts (needs Form h ∷ []) one (e, tt))
  where
    one : Unit {0}
    one = tt

form-fails : {A : Type 0} (ts : List Test) (a : A) → judge (needs Form false ∷ ts) a ≡ refused Form
unfolding judge judge_by clear both
form-fails ts a = refl

module _ (s : List ℕ) where
  abbrev at : ℕ → Maybe (List ℕ)
  at n = numbers_of (line_at n s)

  abbrev all : Type 0
  all = rehearse s ≡ printed (refused Form)

  wrong-0 : at 0 ≡ none → all
  unfolding rehearse
  wrong-0 e = rw e

  wrong-1 : (f : List ℕ) → at 0 ≡ some f → at 1 ≡ none → all
  unfolding rehearse
  wrong-1 f a e = rw (a, e)

  wrong-2 : (f x : List ℕ) → at 0 ≡ some f → at 1 ≡ some x → at 2 ≡ none → all
  unfolding rehearse
  wrong-2 f x a b e = rw (a, b, e)

  wrong-3 : (f x y : List ℕ) → at 0 ≡ some f → at 1 ≡ some x → at 2 ≡ some y → at 3 ≡ none → all
  unfolding rehearse
  wrong-3 f x y a b c e = rw (a, b, c, e)

  wrong-4 : (f x y d : List ℕ) → at 0 ≡ some f → at 1 ≡ some x → at 2 ≡ some y → at 3 ≡ some d → at 4 ≡ none → all
  unfolding rehearse
  wrong-4 f x y d a b c g e = rw (a, b, c, g, e)

  module _ (f x y d l : List ℕ) (a : at 0 ≡ some f) (b : at 1 ≡ some x) (c : at 2 ≡ some y) (g : at 3 ≡ some d) (k : at 4 ≡ some l) where
    abbrev input : Input
    input = record { terms = terms_from f; x = x; y = y; dealer_words = d; left_words = l }

    whole : rehearse s ≡ printed (judge (needs Form (eqb (length f) 6) ∷ call_tests input) (run input))
    unfolding rehearse
    whole = rw (a, b, c, g, k)

    six : length f ≡ 6 → rehearse s ≡ printed (judge (rehearsal_tests input) (run input))
    six h = whole ∙ ap printed (form-passed (call_tests input) (run input) (eq-eqb (length f) 6 h) ∙ sym (rehearsal-lowest input (run input)))

    not-six : (length f ≡ 6 → ⊥) → all
    not-six h =
        whole
        ∙ ap (λ (z : Bool). printed (judge (needs Form z ∷ call_tests input) (run input))) (ne_eqb (length f) 6 h)
        ∙ ap printed (form-fails (call_tests input) (run input))

  -- from what each line was read into
  pub said : (f₀ f x₀ x y₀ y d₀ d l₀ l : List ℕ) (tf tx ty td tl : Option ℕ) → length f₀ ≡ 6
      → Tallied (at 0) f₀ f tf → Tallied (at 1) x₀ x tx → Tallied (at 2) y₀ y ty → Tallied (at 3) d₀ d td → Tallied (at 4) l₀ l tl
      → Says s f x y d l (counts_of tf tx ty td tl)
  said f₀ f x₀ x y₀ y d₀ d l₀ l None tx ty td tl six a b c g k = wrong-0 a
  said f₀ f x₀ x y₀ y d₀ d l₀ l (Some n) None ty td tl six a b c g k = wrong-1 a.values a.reads b
  said f₀ f x₀ x y₀ y d₀ d l₀ l (Some n) (Some nx) None td tl six a b c g k = wrong-2 a.values b.values a.reads b.reads c
  said f₀ f x₀ x y₀ y d₀ d l₀ l (Some n) (Some nx) (Some ny) None tl six a b c g k =
      wrong-3 a.values b.values c.values a.reads b.reads c.reads g
  said f₀ f x₀ x y₀ y d₀ d l₀ l (Some n) (Some nx) (Some ny) (Some nd) None six a b c g k =
      wrong-4 a.values b.values c.values g.values a.reads b.reads c.reads g.reads k
  said f₀ f x₀ x y₀ y d₀ d l₀ l (Some n) (Some nx) (Some ny) (Some nd) (Some nl) full a b c g k = go (eqb n 6) refl
    where
      go : (z : Bool) → eqb n 6 ≡ z → Says s f x y d l (cond z (Some (record { x = nx; y = ny; dealer = nd; left = nl })) None)
      go true e = record {
        input = input a.values b.values c.values g.values k.values a.reads b.reads c.reads g.reads k.reads;
        prints = six a.values b.values c.values g.values k.values a.reads b.reads c.reads g.reads k.reads (sym a.count ∙ eqb-true n 6 e);
        terms = ap terms_from (sym (held_all a.values f n (holds (line_at 0 s) n f₀ f a) (eqb-true n 6 e ∙ sym (ap length a.stores ∙ length-sets f₀ 0 a.values ∙ full))));
        in-x = holds (line_at 1 s) nx x₀ x b;
        in-y = holds (line_at 2 s) ny y₀ y c;
        in-dealer = holds (line_at 3 s) nd d₀ d g;
        in_left = holds (line_at 4 s) nl l₀ l k;
      }
      go false e =
          not-six a.values b.values c.values g.values k.values a.reads b.reads c.reads g.reads k.reads (λ h. eqb-false n 6 e (a.count ∙ h))
