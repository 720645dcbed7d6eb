-- One byte of a line: it ends a number, it belongs to one, or it spoils the line.
--   spell-end, spell-byte, spell-none   what a byte at a position makes of the numbers
--   no_number, needs-end                      bytes that spoil the line
-- Assumes nothing.
use Prim.Native.Nat.{ℕ, suc, ◌+◌, ◌-◌, ◌≤◌, ◌<◌}
use mathlib.Core.Path.{◌≡◌, refl, sym, ap, ◌∙◌}
use mathlib.Core.Bool.{Bool, true, false, cond}
use mathlib.Core.List.{List, [], ◌∷◌}
use mathlib.Core.Option.{none}
use mathlib.Core.Logic.{◌⊎◌, ⊎_elim}
use native.Mathlib.Omega.{arith}
use native.Mathlib.Numerals.{add-one, unary_clauses}
use lib.Dec.{eqb}
use lib.ListN.{length, get_or, drop, length-drop, drop_of_length-le}
use lib.Seq.{drop-cons}
use borrow.Author.Tests.{eq-eqb, ne_eqb, lt-ltb, le-ltb, lt-leb, le-leb}
use Rattle.protocol.specs.declared.Numeral.{Numeral}
use Rattle.protocol.specs.declared.Numeral.TheVariants.{Empty, Value, Wrong}
use Rattle.protocol.specs.Line.{with_byte, end_byte, ended, end_number, numbers, numbers_of}
use Rattle.algebra.specs.Count.{both}
use Rattle.protocol.specs.Bounds.{within}
use Rattle.protocol.proofs.DecimalLaws.{grown, Grown, wrong_stays}
use Rattle.decimal.specs.Reading.{Spelled, fault, spell_end, end_spelled, spell}

-- behind a wrong byte nothing is read
pub spell-wrong : (bs : List ℕ) → spell Wrong bs ≡ fault
spell-wrong [] = refl
spell-wrong (b ∷ bs) = go (eqb b (end_byte (length bs))) (spell-wrong bs)
  where
    go : (t : Bool) → spell Wrong bs ≡ fault → cond t (end_spelled Wrong (spell (cond t Empty (with_byte Wrong b)) bs)) (spell (cond t Empty (with_byte Wrong b)) bs) ≡ fault
    go true e = refl
    go false e = rw (wrong_stays b) e

left_behind : (s : List ℕ) (i : ℕ) → length (drop (suc i) s) ≡ length s - (i + 1)
left_behind s i = simp (length-drop, ← add-one)

pub spell-end : (f : Numeral) (s : List ℕ) (i : ℕ) → i < length s → get_or s i 0 ≡ end_byte (length s - (i + 1)) → spell f (drop i s) ≡ end_spelled f (spell Empty (drop (i + 1) s))
spell-end f s i h e =
    let t : eqb (get_or s i 0) (end_byte (length (drop (suc i) s))) ≡ true = eq-eqb _ _ (e ∙ ap end_byte (sym (left_behind s i))) in
    rw (add-one, drop-cons s i 0 h, t)

pub spell-byte : (f : Numeral) (s : List ℕ) (i : ℕ) → i < length s → (get_or s i 0 ≡ end_byte (length s - (i + 1)) → ⊥)
    → spell f (drop i s) ≡ spell (with_byte f (get_or s i 0)) (drop (i + 1) s)
spell-byte f s i h e =
    let t : eqb (get_or s i 0) (end_byte (length (drop (suc i) s))) ≡ false = ne_eqb _ _ (λ p. e (p ∙ ap end_byte (left_behind s i))) in
    rw (add-one, drop-cons s i 0 h, t)

pub spell-none : (f : Numeral) (s : List ℕ) (i : ℕ) → length s ≤ i → spell f (drop i s) ≡ spell_end f
spell-none f s i h = rw (drop_of_length-le s h)

-- ---- bytes that are no digits

-- b is no digit
abbrev pub NoDigit : ℕ → Type 0
NoDigit b = (b < 48) ⊎ (57 < b)

pub not_taken : (f : Numeral) (b : ℕ) → NoDigit b → with_byte f b ≡ Wrong
not_taken f b = ⊎_elim (λ h. rw (lt-ltb b 48 h)) (λ h. let l : 48 ≤ b = omega arith in rw (le-ltb b 48 l, lt-ltb 57 b h))

-- where f with the byte is wrong, and the byte isn't the one that ends a number, the line is wrong
pub spoils : (f : Numeral) (s : List ℕ) (i : ℕ) → i < length s → with_byte f (get_or s i 0) ≡ Wrong → (get_or s i 0 ≡ end_byte (length s - (i + 1)) → ⊥) → spell f (drop i s) ≡ fault
spoils f s i h e n = spell-byte f s i h n ∙ ap (λ (g : Numeral). spell g (drop (i + 1) s)) e ∙ spell-wrong (drop (i + 1) s)

-- a number begins with a digit
pub no_number : (s : List ℕ) (i : ℕ) → i < length s → NoDigit (get_or s i 0) → spell Empty (drop i s) ≡ fault
no_number s i h d = go (spell Empty (drop (i + 1) s)) (eqb (get_or s i 0) (end_byte (length (drop (suc i) s)))) refl
  where
    go : (r : Spelled) (t : Bool) → eqb (get_or s i 0) (end_byte (length (drop (suc i) s))) ≡ t → spell Empty (drop i s) ≡ fault
    go r true e = rw (drop-cons s i 0 h, e)
    go r false e = rw (drop-cons s i 0 h, e, not_taken Empty (get_or s i 0) d) (spell-wrong (drop (suc i) s))

-- ---- the last byte

with_byte-goes-on : (f : Numeral) (b : ℕ) → ended (with_byte f b) ≡ none
with_byte-goes-on f b = go (with_byte f b) (grown f b)
  where
    go : (g : Numeral) → Grown f b g → ended g ≡ none
    go Empty G = absurd G
    go (Value v) G = refl
    go Wrong G = refl

end_number-none : (f : Numeral) → end_number f none ≡ none
end_number-none Empty = refl
end_number-none (Value v) = refl
end_number-none Wrong = refl

-- a line that byte 10 doesn't end has no numbers
pub needs-end : (f : Numeral) (s : List ℕ) → 0 < length s → (get_or s (length s - 1) 0 ≡ 10 → ⊥) → numbers f s ≡ none
needs-end f [] h e = absurd (omega arith)
needs-end f (b ∷ []) h e = rw (ne_eqb b 10 e) (with_byte-goes-on f b)
needs-end f (b ∷ a ∷ s) h e = go (eqb b 44) (λ g. needs-end g (a ∷ s) (omega arith) same)
  where
    same : get_or (a ∷ s) (length (a ∷ s) - 1) 0 ≡ 10 → ⊥
    same p = e ((simp unary_clauses) ∙ (simp unary_clauses at p))

    go : (t : Bool) → ((g : Numeral) → numbers g (a ∷ s) ≡ none)
        → cond t (end_number f (numbers (cond t Empty (with_byte f b)) (a ∷ s))) (numbers (cond t Empty (with_byte f b)) (a ∷ s)) ≡ none
    go true again = ap (end_number f) (again Empty) ∙ end_number-none f
    go false again = again (with_byte f b)

-- ---- whole lines: 1 to 65,536 bytes

pub whole-none : (s : List ℕ) → (length s < 1) ⊎ (65536 < length s) → numbers_of s ≡ none
unfolding numbers_of within both
whole-none s = ⊎_elim (λ h. rw (lt-leb 1 (length s) h)) (λ h. let l : 1 ≤ length s = omega arith in rw (le-leb 1 (length s) l, lt-leb (length s) 65536 h))

pub whole : (s : List ℕ) → 0 < length s → length s ≤ 65536 → numbers_of s ≡ numbers Empty s
unfolding numbers_of within both
whole s l h = rw (le-leb 1 (length s) l, le-leb (length s) 65536 h)
