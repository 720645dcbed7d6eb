-- Tests: what `both`, `eq_list` and `bit` say.
--   and_left and_right and_both       both pass, each passes
--   eq_list-eq eq_list-of               lists are the same
--   is_false same_test                a test that does not pass; two tests that pass together
use mathlib.Core.Path.{◌≡◌, refl, sym, ap, ap₂}
use mathlib.Core.Bool.{Bool, true, false, false≢true}
use mathlib.Core.List.{List, [], ◌∷◌}
use Prim.Native.Nat.{ℕ, ◌<◌}
use native.Mathlib.Omega.{arith}
use lib.Dec.{eqb}
use borrow.Author.Tests.{eqb-true, eq-eqb}
use Rattle.algebra.specs.Count.{bit, both, eq_list}

pub and_left : (a b : Bool) → both a b ≡ true → a ≡ true
unfolding both
and_left true b e = refl
and_left false b e = e

pub and_right : (a b : Bool) → both a b ≡ true → b ≡ true
unfolding both
and_right true b e = e
and_right false b e = absurd (false≢true e)

pub and_both : {a b : Bool} → a ≡ true → b ≡ true → both a b ≡ true
unfolding both
and_both {a} {b} ha hb = rw (ha, hb)

pub is_false : (b : Bool) → ((b ≡ true) → ⊥) → b ≡ false
is_false true d = absurd (d refl)
is_false false d = refl

pub same_test : (a b : Bool) → (a ≡ true → b ≡ true) → (b ≡ true → a ≡ true) → a ≡ b
same_test true b f g = sym (f refl)
same_test false true f g = g refl
same_test false false f g = refl

pub bit-true : (b : Bool) → 0 < bit b → b ≡ true
bit-true true h = refl
bit-true false h = absurd (omega arith)

pub bit-false : (b : Bool) → ((b ≡ true) → ⊥) → bit b ≡ 0
bit-false b h = ap bit (is_false b h)

pub eq_list-eq : (a b : List ℕ) → eq_list a b ≡ true → a ≡ b
unfolding eq_list
eq_list-eq [] [] h = refl
eq_list-eq [] (y ∷ ys) h = absurd (false≢true h)
eq_list-eq (x ∷ xs) [] h = absurd (false≢true h)
eq_list-eq (x ∷ xs) (y ∷ ys) h =
    ap₂ (λ c l. c ∷ l) (eqb-true x y (and_left (eqb x y) (eq_list xs ys) h)) (eq_list-eq xs ys (and_right (eqb x y) (eq_list xs ys) h))

eq_list-refl : (a : List ℕ) → eq_list a a ≡ true
unfolding eq_list
eq_list-refl [] = refl
eq_list-refl (x ∷ xs) = and_both (eq-eqb x x refl) (eq_list-refl xs)

pub eq_list-of : {a b : List ℕ} → a ≡ b → eq_list a b ≡ true
eq_list-of {a} {b} e = rw e (eq_list-refl b)
