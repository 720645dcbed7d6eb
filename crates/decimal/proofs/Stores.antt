-- Numbers stored as bytes, one after the other.
--   sets-append    two runs of stores make one
--   part-turn      one number of a run, with the byte that ends it
--   line-append    a line in two runs
-- Assumes nothing.
use Prim.Native.Nat.{ℕ, suc, ◌+◌, ◌*◌, ◌-◌, ◌^◌, ◌≤◌, ◌<◌}
use mathlib.Core.Path.{◌≡◌, refl, sym, ap, ◌∙◌}
use mathlib.Core.List.{List, [], ◌∷◌, ◌++◌, append_assoc}
use native.Mathlib.Omega.{arith}
use native.Mathlib.Nat.{add-zero}
use native.Mathlib.Numerals.{add-one}
use lib.ListN.{length, get_or, set, drop, length-append, length-drop, drop_of_length-le}
use lib.Seq.{sets, drop-cons}
use Rattle.protocol.specs.Line.{decimal, end_byte, line}
use Rattle.protocol.proofs.MessageRoundTrip.{few-digits}
use Rattle.std.specs.List.{sum_by, All}
use Rattle.std.proofs.lemmas.List.Sums.{sum_by-cons, sum_by-le}
use Rattle.std.proofs.lemmas.List.Elements.{All-from_get_or}
use Rattle.decimal.specs.Writing.{line_before}

pub sets-append : (l : List ℕ) (i : ℕ) (xs ys : List ℕ) → sets l i (xs ++ ys) ≡ sets (sets l i xs) (i + length xs) ys
sets-append l i [] ys = rw add-zero
sets-append l i (x ∷ xs) ys = sets-append (set l i x) (suc i) xs ys ∙ ap (λ (k : ℕ). sets (sets (set l i x) (suc i) xs) k ys) (omega arith)

-- the same where the second run's place is known by an equation
pub sets_then : (l : List ℕ) (i : ℕ) (xs ys : List ℕ) (k : ℕ) → k ≡ i + length xs → sets (sets l i xs) k ys ≡ sets l i (xs ++ ys)
sets_then l i xs ys k e = ap (λ (j : ℕ). sets (sets l i xs) j ys) e ∙ sym (sets-append l i xs ys)

-- ---- how many bytes

-- of one number, with the byte that ends it
abbrev pub field-bytes : ℕ → ℕ
field-bytes x = length (decimal x) + 1

pub line-sum : (xs : List ℕ) → sum_by field-bytes xs ≡ length (line xs)
line-sum [] = refl
line-sum (x ∷ xs) =
    sum_by-cons field-bytes x xs ∙ ap (λ (n : ℕ). length (decimal x) + 1 + n) (line-sum xs)
    ∙ sym (length-append (decimal x) (end_byte (length xs) ∷ line xs) ∙ omega arith)

-- numbers of 32 bits have ten digits at most
pub line-few : (xs : List ℕ) → ((i : ℕ) → get_or xs i 0 < 2 ^ 32) → sum_by field-bytes xs ≤ 11 * length xs
line-few xs h =
    let each : All (λ x. field-bytes x ≤ 11) xs = All-from_get_or (λ x. field-bytes x ≤ 11) xs 0 (λ i k. omega (arith, few-digits (get_or xs i 0) (h i))) in
    omega (arith, sum_by-le field-bytes 11 xs each)

-- ---- a run of numbers on a line

before-step : (m : ℕ) (xs : List ℕ) (j : ℕ) → j < length xs → line_before m (drop j xs) ≡ decimal (get_or xs j 0)
    ++ (end_byte (length xs - (j + 1) + m) ∷ line_before m (drop (j + 1) xs))
before-step m xs j h = rw (add-one, drop-cons xs j 0 h, length-drop)

pub before-none : (m : ℕ) (xs : List ℕ) (j : ℕ) → length xs ≤ j → line_before m (drop j xs) ≡ []
before-none m xs j h = rw (drop_of_length-le xs h)

pub before-length-step : (m : ℕ) (xs : List ℕ) (j : ℕ) → j < length xs
    → length (line_before m (drop j xs)) ≡ length (decimal (get_or xs j 0)) + 1 + length (line_before m (drop (j + 1) xs))
before-length-step m xs j h = ap length (before-step m xs j h) ∙ simp length-append (omega arith)

-- a number, stored with its last byte, and what comes behind it
sets-field : (out : List ℕ) (p : ℕ) (d : List ℕ) (e : ℕ) (rest : List ℕ) → sets (sets out p (d ++ (e ∷ []))) (p + length d + 1) rest ≡ sets out p (d ++ (e ∷ rest))
sets-field out p d e rest =
    sets_then out p (d ++ (e ∷ [])) rest (p + length d + 1) (omega (arith, length-append d (e ∷ []))) ∙ ap (sets out p) (append_assoc d (e ∷ []) rest)

pub part-turn : (m : ℕ) (out xs : List ℕ) (p j e : ℕ) → j < length xs → e ≡ end_byte (length xs - (j + 1) + m)
    → sets (sets out p (decimal (get_or xs j 0) ++ (e ∷ []))) (p + length (decimal (get_or xs j 0)) + 1) (line_before m (drop (j + 1) xs)) ≡ sets out p (line_before m (drop j xs))
part-turn m out xs p j e h q =
    sets-field out p (decimal (get_or xs j 0)) e (line_before m (drop (j + 1) xs))
    ∙ ap (sets out p) (ap (λ (b : ℕ). decimal (get_or xs j 0) ++ (b ∷ line_before m (drop (j + 1) xs))) q ∙ sym (before-step m xs j h))

-- ---- a line in two runs

pub before-all : (xs : List ℕ) → line_before 0 xs ≡ line xs
before-all [] = refl
before-all (x ∷ xs) = rw (add-zero, before-all xs)

pub line-append : (xs ys : List ℕ) → line (xs ++ ys) ≡ line_before (length ys) xs ++ line ys
line-append [] ys = refl
line-append (x ∷ xs) ys = rw (length-append xs ys, line-append xs ys) (sym (append_assoc (decimal x) (end_byte (length xs + length ys) ∷ line_before (length ys) xs) (line ys)))

pub before-length : (m : ℕ) (xs : List ℕ) → length (line_before m xs) ≡ length (line xs)
before-length m [] = refl
before-length m (x ∷ xs) = simp (length-append, before-length m xs)
