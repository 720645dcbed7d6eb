-- A number by its powers of ten.
--   upto_turn     one power lower: the digits above it, and its own
--   decimal-high  the digits of a number are those above the last one, and the last one
--   digits_between  how many digits a number has; length-le: a larger one has no fewer
-- Assumes nothing.
use Prim.Native.Nat.{ℕ, zero, suc, ◌+◌, ◌*◌, ◌/◌, ◌%◌, ◌^◌, ◌≤◌, ◌<◌}
use mathlib.Core.Path.{◌≡◌, refl, sym, ap, ◌∙◌}
use mathlib.Core.Bool.{cond}
use mathlib.Core.List.{List, [], ◌∷◌, ◌++◌, append_assoc}
use native.Mathlib.Omega.{arith}
use native.Mathlib.Nat.{pow-suc, pow-le-pow_right, div-div-eq-div-mul, div-lt_iff_lt-mul, le-div_iff_mul-le, mod-eq_of_lt, div-le_self}
use native.Mathlib.Decide.{dec_lt}
use lib.Dec.{ltb}
use native.Mathlib.Numerals.{add-one}
use lib.ListN.{length, get_or, set, length-append}
use lib.Seq.{sets}
use borrow.Author.Tests.{lt-ltb, le-ltb}
use Rattle.protocol.specs.Line.{decimal}
use Rattle.protocol.proofs.DecimalLaws.{decimal-small, decimal-large, by_digits, length-small, length-large, length-positive}
use Rattle.decimal.specs.Writing.{digit_at, high}
use Rattle.decimal.proofs.Stores.{sets_then}

-- a larger number has no fewer digits
pub length-le : (m n : ℕ) → m ≤ n → length (decimal m) ≤ length (decimal n)
length-le m n = by_digits (λ k. (j : ℕ) → j ≤ k → length (decimal j) ≤ length (decimal k)) small large n m
  where
    small : (k : ℕ) → k < 10 → (j : ℕ) → j ≤ k → length (decimal j) ≤ length (decimal k)
    small k h j l = omega (arith, length-small k h, length-small j (omega arith))

    large : (k : ℕ) → 10 ≤ k → ((j : ℕ) → j ≤ k / 10 → length (decimal j) ≤ length (decimal (k / 10))) → (j : ℕ) → j ≤ k → length (decimal j) ≤ length (decimal k)
    large k h again j l = by_size (dec_lt j 10)
      where
        by_size : Dec (j < 10) → length (decimal j) ≤ length (decimal k)
        by_size (yes s) = omega (arith, length-small j s, length-positive k)
        by_size (no s) = omega (arith, length-large j (omega arith), length-large k h, again (j / 10) (omega arith))

-- the digits of n from the power up: none where n doesn't reach it
unfoldable pub upto : ℕ → ℕ → List ℕ
upto n p = cond (ltb n p) [] (decimal (n / p))

pub upto_turn : (n p : ℕ) → 0 < p → upto n p ≡ upto n (p * 10) ++ digit_at n p
unfolding upto digit_at
upto_turn n p h = by-reach (dec_lt n p) (dec_lt n (p * 10))
  where
    by-reach : Dec (n < p) → Dec (n < p * 10) → upto n p ≡ upto n (p * 10) ++ digit_at n p
    by-reach (yes l) k = rw (lt-ltb n p l, lt-ltb n (p * 10) (omega arith))
    by-reach (no l) (yes k) =
        let small : n / p < 10 = (div-lt_iff_lt-mul h).1 (omega arith) in
        let own : n / p % 10 ≡ n / p = mod-eq_of_lt small in
        rw (le-ltb n p (omega arith), lt-ltb n (p * 10) k, own) (decimal-small (n / p) small)
    by-reach (no l) (no k) =
        let large : 10 ≤ n / p = (le-div_iff_mul-le h).1 (omega arith) in
        rw (le-ltb n p (omega arith), le-ltb n (p * 10) (omega arith))
        (decimal-large (n / p) large ∙ ap (λ (m : ℕ). decimal m ++ ((48 + n / p % 10) ∷ [])) (div-div-eq-div-mul n p 10))

pub upto-none : (n p : ℕ) → n < p → upto n p ≡ []
unfolding upto
upto-none n p h = rw (lt-ltb n p h)

pub upto-high : (n : ℕ) → upto n 10 ≡ high n
unfolding upto high
upto-high n = refl

pub upto-length : (n p : ℕ) → length (upto n p) ≤ length (decimal n)
unfolding upto
upto-length n p = by-reach (dec_lt n p)
  where
    by-reach : Dec (n < p) → length (upto n p) ≤ length (decimal n)
    by-reach (yes h) = rw (lt-ltb n p h) (omega arith)
    by-reach (no h) = rw (le-ltb n p (omega arith)) (length-le (n / p) n (div-le_self n p))

pub decimal-high : (n : ℕ) → decimal n ≡ high n ++ ((48 + n % 10) ∷ [])
unfolding high
decimal-high n = by_size (dec_lt n 10)
  where
    by_size : Dec (n < 10) → decimal n ≡ high n ++ ((48 + n % 10) ∷ [])
    by_size (yes h) = let e : n % 10 ≡ n = omega arith in rw (lt-ltb n 10 h, e) (decimal-small n h)
    by_size (no h) = let l : 10 ≤ n = omega arith in rw (le-ltb n 10 l) (decimal-large n l)

pub digits_between : (k n : ℕ) → 10 ^ k ≤ n → n < 10 ^ suc k → length (decimal n) ≡ suc k
digits_between zero n l h = length-small n (omega arith)
digits_between (suc k) n l h =
    let p : 10 ^ suc k ≡ 10 ^ k * 10 = pow-suc 10 k in
    let q : 10 ^ suc (suc k) ≡ 10 ^ suc k * 10 = pow-suc 10 (suc k) in
    let some : 1 ≤ 10 ^ k = pow-le-pow_right {n = 10} (omega arith) {i = 0} {j = k} (omega arith) in
    let again : length (decimal (n / 10)) ≡ suc k = digits_between k (n / 10) (omega (arith, p, q)) (omega (arith, p, q)) in
    length-large n (omega (arith, p, some)) ∙ omega (arith, again)

-- the powers of ten of the writer's table
abbrev pub powers : List ℕ
powers = 1000000000 ∷ 100000000 ∷ 10000000 ∷ 1000000 ∷ 100000 ∷ 10000 ∷ 1000 ∷ 100 ∷ 10 ∷ []

-- the power before the i-th of the table
unfoldable pub above : ℕ → ℕ
above i = get_or (10000000000 ∷ powers) i 0

pub table_step : (i : ℕ) → i < 9 → (above i ≡ get_or powers i 0 * 10) × (0 < get_or powers i 0) × (above (i + 1) ≡ get_or powers i 0)
unfolding above
table_step zero h = (refl, omega arith, refl)
table_step (suc zero) h = (refl, omega arith, refl)
table_step (suc (suc zero)) h = (refl, omega arith, refl)
table_step (suc (suc (suc zero))) h = (refl, omega arith, refl)
table_step (suc (suc (suc (suc zero)))) h = (refl, omega arith, refl)
table_step (suc (suc (suc (suc (suc zero))))) h = (refl, omega arith, refl)
table_step (suc (suc (suc (suc (suc (suc zero)))))) h = (refl, omega arith, refl)
table_step (suc (suc (suc (suc (suc (suc (suc zero))))))) h = (refl, omega arith, refl)
table_step (suc (suc (suc (suc (suc (suc (suc (suc zero)))))))) h = (refl, omega arith, refl)
table_step (suc (suc (suc (suc (suc (suc (suc (suc (suc i))))))))) h = absurd (omega arith)

-- one power of the table more
module _ (n i : ℕ) (h : i < 9) where
  pub power-turn : upto n (above (i + 1)) ≡ upto n (above i) ++ digit_at n (get_or powers i 0)
  power-turn =
      let t = table_step i h in
      ap (upto n) t.2 ∙ upto_turn n (get_or powers i 0) t.1 ∙ ap (λ (p : ℕ). upto n p ++ digit_at n (get_or powers i 0)) (sym t.0)

  pub power-length : length (upto n (above (i + 1))) ≡ length (upto n (above i)) + length (digit_at n (get_or powers i 0))
  power-length = ap length power-turn ∙ length-append (upto n (above i)) (digit_at n (get_or powers i 0))

  pub power-stored : (out : List ℕ) (at p : ℕ) → p ≡ at + length (upto n (above i))
      → sets (sets out at (upto n (above i))) p (digit_at n (get_or powers i 0)) ≡ sets out at (upto n (above (i + 1)))
  power-stored out at p e = sets_then out at (upto n (above i)) (digit_at n (get_or powers i 0)) p e ∙ ap (sets out at) (sym power-turn)

-- the last digit and the byte that ends the number
pub number-stored : (out : List ℕ) (at n last p : ℕ) → p + 1 ≡ at + length (decimal n)
    → set (set (sets out at (high n)) p (48 + n % 10)) (p + 1) last ≡ sets out at (decimal n ++ (last ∷ []))
number-stored out at n last p e =
    let k : p ≡ at + length (high n) = omega (arith, ap length (decimal-high n), length-append (high n) ((48 + n % 10) ∷ [])) in
    rw add-one
    (sets_then out at (high n) ((48 + n % 10) ∷ last ∷ []) p k
    ∙ ap (sets out at) (sym (append_assoc (high n) ((48 + n % 10) ∷ []) (last ∷ [])) ∙ ap (λ (l : List ℕ). l ++ (last ∷ [])) (sym (decimal-high n))))
