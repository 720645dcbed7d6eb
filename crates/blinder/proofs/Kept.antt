-- Arrays that hold a vector or a matrix at their start, and the sizes that a system's sides bound.
--   zero-array, kept-array   an array of zeros, and one that a list was copied into
--   side-bound .. wide_enough, scratch-sum   the sizes
--   p-stands, u0-stands, p-length, u0-length   P and U0, as parts of the scratch
-- Assumes nothing.
use mathlib.Core.Path.{◌≡◌, refl, ap, ◌∙◌}
use mathlib.Core.Bool.{true}
use mathlib.Core.List.{List, [], ◌∷◌}
use Prim.Native.Nat.{ℕ, zero, suc, ◌+◌, ◌-◌, ◌*◌, ◌≤◌, ◌<◌}
use native.Mathlib.Nat.{mul-le-mul}
use native.Mathlib.Omega.{arith}
use lib.ListN.{length, get_or, replicate, take, drop, length-drop}
use lib.Seq.{length-take-le}
use Rattle.algebra.specs.Count.{part, parts}
use Rattle.algebra.specs.Matrix.{tabulate, zeros}
use Rattle.algebra.specs.Words.{over}
use Rattle.protocol.specs.declared.Terms.{Terms}
use Rattle.protocol.specs.Bounds.{sides_fit, system, columns}
use Rattle.protocol.specs.System.{padded, side_size, scratch_size, scratch_parts}
use Rattle.vectors.specs.Fill.{first_words}
use Rattle.blinder.specs.Second.{Small}
use Rattle.tape.proofs.Sides.{unknowns}

pub zero-array : (n : ℕ) → replicate n 0 ≡ zeros n
unfolding zeros tabulate
zero-array zero = refl
zero-array (suc n) = ap {B = List ℕ} (λ r. 0 ∷ r) (zero-array n)

whole-list : (l : List ℕ) → tabulate (length l) (λ e. get_or l e 0) ≡ l
unfolding tabulate
whole-list [] = refl
whole-list (x ∷ l) = ap {B = List ℕ} (λ r. x ∷ r) (whole-list l)

pub kept-array : (n : ℕ) (l kept : List ℕ) → kept ≡ over (first_words (length l) l) (replicate n 0) → kept ≡ padded n l
unfolding padded first_words
kept-array n l kept e = e ∙ rw (whole-list l, zero-array n)

module _ (t : Terms) (fits : sides_fit system t.m t.k t.p ≡ true) where
  pub side-is : t.m * (t.p - t.m) ≡ side_size t
  unfolding side_size columns
  side-is = refl

  pub side-bound : side_size t ≤ 16
  unfolding side_size columns
  side-bound =
      let u = unknowns t.m t.k t.p fits in
      let one : t.p - t.m ≤ 1 = omega (arith, u.least, u.most, u.some) in
      mul-le-mul {n₁ = t.m} {m₁ = t.p - t.m} {n₂ = 16} {m₂ = 1} u.few one

  pub square-bound : t.m * t.m ≤ 256
  square-bound = let u = unknowns t.m t.k t.p fits in mul-le-mul {n₁ = t.m} {m₁ = t.m} {n₂ = 16} {m₂ = 16} u.few u.few

  pub wide-bound : t.m * t.p ≤ 272
  wide-bound =
      let u = unknowns t.m t.k t.p fits in
      let p : t.p ≤ 17 = omega (arith, u.least, u.most, u.some, u.few) in
      mul-le-mul {n₁ = t.m} {m₁ = t.p} {n₂ = 16} {m₂ = 17} u.few p

  -- k is m
  pub square-is : t.m * t.k ≡ t.m * t.m
  square-is = ap (λ (k : ℕ). t.m * k) (unknowns t.m t.k t.p fits).square

  -- p is n and the right-hand sides' columns
  pub wide_is : t.m + (t.p - t.m) ≡ t.p
  wide_is = let u = unknowns t.m t.k t.p fits in omega (arith, u.least, u.most, u.some)

  pub wide_enough : t.m ≤ t.p
  wide_enough = let u = unknowns t.m t.k t.p fits in omega (arith, u.least, u.most, u.some)

  pub small : 0 < t.q → t.q < 2147483648 → Small t.q t.m (t.p - t.m)
  small some few =
      let u = unknowns t.m t.k t.p fits in
      record {
        some-q = some;
        small-q = few;
        few-n = u.few;
        few-rhs = omega (arith, u.most);
        square = square-bound;
        side = omega (arith, side-is, side-bound);
      }

pub scratch-sum : (t : Terms) → t.m * t.m + t.m * t.p ≡ scratch_size t
unfolding scratch_size
scratch-sum t = refl

-- P and U0, as parts of the scratch
module _ (t : Terms) (scratch : List ℕ) where
  pub p-stands : {square : ℕ} → square ≡ t.m * t.m → take square scratch ≡ part 0 (scratch_parts t scratch)
  unfolding scratch_parts parts
  p-stands e = rw e

  pub u0-stands : {square coins : ℕ} → square ≡ t.m * t.m → coins ≡ scratch_size t
      → take (coins - square) (drop square scratch) ≡ part 1 (scratch_parts t scratch)
  unfolding scratch_parts parts scratch_size
  u0-stands {square} {coins} e f =
      let n : coins - square ≡ t.m * t.p = omega arith in
      rw (n, e)

  -- how many words each has
  pub p-length : {pm : List ℕ} → scratch_size t ≤ length scratch → pm ≡ part 0 (scratch_parts t scratch) → length pm ≡ t.m * t.m
  unfolding scratch_parts parts
  p-length h e = ap length e ∙ length-take-le _ scratch (omega (arith, scratch-sum t))

  pub u0-length : {u0 : List ℕ} → scratch_size t ≤ length scratch → u0 ≡ part 1 (scratch_parts t scratch) → length u0 ≡ t.m * t.p
  unfolding scratch_parts parts
  u0-length h e = ap length e ∙ length-take-le _ (drop (t.m * t.m) scratch) (omega (arith, scratch-sum t, length-drop (t.m * t.m) scratch))
