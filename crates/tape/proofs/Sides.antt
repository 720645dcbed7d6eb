-- What sides and moduli that fit are bounded by.
--   Sides, sides, sides-of the bounds on the sides, of a product and for both sorts
--   Unknowns, unknowns     the sides of a system: p is n + 1 at the most, and n at least
--   one-column             its one column of right-hand sides, where p is not n
--   Modulus, modulus       a modulus
-- Assumes nothing.
use mathlib.Core.Path.{◌≡◌}
use mathlib.Core.Bool.{true}
use Prim.Native.Nat.{ℕ, ◌+◌, ◌*◌, ◌≤◌, ◌<◌}
use native.Mathlib.Nat.{mul-le-mul}
use native.Mathlib.Omega.{arith}
use borrow.Author.Tests.{leb-true, eqb-true}
use Rattle.algebra.proofs.Count.{and_left, and_right}
use Rattle.protocol.specs.Bounds.{Sort, product, system, within, largest_modulus, sides_fit}

-- ---- products

pub record Sides (m k p : ℕ) : Type 0 where
  pub some-m : 0 < m
  pub few-m : m ≤ 32
  pub few-k : k ≤ 2048
  pub some-p : 0 < p
  pub few-p : p ≤ 32
  pub few-mk : m * k ≤ 2048
  pub few-kp : k * p ≤ 2048
  pub few-mp : m * p ≤ 1024

pub sides : (m k p : ℕ) → sides_fit product m k p ≡ true → Sides m k p
unfolding within sides_fit
sides m k p e =
    let hm = and_left _ _ e in
    let e1 = and_right _ _ e in
    let hp = and_left _ _ e1 in
    let e2 = and_right _ _ e1 in
    let hk = and_left _ _ e2 in
    let e3 = and_right _ _ e2 in
    let m32 = leb-true m 32 (and_right _ _ hm) in
    let p32 = leb-true p 32 (and_right _ _ hp) in
    record {
      some-m = leb-true 1 m (and_left _ _ hm);
      few-m = m32;
      few-k = leb-true k 2048 (and_right _ _ hk);
      some-p = leb-true 1 p (and_left _ _ hp);
      few-p = p32;
      few-mk = leb-true (m * k) 2048 (and_left _ _ e3);
      few-kp = leb-true (k * p) 2048 (and_right _ _ e3);
      few-mp = mul-le-mul {n₁ = m} {m₁ = p} {n₂ = 32} {m₂ = 32} m32 p32;
    }

-- ---- systems

-- n, n and p, with n from 1 to 16
pub record Unknowns (m k p : ℕ) : Type 0 where
  pub some : 0 < m
  pub few : m ≤ 16
  pub square : k ≡ m
  pub least : m ≤ p
  pub most : p ≤ m + 1

pub unknowns : (m k p : ℕ) → sides_fit system m k p ≡ true → Unknowns m k p
unfolding sides_fit within
unknowns m k p e =
    let wide = and_right _ _ (and_right _ _ e) in
    record {
      some = leb-true 1 m (and_left _ _ (and_left _ _ e));
      few = leb-true m 16 (and_right _ _ (and_left _ _ e));
      square = eqb-true k m (and_left _ _ (and_right _ _ e));
      least = leb-true m p (and_left _ _ wide);
      most = leb-true p (m + 1) (and_right _ _ wide);
    }

pub one-column : (m k p : ℕ) → sides_fit system m k p ≡ true → (p ≡ m → ⊥) → p ≡ m + 1
one-column m k p e h = let u = unknowns m k p e in omega (arith, u.least, u.most, h)

-- ---- both

pub sides-of : (sort : Sort) (m k p : ℕ) → sides_fit sort m k p ≡ true → Sides m k p
sides-of product m k p e = sides m k p e
sides-of system m k p e =
    let u = unknowns m k p e in
    let k16 : k ≤ 16 = omega (arith, u.few, u.square) in
    let p17 : p ≤ 17 = omega (arith, u.few, u.most) in
    let mk : m * k ≤ 256 = mul-le-mul {n₁ = m} {m₁ = k} {n₂ = 16} {m₂ = 16} u.few k16 in
    let kp : k * p ≤ 272 = mul-le-mul {n₁ = k} {m₁ = p} {n₂ = 16} {m₂ = 17} k16 p17 in
    let mp : m * p ≤ 272 = mul-le-mul {n₁ = m} {m₁ = p} {n₂ = 16} {m₂ = 17} u.few p17 in
    record {
      some-m = u.some;
      few-m = omega (arith, u.few);
      few-k = omega arith;
      some-p = omega (arith, u.some, u.least);
      few-p = omega arith;
      few-mk = omega arith;
      few-kp = omega arith;
      few-mp = omega arith;
    }

pub record Modulus (q : ℕ) : Type 0 where
  pub some : 0 < q
  pub small : q < 2147483648

pub modulus : (q : ℕ) → within 2 largest_modulus q ≡ true → Modulus q
unfolding within
modulus q e =
    let low = leb-true 2 q (and_left _ _ e) in
    let high = leb-true q 2147483647 (and_right _ _ e) in
    record { some = omega arith; small = omega arith }
