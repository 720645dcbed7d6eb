-- The words of both slots that a dealing on bytes looks at.
--   few-half, few-drawn                    the bounds on a half, and on what is drawn
--   is-first, is-second, larger-half, ..   the larger half
--   fit-judged, Fitting, fitting           the tests, and what is known where they pass
--   part-fits, part_none                   the part, in both cases
--   part-known, part_lies                  what its users ask
-- Assumes nothing.
use mathlib.Core.Path.{◌≡◌, refl, ◌∙◌}
use mathlib.Core.Bool.{Bool, true, false, cond}
use Prim.Native.Nat.{ℕ, ◌*◌, ◌/◌, ◌%◌, ◌≤◌, ◌<◌}
use native.Mathlib.Nat.{mul-le-mul}
use native.Mathlib.Omega.{arith}
use native.Mathlib.Decide.{dec_le}
use lib.Dec.{ltb}
use borrow.Author.Tests.{leb-true, ltb-true, eqb-true, le-leb, lt-leb}
use Rattle.algebra.specs.Count.{both}
use Rattle.algebra.proofs.Tests.{and_left, and_right}
use Rattle.protocol.specs.declared.Terms.{Terms}
use Rattle.protocol.specs.declared.Refusal.TheVariants.{Size}
use Rattle.protocol.specs.Judge.{clear, refused, done, judge, judge_by}
use Rattle.protocol.specs.Bounds.{Sort, product, system, sides_fit}
use Rattle.protocol.specs.Tape.{Role, left, right, blinder, solver, sort_of, header_size, body_size, tape_size}
use Rattle.protocol.specs.Deal.{first_role, second_role}
use Rattle.protocol.proofs.Judge.{passed}
use Rattle.judging.specs.InOrder.{judged}
use Rattle.judging.specs.Groups.{number_tests, place_tests}
use Rattle.entry.specs.Entry.{whole_tests}
use Rattle.tape.proofs.Sides.{sides, unknowns}
use Rattle.tape.proofs.Slots.{slot-inside}
use Rattle.dealer.specs.Sorts.{draw_count}
use Rattle.dealer.specs.Groups.{size_tests}
use Rattle.host_deal.specs.Part.{part_tests, is_fit, larger_half, part_for, Known, Lies}

-- ---- bounds

-- a system's squares
few-squares : (m k p : ℕ) → sides_fit system m k p ≡ true → (m * k ≤ 256) × (k * p ≤ 272) × (m * p ≤ 272)
few-squares m k p e =
    let u = unknowns m k p e in
    let k16 : k ≤ 16 = omega (arith, u.few, u.square) in
    let p17 : p ≤ 17 = omega (arith, u.few, u.most) in (
      mul-le-mul {n₁ = m} {m₁ = k} {n₂ = 16} {m₂ = 16} u.few k16,
      mul-le-mul {n₁ = k} {m₁ = p} {n₂ = 16} {m₂ = 17} k16 p17,
      mul-le-mul {n₁ = m} {m₁ = p} {n₂ = 16} {m₂ = 17} u.few p17,
    )

few-half : (role : Role) (m k p : ℕ) → sides_fit (sort_of role) m k p ≡ true → tape_size role m k p ≤ 3079
unfolding tape_size body_size
few-half left m k p e = let z = sides m k p e in omega (arith, z.few-mk, z.few-mp)
few-half right m k p e = let z = sides m k p e in omega (arith, z.few-kp, z.few-mp)
few-half blinder m k p e = let z = few-squares m k p e in omega (arith, z.0, z.1, z.2)
few-half solver m k p e = let z = few-squares m k p e in omega (arith, z.0, z.1, z.2)

pub few-drawn : (s : Sort) (m k p : ℕ) → sides_fit s m k p ≡ true → draw_count s m k p ≤ 5120
unfolding draw_count
few-drawn product m k p e = let z = sides m k p e in omega (arith, z.few-mk, z.few-kp, z.few-mp)
few-drawn system m k p e = let z = few-squares m k p e in omega (arith, z.0, z.1, z.2)

-- ---- the larger half

module _ (s : Sort) (m k p : ℕ) where
  abbrev one : ℕ
  one = tape_size (first_role s) m k p

  abbrev two : ℕ
  two = tape_size (second_role s) m k p

  pub is-second : one ≤ two → larger_half s m k p ≡ two
  unfolding larger_half
  is-second h = rw (le-leb one two h) refl

  pub is-first : two < one → larger_half s m k p ≡ one
  unfolding larger_half
  is-first h = rw (lt-leb one two h) refl

  pub larger-half : (one ≤ larger_half s m k p) × (two ≤ larger_half s m k p)
  larger-half =
      elim (dec_le one two) [
        | yes h ↦ (omega (arith, is-second h), omega (arith, is-second h))
        | no h ↦ let g : two < one = omega arith in (omega (arith, is-first g), omega (arith, is-first g))
      ]

  -- it is one of the two
  pub larger-below : (n : ℕ) → one ≤ n → two ≤ n → larger_half s m k p ≤ n
  larger-below n a b =
      elim (dec_le one two) [
        | yes h ↦ omega (arith, is-second h)
        | no h ↦ let g : two < one = omega arith in omega (arith, is-first g)
      ]

  pub some-half : header_size ≤ larger_half s m k p
  unfolding tape_size
  some-half = omega (arith, larger-half.0)

few-larger : (s : Sort) (m k p : ℕ) → sides_fit s m k p ≡ true → larger_half s m k p ≤ 3079
few-larger product m k p e = larger-below product m k p 3079 (few-half left m k p e) (few-half right m k p e)
few-larger system m k p e = larger-below system m k p 3079 (few-half blinder m k p e) (few-half solver m k p e)

-- ---- the tests

pub record Fitting (s : Sort) (t : Terms) (first second words size index : ℕ) : Type 0 where
  pub some-q : 0 < t.q
  pub whole-first : first % 4 ≡ 0
  pub whole-second : second % 4 ≡ 0
  pub whole_words : words % 4 ≡ 0
  pub sides : sides_fit s t.m t.k t.p ≡ true
  pub in-first : ltb index (first / 4 / size) ≡ true
  pub in-second : ltb index (second / 4 / size) ≡ true
  pub first-room : tape_size (first_role s) t.m t.k t.p ≤ size
  pub second-room : tape_size (second_role s) t.m t.k t.p ≤ size

pub first-sort : (s : Sort) → sort_of (first_role s) ≡ s
first-sort product = refl
first-sort system = refl

pub second-sort : (s : Sort) → sort_of (second_role s) ≡ s
second-sort product = refl
second-sort system = refl

module _ (s : Sort) (t : Terms) (first second words size index : ℕ) where
  -- all are of refusal 4
  pub fit-judged : judged (part_tests s t first second words size index)
      ≡ cond (clear Size (part_tests s t first second words size index)) (done tt) (refused Size)
  unfolding part_tests whole_tests size_tests number_tests place_tests clear both judge judge_by
  fit-judged = refl

  tests-fit : ltb 0 t.q ≡ true → judged (part_tests s t first second words size index) ≡ done tt → Fitting s t first second words size index
  unfolding part_tests whole_tests size_tests number_tests place_tests
  tests-fit q e =
      let a = (passed (part_tests s t first second words size index) e).0 in
      let b = a.1.1.1.1 in
      let c = b.1.1.1.1.1.1.1 in
      record {
        some-q = ltb-true 0 t.q q;
        whole-first = eqb-true _ _ a.0;
        whole-second = eqb-true _ _ a.1.0;
        whole_words = eqb-true _ _ a.1.1.0;
        sides = rw (first-sort s) at b.0;
        in-first = b.1.1.0;
        in-second = c.0;
        first-room = leb-true _ _ b.1.1.1.0;
        second-room = leb-true _ _ c.1.0;
      }

  pub fitting : is_fit s t first second words size index ≡ true → Fitting s t first second words size index
  unfolding is_fit
  fitting e = tests-fit (and_left _ _ e) (fit-judged ∙ rw (and_right _ _ e) refl)

  -- ---- the part

  pub part-fits : is_fit s t first second words size index ≡ true
      → part_for s t first second words size index ≡ record { from = index * size; size = larger_half s t.m t.k t.p }
  unfolding part_for
  part-fits e = rw e refl

  pub part_none : is_fit s t first second words size index ≡ false → part_for s t first second words size index ≡ record { from = 0; size = 0 }
  unfolding part_for
  part_none e = rw e refl

  known-fits : is_fit s t first second words size index ≡ true → Known s t (larger_half s t.m t.k t.p)
  known-fits e = let f = fitting e in record { some-q = λ h. f.some-q; sides = λ h. f.sides }

  known-none : Known s t 0
  known-none = record { some-q = λ h. absurd (omega arith); sides = λ h. absurd (omega arith) }

  pub part-known : Known s t (part_for s t first second words size index).size
  part-known = go (is_fit s t first second words size index) refl
    where
      go : (b : Bool) → is_fit s t first second words size index ≡ b → Known s t (part_for s t first second words size index).size
      go true e = rw (part-fits e) (known-fits e)
      go false e = rw (part_none e) known-none

  lies-fits : is_fit s t first second words size index ≡ true → Lies (record { from = index * size; size = larger_half s t.m t.k t.p }) first second
  lies-fits e =
      let f = fitting e in
      let n = larger-below s t.m t.k t.p size f.first-room f.second-room in
      record {
        in-first = omega (arith, slot-inside (first / 4) size index f.in-first, n);
        in-second = omega (arith, slot-inside (second / 4) size index f.in-second, n);
        few = few-larger s t.m t.k t.p f.sides;
      }

  pub part_lies : Lies (part_for s t first second words size index) first second
  part_lies = go (is_fit s t first second words size index) refl
    where
      go : (b : Bool) → is_fit s t first second words size index ≡ b → Lies (part_for s t first second words size index) first second
      go true e = rw (part-fits e) (lies-fits e)
      go false e = rw (part_none e) (record { in-first = omega arith; in-second = omega arith; few = omega arith })
