-- What is known where a dealing's tests passed, and what it says of the writers' numbers.
--   numbers_fit                 the tests on numbers
--   Known, deal-known           all tests
--   masks-of, unknowns-of, prime-of   the bounds that functions ask
--   enough-masks, first-start, second-start   raw words and room for the masks
--   more-count, first_more, second_more       and for a system's other matrices
--   coins-enough, never-dry, drawn-residues, no-mask     the tests on raw words
-- Assumes nothing.
use mathlib.Core.Path.{◌≡◌, refl, sym, ap}
use mathlib.Core.List.{List}
use Prim.Native.Nat.{ℕ, ◌+◌, ◌*◌, ◌≤◌, ◌<◌}
use native.Mathlib.Nat.{mul-le-mul}
use native.Mathlib.Omega.{arith}
use lib.ListN.{length}
use borrow.Author.Tests.{leb-true, leb-false, le-leb}
use Rattle.algebra.specs.Matrix.{Residues}
use Rattle.algebra.specs.Prime.{is_prime}
use mathlib.Core.Bool.{true}
use Rattle.protocol.specs.declared.Terms.{Terms}
use Rattle.protocol.specs.declared.Refusal.TheVariants.{Singular}
use Rattle.protocol.specs.Judge.{done}
use Rattle.protocol.specs.Bounds.{Sort, product, system, field_fits}
use Rattle.protocol.specs.Drawing.{residues_of, drawn, draw_tests}
use Rattle.protocol.specs.Tape.{header_size, blinder, solver, matrix_at, tape_size, body_size, slot_at}
use Rattle.protocol.specs.Deal.{first_role, second_role, draw_size, deal_tests, dealt_effect, deal}
use Rattle.protocol.proofs.Judge.{passed}
use Rattle.protocol.proofs.Dealing.{DealFits, deal-step}
use Rattle.protocol.proofs.Residues.{residues-drawn}
use Rattle.judging.specs.InOrder.{judged}
use Rattle.judging.specs.Groups.{modulus_tests, number_tests, place_tests}
use Rattle.judging.proofs.InOrder.{accepted-by}
use Rattle.judging.proofs.Join.{judged-true}
use Rattle.tape.proofs.Sides.{sides-of, unknowns, modulus}
use Rattle.tape.proofs.Slots.{slot-room}
use Rattle.std.specs.Prelude.{None}
use Rattle.drawing.specs.Extent.{read_for}
use Rattle.drawing.proofs.Then.{dry-few}
use Rattle.dealer.specs.Sorts.{sort, masks_count, draw_count, request}
use Rattle.dealer.specs.declared.sort.Sort as code
use Rattle.dealer.specs.declared.sort.Sort.TheVariants.{Product}
use Rattle.dealer.specs.Groups.{size_tests, deal_numbers, mask_tests}
use Rattle.dealer.proofs.Order.{first-sort}
use Rattle.dealer.specs.Shape.{Fits, Numbers, Masks, Unknowns, Room}

-- ---- numbers

pub numbers_fit : (s : Sort) (t : Terms) (first second size index : ℕ) → done tt ≡ judged (deal_numbers s t first second size index)
    → Numbers s t first second size index
unfolding deal_numbers size_tests modulus_tests number_tests place_tests tape_size
numbers_fit s t first second size index e =
    let a = (passed (deal_numbers s t first second size index) (sym e)).0 in
    let b = a.1.1.1.1.1 in
    let n = modulus t.q a.0 in
    record {
      fits = record {
        some-q = n.some;
        small-q = n.small;
        field = rw (first-sort s) at a.1.0;
        sides = rw (first-sort s) at a.1.1.1.0;
      };
      first-inside = b.0;
      second-inside = b.1.1.1.1.1.0;
      room = omega (arith, leb-true (tape_size (first_role s) t.m t.k t.p) size b.1.0);
    }

-- ---- all tests

pub record Known (s : Sort) (t : Terms) (first second : List ℕ) (size index : ℕ) (words : List ℕ) : Type 0 where
  pub room : Room s t words size size
  pub first-inside : index * size + size ≤ length first
  pub second-inside : index * size + size ≤ length second

pub deal-known : (s : Sort) (t : Terms) (first second : List ℕ) (size index : ℕ) (words : List ℕ)
    → done tt ≡ judged (deal_tests (slot_at first size index) (slot_at second size index) (request s t words))
    → Known s t first second size index words
unfolding deal draw_size draw_count
deal-known s t first second size index words e =
    let r = request s t words in
    let accepted = accepted-by _ (dealt_effect first second size index r) (sym e) in
    let d : DealFits r (slot_at first size index) (slot_at second size index) = ((deal-step first second size index r).means accepted).0 in
    record {
      room = record {
        fits = record { some-q = omega (arith, d.big); small-q = omega (arith, d.small); field = d.field; sides = d.sides };
        enough = d.enough;
        first-room = d.first-room;
        second-room = d.second-room;
      };
      first-inside = slot-room first size index d.first_slot;
      second-inside = slot-room second size index d.second-slot;
    }

-- ---- bounds

module _ {s : Sort} {t : Terms} (f : Fits s t) where
  pub masks-of : Masks t.q t.m t.k t.p
  masks-of =
      let b = sides-of s t.m t.k t.p f.sides in
      record {
        some-q = f.some-q;
        small-q = f.small-q;
        few-k = b.few-k;
        few-mk = b.few-mk;
        few-kp = b.few-kp;
        few-mp = b.few-mp;
      }

module _ {t : Terms} (f : Fits system t) where
  pub square : t.k ≡ t.m
  square = (unknowns t.m t.k t.p f.sides).square

  pub unknowns-of : Unknowns t.q t.m
  unknowns-of =
      let u = unknowns t.m t.k t.p f.sides in
      record { some-q = f.some-q; small-q = f.small-q; some-n = u.some; few-n = u.few }

  pub prime-of : is_prime t.q ≡ true
  unfolding field_fits
  prime-of = f.field

-- ---- counts

pub enough-masks : (s : Sort) (m k p : ℕ) {n : ℕ} → draw_count s m k p ≤ n → masks_count m k p ≤ n
unfolding draw_count
enough-masks product m k p h = h
enough-masks system m k p h = omega arith

pub first-start : (s : Sort) (m k p : ℕ) {n : ℕ} → tape_size (first_role s) m k p ≤ n → header_size + m * k + m * p ≤ n
unfolding tape_size body_size
first-start product m k p h = omega arith
first-start system m k p h = omega arith

pub second-start : (s : Sort) (m k p : ℕ) {n : ℕ} → tape_size (second_role s) m k p ≤ n → header_size + k * p + m * p ≤ n
unfolding tape_size body_size
second-start product m k p h = omega arith
second-start system m k p h = omega arith

-- Q, R and G are squares
module _ {t : Terms} (f : Fits system t) where
  abbrev N : ℕ
  N = t.m * t.m

  squared : t.m * t.k ≡ N
  squared = ap (λ (n : ℕ). t.m * n) (square f)

  pub more-count : masks_count t.m t.k t.p + (N + (N + N)) ≡ draw_count system t.m t.k t.p
  unfolding draw_count
  more-count = omega (arith, squared)

  pub first_more : matrix_at blinder t.m t.k t.p 2 + N + N ≡ tape_size blinder t.m t.k t.p
  unfolding matrix_at tape_size body_size
  first_more = omega (arith, squared)

  pub second_more : matrix_at solver t.m t.k t.p 2 + N + N ≡ tape_size solver t.m t.k t.p
  unfolding matrix_at tape_size body_size
  second_more = omega (arith, squared)

pub square-few : (n : ℕ) → n ≤ 16 → n * n ≤ 256
square-few n h = mul-le-mul {n₁ = n} {m₁ = n} {n₂ = 16} {m₂ = 16} h h

-- ---- raw words

pub coins-enough : (q n : ℕ) (words : List ℕ) → done tt ≡ judged (draw_tests q n words) → n ≤ length (residues_of q words)
unfolding draw_tests
coins-enough q n words e = leb-true _ _ (passed (draw_tests q n words) (sym e)).0.0

-- a reading where enough words are kept
pub never-dry : (q n : ℕ) (words : List ℕ) → read_for q n words ≡ None → n ≤ length (residues_of q words) → ⊥
never-dry q n words e h = let few = leb-false n (length (residues_of q words)) (dry-few q n words e) in omega arith

pub drawn-residues : (q n : ℕ) (words : List ℕ) → 0 < q → n ≤ length (residues_of q words) → Residues q n (drawn q n words)
unfolding draw_tests
drawn-residues q n words h k = residues-drawn q n words h (le-leb n (length (residues_of q words)) k, tt)

-- a product has no mask
pub no-mask : {s : code.Sort} (t : Terms) (words : List ℕ) → s ≡ Product → done tt ≡ judged (mask_tests (sort s) t words)
unfolding mask_tests
no-mask t words e = rw e (judged-true Singular refl)
