-- The dealer's tests, judged by the groups in which its code makes them.
--   deal-phases   those on numbers, and then those on words
--   raw-phases    enough raw words, and then the mask
-- Assumes nothing.
use mathlib.Core.Path.{◌≡◌, refl, sym, ap, ◌∙◌}
use mathlib.Core.Bool.{Bool, true, false, cond}
use mathlib.Core.List.{List, [], ◌∷◌, ◌++◌}
use Prim.Native.Nat.{ℕ, ◌/◌, ◌≤◌}
use lib.Dec.{leb, ltb}
use lib.ListN.{length}
use borrow.Author.Tests.{le-leb}
use Rattle.protocol.specs.declared.Terms.{Terms}
use Rattle.protocol.specs.declared.Refusal.TheVariants.{Modulus, Composite, Size}
use Rattle.protocol.specs.Judge.{Test, Judged, refused, done}
use Rattle.protocol.specs.Bounds.{Sort, product, system, within, largest_modulus, field_fits, sides_fit, shape_tests}
use Rattle.protocol.specs.Drawing.{draw_tests}
use Rattle.protocol.specs.Tape.{Slot, slot_at, is_slot, sort_of, tape_size, slot_tests, half_tests}
use Rattle.protocol.specs.Deal.{first_role, second_role, draw_size, deal_tests}
use Rattle.judging.specs.InOrder.{in_order, verdict, only, sorted_by, sorted, judged, after}
use Rattle.judging.specs.Groups.{modulus_tests, number_tests, place_tests}
use Rattle.judging.proofs.InOrder.{judge-sorted, after_last}
use Rattle.judging.proofs.Join.{judged-phases}
use Rattle.dealer.specs.Sorts.{draw_count, request}
use Rattle.dealer.specs.Groups.{size_tests, deal_numbers, mark_tests, mask_tests, raw_tests, deal_words}

pub raw-phases : (s : Sort) (t : Terms) (words : List ℕ)
    → judged (raw_tests s t words) ≡ after (judged (draw_tests t.q (draw_count s t.m t.k t.p) words)) (judged (mask_tests s t words))
unfolding sorted sorted_by only raw_tests mask_tests draw_tests
raw-phases s t words =
    let d = draw_tests t.q (draw_count s t.m t.k t.p) words in
    let m = mask_tests s t words in
    judged-phases _ (d ∷ m ∷ []) refl ∙ ap (after (judged d)) (sym (after_last (judged m)))

-- ---- numbers

pub first-sort : (s : Sort) → sort_of (first_role s) ≡ s
first-sort product = refl
first-sort system = refl

second-sort : (s : Sort) → sort_of (second_role s) ≡ s
second-sort product = refl
second-sort system = refl

-- the terms' tests once, where they are made with each half: z stands for the session's number, x for the sides, y for the tape's number
once : (d r : Judged Unit) (z x y a b e f : Bool) → z ≡ true
    → cond x (cond y (cond a (cond b (cond e (cond f d r) r) r) r) r) r
    ≡ cond z (cond x (cond y (cond a (cond b (cond z (cond x (cond y (cond e (cond f d r) r) r) r) r) r) r) r) r) r
once d r z true true a b e f h = rw h
once d r z true false a b e f h = rw h
once d r z false y a b e f h = rw h

module _ (t : Terms) (first second size index : ℕ) where
  -- each test once
  abbrev Once : Sort → List Test
  Once s =
      shape_tests s t.tape.0 t.q t.m t.k t.p
      ++ (place_tests (first_role s) t first size index ++ place_tests (second_role s) t second size index)

  numbers-verdict : (s : Sort) → 1 ≤ t.session.0 → verdict (sorted (Once s)) ≡ verdict (sorted (deal_numbers s t first second size index))
  unfolding in_order sorted sorted_by only shape_tests modulus_tests number_tests place_tests size_tests deal_numbers
  numbers-verdict s h =
      rw (first-sort s, second-sort s)
      (ap (λ (v : Judged Unit). cond (within 2 largest_modulus t.q) (cond (field_fits s t.q) v (refused Composite)) (refused Modulus))
      (once (done tt) (refused Size) (leb 1 t.session.0) (sides_fit s t.m t.k t.p) (leb 1 t.tape.0) (ltb index (first / size))
      (leb (tape_size (first_role s) t.m t.k t.p) size) (ltb index (second / size)) (leb (tape_size (second_role s) t.m t.k t.p) size)
      (le-leb 1 t.session.0 h)))

  numbers-once : (s : Sort) → 1 ≤ t.session.0 → judged (Once s) ≡ judged (deal_numbers s t first second size index)
  numbers-once s h = judge-sorted _ tt ∙ (numbers-verdict s h ∙ sym (judge-sorted _ tt))

-- ---- all

module _ (s : Sort) (t : Terms) (first second : List ℕ) (size index : ℕ) (words : List ℕ) where
  abbrev A : Slot
  A = slot_at first size index

  abbrev B : Slot
  B = slot_at second size index

  phases : judged (deal_tests A B (request s t words))
      ≡ after (judged (Once t (length first) (length second) size index s)) (judged (deal_words s t A B words))
  unfolding sorted sorted_by only deal_tests shape_tests slot_tests half_tests draw_tests is_slot place_tests mark_tests mask_tests raw_tests deal_words draw_count draw_size
  phases =
      let n = Once t (length first) (length second) size index s in
      let w = deal_words s t A B words in
      judged-phases _ (n ∷ w ∷ []) refl ∙ ap (after (judged n)) (sym (after_last (judged w)))

  pub deal-phases : 1 ≤ t.session.0 → judged (deal_tests A B (request s t words))
      ≡ after (judged (deal_numbers s t (length first) (length second) size index)) (judged (deal_words s t A B words))
  deal-phases h =
      let same = numbers-once t (length first) (length second) size index s h in
      phases ∙ ap (λ (v : Judged Unit). after v (judged (deal_words s t A B words))) same
