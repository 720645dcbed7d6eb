-- Dealing on the words that are looked at is dealing, and the bytes that it leaves are those of the pools.
--   tests-alike   it is refused in the same cases, by the same refusal
--   deal-told     and leaves the same
-- Assumes nothing.
use mathlib.Core.Path.{◌≡◌, refl, sym, ap, ◌∙◌}
use mathlib.Core.Bool.{Bool, true, false}
use mathlib.Core.List.{List, ◌++◌}
use Prim.Native.Nat.{ℕ, ◌*◌, ◌/◌, ◌%◌, ◌≤◌, ◌<◌}
use native.Mathlib.Omega.{arith}
use lib.Dec.{eqb, leb, ltb}
use lib.ListN.{length, get_or, take, drop, length-drop}
use lib.Seq.{get_or-take, length-take-le}
use borrow.Author.Tests.{ltb-false, le-leb, lt-leb, lt-ltb, ne_eqb}
use Rattle.algebra.specs.Count.{both, join}
use Rattle.algebra.specs.Words.{over, written_at}
use Rattle.algebra.proofs.Tests.{and_right, and_both}
use Rattle.protocol.specs.declared.Terms.{Terms}
use Rattle.protocol.specs.declared.Refusal.{Refusal}
use Rattle.protocol.specs.declared.Refusal.TheVariants.{Modulus, Size}
use Rattle.protocol.specs.Judge.{place_of, place_in, Test, clear, Judged, refused, done, judge}
use Rattle.protocol.specs.Bounds.{Sort, within, sides_fit, shape_tests}
use Rattle.protocol.specs.Drawing.{words_read, draw_tests}
use Rattle.protocol.specs.Tape.{Slot, slot_at, is_slot, slot_words, pool_with, header_words, READY, status_of, tape_size, slot_tests, half_tests}
use Rattle.protocol.specs.Deal.{first_role, second_role, first_half, second_half, draw_size, drawn_parts, dealt_b, dealt_v}
use Rattle.protocol.specs.Deal.{deal_tests, dealt_over, Dealt, dealt_effect, deal}
use Rattle.protocol.proofs.Judge.{earlier, passed, all-clear}
use Rattle.protocol.proofs.Slots.{slot-room}
use Rattle.judging.specs.InOrder.{judged}
use Rattle.judging.specs.Lowest.{lower}
use Rattle.judging.specs.Groups.{number_tests, place_tests}
use Rattle.judging.proofs.Join.{judged-join, first-passed}
use Rattle.entry.specs.Bytes.{words_of, bytes_of}
use Rattle.entry.specs.Entry.{whole_tests, dealing}
use Rattle.entry.specs.Steps.{also}
use Rattle.entry.proofs.Bytes.{Below, words-length, written_back, written-again}
use Rattle.drawing.specs.Sift.{kept_words}
use Rattle.drawing.proofs.Sifting.{kept-tests, kept-drawn}
use Rattle.dealer.specs.Sorts.{draw_count, request}
use Rattle.dealer.specs.Groups.{size_tests}
use Rattle.tape.proofs.Sides.{modulus}
use Rattle.local.proofs.Outcomes.{on_done, by-verdict, also-judge, early}
use Rattle.local.proofs.Slots.{one-words, one_inside, no-inside}
use Rattle.local.proofs.Tests.{both-no, early-size}
use Rattle.host_deal.specs.declared.part.Part.{Part}
use Rattle.host_deal.specs.Part.{own_tests, part_tests, is_fit, larger_half, part_for}
use Rattle.host_deal.specs.Copied.{part_words, raw_for, read_for, dealt_copies, reported, told}
use Rattle.host_deal.proofs.Fits.{Fitting, fitting, fit-judged, first-sort, second-sort, larger-half, larger-below, some-half, part-fits, part_none}

-- ---- a slot, and the first n of its words as a pool of one slot

module _ (ws : List ℕ) (size index n : ℕ) (inside : is_slot (slot_at ws size index) ≡ true) (few : n ≤ size) (some : 0 < n) where
  abbrev start : List ℕ
  start = take n (drop (index * size) ws)

  start-length : length start ≡ n
  start-length =
      length-take-le n (drop (index * size) ws) (omega (arith, length-drop (index * size) ws, slot-room (slot_at ws size index) inside))

  start-inside : is_slot (slot_at start n 0) ≡ is_slot (slot_at ws size index)
  start-inside = one_inside start n start-length some ∙ sym inside

  start-status : status_of (slot_words (slot_at start n 0)) ≡ status_of (slot_words (slot_at ws size index))
  unfolding status_of slot_words
  start-status =
      ap (λ (l : List ℕ). get_or l 0 0) (start-words)
      ∙ (get_or-take n (drop (index * size) ws) 0 0 some ∙ sym (get_or-take size (drop (index * size) ws) 0 0 (omega arith)))
    where
      start-words : slot_words (slot_at start n 0) ≡ start
      start-words = one-words start n start-length

-- what is written over the start of a slot, in the pool: the same by either
slot-over : (h ws : List ℕ) (size index : ℕ) → pool_with (slot_at ws size index) (over h (slot_words (slot_at ws size index))) ≡ written_at (index * size) h ws
unfolding pool_with slot_words
slot-over h ws size index = written-again (index * size) size h ws

start-over : (h ws : List ℕ) (n : ℕ) → pool_with (slot_at ws n 0) (over h (slot_words (slot_at ws n 0))) ≡ over h ws
unfolding written_at
start-over h ws n = let z : 0 * n ≡ 0 = omega arith in slot-over h ws n 0 ∙ rw z refl

-- the bytes of a pool
pool-bytes : (h bytes : List ℕ) (size index n : ℕ) → Below 256 bytes → length bytes % 4 ≡ 0
    → bytes_of (pool_with (slot_at (words_of bytes) size index) (over h (slot_words (slot_at (words_of bytes) size index))))
    ≡ written_at (index * size * 4)
    (bytes_of (pool_with (slot_at (take n (drop (index * size) (words_of bytes))) n 0)
    (over h (slot_words (slot_at (take n (drop (index * size) (words_of bytes))) n 0))))) bytes
pool-bytes h bytes size index n known whole =
    let v = take n (drop (index * size) (words_of bytes)) in
    ap bytes_of (slot-over h (words_of bytes) size index ∙ sym (written-again (index * size) n h (words_of bytes)))
    ∙ (written_back bytes known (index * size) (over h v) whole
    ∙ ap (λ (l : List ℕ). written_at (index * size * 4) (bytes_of l) bytes) (sym (start-over h v n)))

-- ---- two calls that are judged alike

both_ways : {A B C : Type 0} (f : Judged A → C) (g : Judged B → C) (ts us : List Test) (a : A) (b : B) → judged us ≡ judged ts
    → ((r : Refusal) → f (refused r) ≡ g (refused r)) → (judged us ≡ done tt → f (done a) ≡ g (done b)) → f (judge ts a) ≡ g (judge us b)
both_ways {A} {B} {C} f g ts us a b e no_change same = go (judged us) refl
  where
    go : (v : Judged Unit) → judged us ≡ v → f (judge ts a) ≡ g (judge us b)
    go (refused r) z =
        ap f (by-verdict ts a ∙ ap (on_done (λ (u : Unit). a)) (sym e ∙ z))
        ∙ (no_change r ∙ sym (ap g (by-verdict us b ∙ ap (on_done (λ (u : Unit). b)) z)))
    go (done u) z =
        ap f (by-verdict ts a ∙ ap (on_done (λ (u : Unit). a)) (sym e ∙ z))
        ∙ (same z ∙ sym (ap g (by-verdict us b ∙ ap (on_done (λ (u : Unit). b)) z)))

-- ---- all that is refused by 4, each test once

once : (z x y a h b k : Bool) → z ≡ true
    → both z (both x (both y (both a (both h (both z (both x (both y (both b (both k true)))))))))
    ≡ both x (both y (both a (both h (both b (both k true)))))
unfolding both
once z true true a h b k e = rw e refl
once z true false a h b k e = rw e refl
once z false y a h b k e = rw e refl

module _ (s : Sort) (t : Terms) (first second words : List ℕ) (size index : ℕ) (session : 1 ≤ t.session.0) where
  abbrev A : Slot
  A = slot_at (words_of first) size index

  abbrev B : Slot
  B = slot_at (words_of second) size index

  abbrev own : List Test
  own = own_tests (length first) (length second) (length words)

  abbrev tests : List Test
  tests = own ++ deal_tests A B (request s t (words_of words))

  abbrev parted : List Test
  parted = part_tests s t (length first) (length second) (length words) size index

  abbrev fit : Bool
  fit = is_fit s t (length first) (length second) (length words) size index

  -- of the part: its slots, and what is dealt there
  abbrev first_of : Part → Slot
  first_of at = slot_at (part_words at first) at.size 0

  abbrev second_of : Part → Slot
  second_of at = slot_at (part_words at second) at.size 0

  abbrev tests_on : Part → List Test
  tests_on at = deal_tests (first_of at) (second_of at) (request s t (raw_for s t at.size (words_of words)))

  abbrev whole : Part
  whole = record { from = index * size; size = larger_half s t.m t.k t.p }

  abbrev none : Part
  none = record { from = 0; size = 0 }

  same-clear : clear Size parted ≡ clear Size tests
  unfolding part_tests whole_tests size_tests number_tests place_tests deal_tests shape_tests slot_tests half_tests draw_tests is_slot clear both
  same-clear =
      rw (first-sort s, second-sort s, words-length first, words-length second)
      (ap (λ (b : Bool). both (eqb (length first % 4) 0) (both (eqb (length second % 4) 0) (both (eqb (length words % 4) 0) b)))
      (once (leb 1 t.session.0) (sides_fit s t.m t.k t.p) (leb 1 t.tape.0) (ltb index (length first / 4 / size))
      (leb (tape_size (first_role s) t.m t.k t.p) size) (ltb index (length second / 4 / size))
      (leb (tape_size (second_role s) t.m t.k t.p) size) (le-leb 1 t.session.0 session)))

  -- ---- where everything fits

  module _ (e : fit ≡ true) where
    abbrev n : ℕ
    n = larger_half s t.m t.k t.p

    f : Fitting s t (length first) (length second) (length words) size index
    f = fitting s t (length first) (length second) (length words) size index e

    some : 0 < n
    some = omega (arith, some-half s t.m t.k t.p)

    few : n ≤ size
    few = larger-below s t.m t.k t.p size f.first-room f.second-room

    in-first : is_slot A ≡ true
    unfolding is_slot
    in-first = rw (words-length first) f.in-first

    in-second : is_slot B ≡ true
    unfolding is_slot
    in-second = rw (words-length second) f.in-second

    first-room : leb (tape_size (first_role s) t.m t.k t.p) n ≡ leb (tape_size (first_role s) t.m t.k t.p) size
    first-room = le-leb _ _ (larger-half s t.m t.k t.p).0 ∙ sym (le-leb _ _ f.first-room)

    second-room : leb (tape_size (second_role s) t.m t.k t.p) n ≡ leb (tape_size (second_role s) t.m t.k t.p) size
    second-room = le-leb _ _ (larger-half s t.m t.k t.p).1 ∙ sym (le-leb _ _ f.second-room)

    abbrev count : ℕ
    count = draw_count s t.m t.k t.p

    raw-is : raw_for s t n (words_of words) ≡ take count (kept_words t.q (words_of words))
    unfolding raw_for
    raw-is = rw (ne_eqb n 0 (λ h. omega (arith, some, h))) refl

    pub read_is : read_for s t n (words_of words) ≡ words_read t.q count (words_of words)
    unfolding read_for
    read_is = rw (ne_eqb n 0 (λ h. omega (arith, some, h))) refl

    pub parts_are : drawn_parts (request s t (raw_for s t n (words_of words))) ≡ drawn_parts (request s t (words_of words))
    unfolding drawn_parts draw_size draw_count
    parts_are = rw (raw-is, kept-drawn t.q count count (words_of words) (omega arith)) refl

    draw-same : draw_tests t.q count (raw_for s t n (words_of words)) ≡ draw_tests t.q count (words_of words)
    draw-same = rw raw-is (kept-tests t.q count count (words_of words) (omega arith))

    tests_same : deal_tests A B (request s t (words_of words)) ≡ tests_on whole
    unfolding deal_tests slot_tests half_tests part_words draw_size draw_count
    tests_same =
        rw (
          start-inside (words_of first) size index n in-first few some,
          start-inside (words_of second) size index n in-second few some,
          start-status (words_of first) size index n in-first few some,
          start-status (words_of second) size index n in-second few some,
          first-room,
          second-room,
          draw-same,
          parts_are,
        ) refl

    own-passes : judged own ≡ done tt
    unfolding part_tests is_fit
    own-passes =
        first-passed own _ (fit-judged s t (length first) (length second) (length words) size index ∙ rw (and_right _ _ e) refl)

    fit-alike : judged tests ≡ judged (tests_on whole)
    fit-alike =
        judged-join own (deal_tests A B (request s t (words_of words)))
        ∙ (ap (λ (v : Judged Unit). lower v (judged (deal_tests A B (request s t (words_of words))))) own-passes ∙ ap judged tests_same)

  -- ---- where it doesn't: a refusal by 2 or by 4 applies, whatever is looked at

  modulus-alike : (at : Part) → ltb 0 t.q ≡ false → judged tests ≡ judged (tests_on at)
  unfolding place_of place_in whole_tests deal_tests shape_tests slot_tests half_tests draw_tests within clear both
  modulus-alike at e =
      let zero : t.q ≤ 0 = ltb-false 0 t.q e in
      let low : leb 2 t.q ≡ false = lt-leb 2 t.q (omega arith) in
      early tests (tests_on at) Modulus (earlier (λ r. clear r tests ≡ clear r (tests_on at)) Modulus (omega arith) (refl, tt)) (rw low refl) (rw low refl)

  size-alike : clear Size parted ≡ false → judged tests ≡ judged (tests_on none)
  unfolding whole_tests deal_tests shape_tests slot_tests half_tests draw_tests part_words clear both
  size-alike e = early-size tests (tests_on none) refl refl refl (sym same-clear ∙ e) (rw no-inside (simp both-no))

  abbrev part : Part
  part = part_for s t (length first) (length second) (length words) size index

  pub tests-alike : judged tests ≡ judged (tests_on part)
  unfolding is_fit both
  tests-alike = go (ltb 0 t.q) (clear Size parted) refl refl
    where
      go : (x y : Bool) → ltb 0 t.q ≡ x → clear Size parted ≡ y → judged tests ≡ judged (tests_on part)
      go false y e h = modulus-alike part e
      go true false e h = rw (part_none s t (length first) (length second) (length words) size index (rw (e, h) refl)) (size-alike h)
      go true true e h = rw (part-fits s t (length first) (length second) (length words) size index (rw (e, h) refl)) (fit-alike (rw (e, h) refl))

  -- ---- what is left

  accepted-fits : judged tests ≡ done tt → fit ≡ true
  unfolding is_fit whole_tests deal_tests shape_tests
  accepted-fits h =
      let a = (passed tests h).0 in
      and_both (lt-ltb 0 t.q (modulus t.q a.1.1.1.0).some) (same-clear ∙ all-clear tests a Size)

  abbrev effect : Dealt
  effect = dealt_effect (words_of first) (words_of second) size index (request s t (words_of words))

  abbrev effect_on : Part → Dealt
  effect_on at = dealt_effect (part_words at first) (part_words at second) at.size 0 (request s t (raw_for s t at.size (words_of words)))

  done-told : Below 256 first → Below 256 second → fit ≡ true
      → reported whole (read_for s t (larger_half s t.m t.k t.p) (words_of words)) first second (done (effect_on whole))
      ≡ dealing first second (done effect)
  unfolding dealt_effect dealt_over dealt_b dealt_v part_words draw_size draw_count
  done-told known-first known-second e =
      let r = request s t (words_of words) in
      let d = drawn_parts r in
      let header = header_words READY t.tape.0 s t.q t.m t.k t.p in
      let n = larger_half s t.m t.k t.p in
      let g = fitting s t (length first) (length second) (length words) size index e in
      rw (
        read_is e,
        parts_are e,
        pool-bytes (header ++ join (first_half s d)) first size index n known-first g.whole-first,
        pool-bytes (header ++ join (second_half s d (dealt_b r d) (dealt_v r d))) second size index n known-second g.whole-second,
      ) refl

  pub deal-told : Below 256 first → Below 256 second
      → told part s t first second (words_of words)
      ≡ dealing first second (also own (deal (words_of first) (words_of second) size index (request s t (words_of words))))
  unfolding told dealt_copies deal
  deal-told known-first known-second =
      both_ways (reported part (read_for s t part.size (words_of words)) first second) (dealing first second) (tests_on part) tests (effect_on part) effect
      tests-alike (λ r. refl)
      (λ h.
      let e = accepted-fits h in
      rw (part-fits s t (length first) (length second) (length words) size index e) (done-told known-first known-second e))
      ∙ sym (ap (dealing first second) (also-judge own (deal_tests A B (request s t (words_of words))) effect))
