-- The rehearsal refuses by the lowest number that applies anywhere in the run (RULES 9): by the lowest over all tests of its four calls.
--   first-covers, later-covers, message-covers   a slot that holds a half, and a session's own message: of their tests only the terms' can fail
--   short-holding      a dealing from too few words leaves halves of residues, too
--   lines-cover        the tests on what the lines say cover every test of the four calls
--   calls-cover        and the other way round: none of them is without a call that makes it
--   rehearsal-lowest, refused-lowest   so both lists give the same lowest number
-- Assumes nothing.
use mathlib.Core.Path.{◌≡◌, refl, sym, ◌∙◌, subst}
use mathlib.Core.Bool.{Bool, true, false, false≢true}
use mathlib.Core.List.{List, [], ◌∷◌, ◌++◌}
use Prim.Native.Nat.{ℕ, ◌+◌, ◌*◌, ◌≤◌, ◌<◌}
use native.Mathlib.Omega.{arith}
use lib.ListN.{length, take, drop, length-append, length-take}
use borrow.Author.Tests.{eq-eqb, le-leb, leb-true}
use Rattle.algebra.specs.Matrix.{Residues, zeros}
use Rattle.algebra.specs.Count.{both, parts, part, join}
use Rattle.algebra.specs.Product.{deal_b, send_y, send_x, send_r}
use Rattle.algebra.proofs.Tests.{and_left, and_right, and_both, is_false}
use Rattle.algebra.proofs.Lists.{zeros-residues, add-residues, sub-residues}
use Rattle.algebra.proofs.Parts.{none, ◌then◌}
use Rattle.protocol.specs.declared.Terms.{Terms}
use Rattle.protocol.specs.declared.Head.{Head}
use Rattle.protocol.specs.declared.RightSession.{RightSession}
use Rattle.protocol.specs.declared.Refusal.{Refusal}
use Rattle.protocol.specs.declared.Refusal.TheVariants.{Form, Modulus, Mark, Singular}
use Rattle.protocol.specs.Judge.{Test, needs, given, clear, refused, judge}
use Rattle.protocol.specs.Drawing.{drawn, draw_tests}
use Rattle.protocol.specs.Bounds.{largest_modulus, within, all_below, product, shape_tests, terms_tests, input_tests, room_tests}
use Rattle.protocol.specs.Tape.{Slot, slot_at, is_slot, slot_words, header_words, READY, IN-USE, Role, left, right, sort_of, body_size, tape_size, status_of, body, matrices, slot_tests, half_tests, tape_tests, body_tests}
use Rattle.protocol.specs.Deal.{draw_size, drawn_parts, dealt_b, is_free, deal_tests, dealt_over, dealt_effect}
use Rattle.protocol.specs.Message.{Message, kind_known, kind_sort, message_layout, message_size, message_tests, due_tests}
use Rattle.protocol.specs.Step.{Effect, is_open, first_tests, open_tests, later_tests}
use Rattle.protocol.specs.Product.{right_first_effect, right_first_tests, left_effect, left_tests, right_last_tests}
use Rattle.protocol.specs.Rehearsal.{Input, request, rehearsal_tests, slot_size, left_slot, right_slot, call_tests}
use Rattle.protocol.proofs.Judge.{Pass, ◌next◌, nothing, Covers, clear-append, covers_self, covers-pass, covers-rest, ◌too◌, covers-split, covers-given, same-lowest, bad-modulus, Lowest, lowest}
use Rattle.protocol.proofs.Residues.{residues-below, below-append, below-take, below-drop, drawn-below}
use Rattle.protocol.proofs.Slots.{written}
use Rattle.protocol.proofs.Tests.{early, HalfFits, half-slot, half_room, half-tape, body-fits, fits-body, open-due, MessageFits, message-due, input-tests, room-tests}
use Rattle.protocol.proofs.Halves.{tape_words, Holding, header-fits, half-fits, matrices-fit, fits-holding, holding-used}
use Rattle.protocol.proofs.Messages.{own-message}
use Rattle.protocol.proofs.Dealing.{request_for, words_behind, dealt-inside, dealt-words}
use Rattle.protocol.proofs.RehearsalRight.{empty-slot, empty-free, some_words, left-room, right-room}

-- ---- of these tests only the terms can fail

module _ {ts : List Test} (role : Role) (t : Terms) (c : Covers ts (terms_tests (sort_of role) t)) (ls : List (List ℕ)) (s : Slot) where
  first-covers : Holding role READY t ls s → Covers ts (first_tests role t s)
  unfolding first_tests
  first-covers h =
      let f : HalfFits role READY t s = half-fits h in
      c
      too covers-pass (half-slot role READY t s f)
      too covers-pass (half_room role READY t s f)
      too covers-pass (half-tape role READY t s f)
      too covers-pass (fits-body role READY t s f (matrices-fit h))

  later-covers : (kind : ℕ) → 0 < kind → Holding role IN-USE t ls s → Covers ts (later_tests role kind kind t s)
  unfolding later_tests open_tests
  later-covers kind due h =
      let f : HalfFits role IN-USE t s = half-fits h in
      covers-pass (eq-eqb kind kind refl next nothing)
      too (covers-given (is_open kind) c
      too covers-pass (half-slot role IN-USE t s f)
      too covers-given (is_open kind) (covers-pass (half_room role IN-USE t s f))
      too covers-pass ((open-due kind).1 due next half-tape role IN-USE t s f))
      too covers-pass (fits-body role IN-USE t s f (matrices-fit h))

module _ {ts : List Test} (kind : ℕ) (t : Terms) (a : Message) (known : kind_known kind ≡ true) (c : Covers ts (terms_tests (kind_sort kind) t)) where
  message-covers : MessageFits kind t a → Covers ts (message_tests a)
  unfolding message_tests
  message-covers m =
      subst (λ (h : Head). Covers ts (message_tests (record { head = h; residues = a.residues }))) (sym m.head-is)
      (covers-pass (known next m.last next nothing) too c too covers-pass ((input-tests t.q (message_size kind t) a.residues).1 m.residues))

-- ---- what is drawn from too few words is too short, and its elements are residues all the same

record Short (q n : ℕ) (l : List ℕ) : Type 0 where
  few : length l ≤ n
  below : all_below q l ≡ true

short-take : (q n : ℕ) (l : List ℕ) → all_below q l ≡ true → Short q n (take n l)
short-take q n l h = record { few = omega (arith, length-take n l); below = below-take q n l h }

residues-short : {q n : ℕ} {l : List ℕ} → Residues q n l → Short q n l
residues-short r = record { few = omega (arith, r.size); below = residues-below r }

short-join : {q a b : ℕ} {l r : List ℕ} → Short q a l → Short q b r → Short q (a + b) (join (l ∷ r ∷ []))
unfolding join all_below
short-join {q} {a} {b} {l} {r} s u = record {
  few = omega (arith, s.few, u.few, length-append l (r ++ []), length-append r []);
  below = below-append q l (r ++ []) s.below (below-append q r [] u.below refl);
}

module _ (i : Input) (h0 : 0 < i.terms.q) where
  abbrev t : Terms
  t = i.terms

  abbrev size : ℕ
  size = slot_size t

  abbrev empty : Slot
  empty = slot_at (zeros size) size 0

  inside : is_slot empty ≡ true
  inside = empty-slot size (some_words t)

  empty-below : all_below t.q (slot_words empty) ≡ true
  unfolding slot_words
  empty-below = below-take t.q size _ (below-drop t.q (0 * size) (zeros size) (residues-below (zeros-residues h0 size)))

  -- a half with such matrices over an empty slot
  module _ (role : Role) (ls : List (List ℕ)) (room : tape_size role t.m t.k t.p ≤ size) (short : Short t.q (body_size role t.m t.k t.p) (join ls)) where
    abbrev s : Slot
    s = written empty (dealt_over (request_for (sort_of role) t i.dealer_words) ls empty)

    words : slot_words s ≡ tape_words role READY t ls (words_behind role t ls empty)
    words = dealt-words role t i.dealer_words ls empty inside room short.few

    half : HalfFits role READY t s
    half = header-fits role READY t ls s (words_behind role t ls empty) (dealt-inside role t i.dealer_words ls empty inside room short.few) words room

    below : all_below t.q (body role t (slot_words s)) ≡ true
    unfolding body header_words
    below = rw words (below-take t.q (body_size role t.m t.k t.p) (join ls ++ words_behind role t ls empty)
        (below-append t.q (join ls) (words_behind role t ls empty) short.below
        (below-drop t.q (length (header_words READY t.tape.0 (sort_of role) t.q t.m t.k t.p ++ join ls)) (slot_words empty) empty-below)))

    short-holding : Holding role READY t (matrices role t (slot_words s)) s
    unfolding body_tests
    short-holding = fits-holding half (body-fits role READY t s half (below next nothing))

  -- the two halves of the run
  abbrev ds : List (List ℕ)
  ds = drawn_parts (request_for product t i.dealer_words)

  drawn-short : Short t.q (t.m * t.k) (part 0 ds) × Short t.q (t.k * t.p) (part 1 ds) × Short t.q (t.m * t.p) (part 2 ds)
  unfolding drawn_parts parts drawn
  drawn-short =
      let q = t.q in
      let b = below-take q (draw_size (request_for product t i.dealer_words)) _ (drawn-below q h0 i.dealer_words) in
      let b1 = below-drop q (t.m * t.k) _ b in
      (short-take q (t.m * t.k) _ b, short-take q (t.k * t.p) _ b1, short-take q (t.m * t.p) _ (below-drop q (t.k * t.p) _ b1))

  abbrev a : Slot
  a = left_slot i

  abbrev b : Slot
  b = right_slot i

  left-holding : Holding left READY t (matrices left t (slot_words a)) a
  unfolding dealt_effect request body_size
  left-holding = short-holding left (part 0 ds ∷ part 2 ds ∷ []) (left-room t) (short-join drawn-short.0 drawn-short.2)

  right-holding : Holding right READY t (matrices right t (slot_words b)) b
  unfolding dealt_effect request body_size dealt_b deal_b
  right-holding = short-holding right (part 1 ds ∷ _ ∷ []) (right-room t) (short-join drawn-short.1 (residues-short (sub-residues h0 _ _ _)))

  -- ---- each call's tests, of which only those on what the lines say can fail

  abbrev one : Effect RightSession
  one = right_first_effect t b i.y

  abbrev two : Effect Unit
  two = left_effect t a i.x i.left_words one.sent

  message-one : MessageFits 1 t one.sent
  unfolding right_first_effect message_layout send_y
  message-one = own-message 1 t (_ ∷ []) (sub-residues h0 _ _ _ then none) (early _ _ 1 refl)

  message-two : MessageFits 2 t two.sent
  unfolding left_effect message_layout send_x send_r
  message-two = own-message 2 t (_ ∷ _ ∷ []) (add-residues h0 _ _ _ then sub-residues h0 _ _ _ then none) (early _ _ 2 refl)

  used : Holding right IN-USE t (matrices right t (slot_words b)) (written b one.slot)
  unfolding right_first_effect
  used = holding-used right t _ b right-holding

  module _ {ts : List Test} (in-terms : Covers ts (terms_tests product t)) where
    deal-covers : Covers ts (draw_tests t.q (draw_size (request i)) i.dealer_words) → Covers ts (deal_tests empty empty (request i))
    unfolding deal_tests request slot_tests half_tests terms_tests
    deal-covers in-draw =
        let shape : Covers ts (shape_tests product t.tape.0 t.q t.m t.k t.p) = covers-rest in-terms in
        let slot : Pass (slot_tests empty) = inside next nothing in
        let first : Pass (half_tests left t.m t.k t.p empty) = le-leb (tape_size left t.m t.k t.p) size (left-room t) next nothing in
        let second : Pass (half_tests right t.m t.k t.p empty) = le-leb (tape_size right t.m t.k t.p) size (right-room t) next nothing in
        let free = empty-free size (some_words t) in
        let marks : Pass (needs Mark (is_free (status_of (slot_words empty))) ∷ needs Mark (is_free (status_of (slot_words empty))) ∷ needs Singular true ∷ [])
        = free next free next refl next nothing in
        shape too covers-pass slot too covers-pass first too covers-pass slot too covers-pass second too in-draw too covers-pass marks

    one_covers : Covers ts (input_tests t.q (t.k * t.p) i.y) → Covers ts (right_first_tests t b i.y (message_size 1 t))
    unfolding right_first_tests
    one_covers in-y = first-covers right t in-terms _ b right-holding too in-y too covers-pass ((room-tests _ _).1 (omega arith))

    two-covers : Covers ts (input_tests t.q (t.m * t.k) i.x) → Covers ts (draw_tests t.q (t.m * t.p) i.left_words)
        → Covers ts (left_tests t a i.x i.left_words one.sent (message_size 2 t) (t.m * t.p))
    unfolding left_tests within both kind_sort
    two-covers in-x in-draw =
        message-covers 1 t one.sent refl in-terms message-one
        too first-covers left t in-terms _ a left-holding
        too covers-pass (message-due 1 t one.sent message-one)
        too in-x
        too covers-pass ((room-tests _ _).1 (omega arith))
        too covers-pass ((room-tests _ _).1 (omega arith))
        too in-draw

    three-covers : Covers ts (right_last_tests one.session (written b one.slot) two.sent (t.m * t.p))
    unfolding right_last_tests within both kind_sort right_first_effect
    three-covers =
        message-covers 2 t two.sent refl in-terms message-two
        too later-covers right t in-terms _ (written b one.slot) 2 (omega arith) used
        too covers-pass (message-due 2 t two.sent message-two)
        too covers-given (is_open 2) (covers-pass ((room-tests _ _).1 (omega arith)))

  lines-cover : {ts : List Test} → Covers ts (rehearsal_tests i) → Covers ts (call_tests i)
  unfolding call_tests rehearsal_tests
  lines-cover c =
      let (c1, in_left) = covers-split c in
      let (c2, in-dealer) = covers-split c1 in
      let (c3, in-y) = covers-split c2 in
      let (in-terms, in-x) = covers-split c3 in
      deal-covers in-terms in-dealer too one_covers in-terms in-y too two-covers in-terms in-x in_left too three-covers in-terms

-- ---- and all of these are tested by some call

calls-cover : {ts : List Test} (i : Input) → Covers ts (call_tests i) → Covers ts (rehearsal_tests i)
unfolding call_tests rehearsal_tests deal_tests right_first_tests first_tests left_tests request
calls-cover i c = record {
  clears = λ r h.
      let k = simp clear-append at (c.clears r h) in
      let in-deal = and_left _ _ (and_left _ _ (and_left _ _ k)) in
      let in_one = and_left _ _ (and_right _ _ (and_left _ _ (and_left _ _ k))) in
      let in_two = and_right _ _ (and_left _ _ k) in
      let in-terms = and_left _ _ (and_left _ _ (and_left _ _ (and_left _ _ (and_left _ _ in_one)))) in
      let in-x = and_right _ _ (and_left _ _ (and_left _ _ (and_left _ _ in_two))) in
      simp clear-append (and_both (and_both (and_both (and_both in-terms in-x) (and_right _ _ in_one)) (and_right _ _ (and_left _ _ in-deal))) (and_right _ _ in_two));
}

-- ---- the lowest number

module _ (i : Input) where
  lines-form : clear Form (rehearsal_tests i) ≡ true
  unfolding clear both rehearsal_tests terms_tests shape_tests input_tests draw_tests
  lines-form = refl

  calls-form : clear Form (call_tests i) ≡ true
  unfolding clear both given call_tests deal_tests right_first_tests left_tests right_last_tests message_tests due_tests first_tests later_tests open_tests terms_tests shape_tests input_tests room_tests half_tests slot_tests tape_tests body_tests draw_tests right_first_effect left_effect within
  calls-form = refl

  lines-modulus : within 2 largest_modulus i.terms.q ≡ false → clear Modulus (rehearsal_tests i) ≡ false
  unfolding clear both rehearsal_tests terms_tests shape_tests
  lines-modulus w = rw w

  -- what the rehearsal tests gives the lowest number over all tests of the dealing and the three steps
  pub rehearsal-lowest : {A : Type 0} (e : A) → judge (rehearsal_tests i) e ≡ judge (call_tests i) e
  unfolding within
  rehearsal-lowest e = go (within 2 largest_modulus i.terms.q) refl
    where
      go : (b : Bool) → within 2 largest_modulus i.terms.q ≡ b → judge (rehearsal_tests i) e ≡ judge (call_tests i) e
      go true w =
          let big : 2 ≤ i.terms.q = leb-true _ _ (and_left _ _ w) in
          same-lowest _ _ e (lines-cover i (omega arith) covers_self) (calls-cover i covers_self)
      go false w =
          let m = lines-modulus w in
          bad-modulus (rehearsal_tests i) e lines-form m
          ∙ sym (bad-modulus (call_tests i) e calls-form (is_false _ (λ h. false≢true (sym m ∙ (calls-cover i covers_self).clears Modulus h))))

  -- a number that it refuses by applies to a call of the run, and no lower one does
  pub refused-lowest : {A : Type 0} (e : A) (r : Refusal) → judge (rehearsal_tests i) e ≡ refused r → Lowest r (call_tests i)
  refused-lowest e r h = lowest (call_tests i) e r (sym (rehearsal-lowest e) ∙ h)
