-- The blinder's steps and its drop, on what a call looks at.
--   blinder-first-seen, blinder-second-seen, blinder-ending-seen   the steps; the last is a system's or a determinant's
--   drop-blinder-seen                                               the drop
-- Assumes nothing.
use mathlib.Core.Path.{◌≡◌, refl, sym, ap, ◌∙◌}
use mathlib.Core.Bool.{Bool, true, false, cond}
use mathlib.Core.List.{List, [], ◌∷◌, ◌++◌}
use Prim.Native.Nat.{ℕ, ◌+◌, ◌*◌, ◌≤◌, ◌<◌}
use native.Mathlib.Omega.{arith}
use native.Mathlib.Decide.{dec_le}
use lib.Dec.{leb}
use lib.ListN.{length, take, drop, length-take}
use lib.Seq.{take-take, take_all, length-take-le}
use borrow.Author.Tests.{ne_eqb, le-leb}
use Rattle.algebra.specs.Count.{both, part, parts, total}
use Rattle.algebra.specs.Matrix.{zeros}
use Rattle.algebra.specs.Elimination.{regular}
use Rattle.protocol.specs.declared.Terms.{Terms}
use Rattle.protocol.specs.declared.BlinderSession.{BlinderSession}
use Rattle.protocol.specs.Judge.{Test, given, clear, done}
use Rattle.protocol.specs.Bounds.{system, sides_fit, shape_tests, terms_tests, input_tests, room_tests}
use Rattle.protocol.specs.Drawing.{words_read, draw_tests}
use Rattle.protocol.specs.Tape.{Slot, is_slot, slot_words, blinder, matrices, words_spent, slot_tests, half_tests, tape_tests, body_tests}
use Rattle.protocol.specs.Message.{Message, message_with, kind_known, is_determinant, message_size, message_tests, due_tests}
use Rattle.protocol.specs.Step.{Effect, first_tests, is_open, open_tests, later_tests}
use Rattle.protocol.specs.System.{side_size, kept_m, kept_y, scratch_size, scratch_layout, scratch_parts, coins_of, closed_blinder, kept_tests, regular_tests, blinder_tests}
use Rattle.protocol.specs.System.{blinder_first_tests, blinder_first_effect, blinder_first, blinder_second_tests, blinder_second_effect, blinder_second}
use Rattle.protocol.specs.System.{blinder_last_tests, blinder_last_effect, blinder_last, blinder_determinant_tests, blinder_determinant_effect, blinder_determinant}
use Rattle.protocol.specs.Drop.{dropped, drop_blinder}
use Rattle.protocol.proofs.Matrices.{part-of-start}
use Rattle.protocol.proofs.StepTests.{blinder-first, blinder-second, blinder-last, blinder-determinant, drop-blinder}
use Rattle.protocol.proofs.Judge.{passed, all_split}
use Rattle.protocol.proofs.Tests.{later-tests}
use Rattle.tape.specs.Placed.{Placed}
use Rattle.judging.specs.InOrder.{judged}
use Rattle.judging.proofs.InOrder.{accepted-by}
use Rattle.judging.proofs.Join.{first-passed}
use Rattle.judging.proofs.Fits.{first-placed, open-placed}
use Rattle.drawing.specs.Sift.{kept_words}
use Rattle.drawing.proofs.Sifting.{kept-tests, kept-drawn}
use Rattle.local.specs.Seen.{least, seen, behind, seen_words, seen_message, opening_message, most_scratch, most_result, most_reply}
use Rattle.entry.specs.Steps.{blinder_ending}
use Rattle.local.proofs.Outcomes.{on_done, entering, then-alike, either-done, alike}
use Rattle.local.proofs.Sifted.{Sifts}
use Rattle.local.proofs.Slots.{seen-inside, matrices-seen, in-use-seen, spent_seen, kept_seen}
use Rattle.local.proofs.Tests.{first-seen, open-seen, later-seen, both-no, early-size, early-turn, message-cases, session-cases, first-cases}
use Rattle.local.proofs.Tests.{opening-judged, message-whole, opening-whole, words-whole, cut-length, few-square, few-reply}
use Rattle.local.proofs.Product.{least-room}

-- ---- the scratch: its first words are looked at

few-scratch : (t : Terms) → sides_fit system t.m t.k t.p ≡ true → scratch_size t ≤ most_scratch
unfolding scratch_size
few-scratch t e = let z = few-square t e in omega (arith, z.1, z.2)

room-taken : (n k : ℕ) (l : List ℕ) → n ≤ k → leb n (length (take k l)) ≡ leb n (length l)
room-taken n k l h =
    elim (dec_le (length l) k) [
      | yes g ↦ ap (λ (z : List ℕ). leb n (length z)) (take_all k l g)
      | no g ↦ let f : k ≤ length l = omega arith in ap (leb n) (length-take-le k l f) ∙ (le-leb n k h ∙ sym (le-leb n (length l) (omega arith)))
    ]

parts-taken : (a b k : ℕ) (l : List ℕ) → a + b ≤ k → parts (a ∷ b ∷ []) (take k l) ≡ parts (a ∷ b ∷ []) l
unfolding parts
parts-taken a b k l h = rw (take-take a k l (omega arith), part-of-start b k a l h) refl

scratch-taken : (t : Terms) (scratch : List ℕ) → sides_fit system t.m t.k t.p ≡ true
    → scratch_parts t (take most_scratch scratch) ≡ scratch_parts t scratch
unfolding scratch_parts scratch_size
scratch-taken t scratch e = parts-taken (t.m * t.m) (t.m * t.p) most_scratch scratch (few-scratch t e)

-- ---- step 2. The input is M with y behind it

module _ (t : Terms) (s : Slot) (scratch : ℕ) (input words kept : List ℕ) (read : ℕ) (sifts : Sifts system (scratch_size t) t words kept read)
    (a : Message) (room : ℕ) where
  abbrev matrix : List ℕ → List ℕ
  matrix l = take (t.m * t.m) l

  abbrev vector : List ℕ → List ℕ
  vector l = drop (t.m * t.m) l

  abbrev tests : Slot → ℕ → (input words : List ℕ) → Message → List Test
  tests c lent l w b = blinder_first_tests t c lent (matrix l) (vector l) w b room

  coins-kept : coins_of t (take (scratch_size t) (kept_words t.q words)) ≡ coins_of t words
  unfolding coins_of
  coins-kept = kept-drawn t.q (scratch_size t) (scratch_size t) words (omega arith)

  first_fits : (b : Message) → sides_fit system t.m t.k t.p ≡ true → is_slot s ≡ true
      → tests s scratch input words b ≡ tests (seen blinder t s) (least scratch most_scratch) input kept b
  unfolding blinder_first_tests room_tests
  first_fits b e f =
      rw (
        first-seen blinder t s e f,
        sifts.words e,
        kept-tests t.q (scratch_size t) (scratch_size t) words (omega arith),
        coins-kept,
        least-room (scratch_size t) most_scratch scratch (few-scratch t e),
      ) refl

  -- with one and the same message
  first_alike : (b : Message)
      → judged (tests s scratch input words b) ≡ judged (tests (seen blinder t s) (least scratch most_scratch) (seen_words input) kept b)
  unfolding blinder_first_tests first_tests message_tests terms_tests shape_tests input_tests due_tests slot_tests half_tests tape_tests body_tests room_tests draw_tests regular_tests clear both
  first_alike b =
      let in-pool = seen-inside blinder t s in
      let ts = tests s scratch input words b in
      let us : List ℕ → List Test = λ l. tests (seen blinder t s) (least scratch most_scratch) l kept b in
      first-cases (λ l. judged ts ≡ judged (us l)) blinder t s input
      (λ l h. early-size ts (us l) refl refl refl (rw h (simp both-no)) (rw h (simp both-no)))
      (λ l h. early-size ts (us l) refl refl refl (rw h (simp both-no)) (rw (in-pool, h) (simp both-no)))
      (λ l h.
      let z = few-square t h in
      early-size ts (us []) refl refl refl
      (rw (ne_eqb (length (vector input)) (side_size t) (λ g. omega (arith, l, z.2, z.3, cut-length (t.m * t.m) input, g))) (simp both-no))
      (rw (ne_eqb (length (matrix [])) (t.m * t.m) (λ g. omega (arith, z.0, length-take {A = ℕ} (t.m * t.m) [], g))) (simp both-no)))
      (λ e f. ap judged (first_fits b e f))

  -- the tests after those of the message
  abbrev after : List Test
  after =
      input_tests t.q (t.m * t.m) (matrix input)
      ++ input_tests t.q (side_size t) (vector input)
      ++ room_tests (scratch_size t) scratch
      ++ room_tests (message_size 2 t) room
      ++ draw_tests t.q (scratch_size t) words
      ++ regular_tests t.q t.m (matrix input)
      ++ regular_tests t.q t.m (part 0 (scratch_parts t (coins_of t words)))

  first-judged : kind_known a.head.kind ≡ true
      → judged (tests s scratch input words a) ≡ judged (tests (seen blinder t s) (least scratch most_scratch) (seen_words input) kept (opening_message a))
  unfolding blinder_first_tests first_tests message_tests terms_tests shape_tests input_tests due_tests slot_tests half_tests tape_tests body_tests room_tests draw_tests
  first-judged known = opening-judged t (first_tests blinder t s) after a known ∙ first_alike (opening_message a)

  abbrev effect : Slot → (input words : List ℕ) → Message → Effect BlinderSession
  effect c l w b = blinder_first_effect t c (matrix l) (vector l) w b

  abbrev pub blinder_grown : Effect BlinderSession → Effect BlinderSession
  blinder_grown e = entering read (behind blinder t s) e

  first_done : judged (tests s scratch input words a) ≡ done tt
      → effect s input words a ≡ blinder_grown (effect (seen blinder t s) (seen_words input) kept (opening_message a))
  unfolding blinder_first blinder_first_effect
  first_done h =
      let f = ((blinder-first t s scratch (matrix input) (vector input) words a room).means
      (accepted-by (tests s scratch input words a) (effect s input words a) h)).0 in
      let p = first-placed blinder t s f.first in
      let z = few-square t p.sides in
      rw (
        opening-whole system t a p.sides f.message,
        words-whole input (omega (arith, f.y-fits.size, z.2, z.3, cut-length (t.m * t.m) input)),
        sifts.words p.sides,
        coins-kept,
        sifts.count p.sides,
        in-use-seen blinder t s p.sides p.inside p.room,
        matrices-seen blinder t s p.sides p.inside,
      ) refl

  pub blinder-first-seen : kind_known a.head.kind ≡ true → blinder_first t s scratch (matrix input) (vector input) words a room
      ≡ on_done blinder_grown
      (blinder_first t (seen blinder t s) (least scratch most_scratch) (matrix (seen_words input)) (vector (seen_words input)) kept (opening_message a) room)
  unfolding blinder_first
  blinder-first-seen known =
      alike blinder_grown (tests s scratch input words a) (tests (seen blinder t s) (least scratch most_scratch) (seen_words input) kept (opening_message a))
      (effect s input words a) (effect (seen blinder t s) (seen_words input) kept (opening_message a)) (first-judged known) first_done

-- ---- steps 4 and 6

module _ (x : BlinderSession) (s : Slot) (scratch : List ℕ) (a : Message) (room : ℕ) where
  -- the tests of a step that takes a message of this kind and writes so many words
  abbrev later : (kind size : ℕ) → Slot → (scratch : List ℕ) → Message → (room : ℕ) → List Test
  later kind size c l b r = message_tests b ++ blinder_tests kind x c l ++ due_tests kind x.terms b ++ given (is_open x.due) (room_tests size r)

  -- the same on what it looks at, with room for `most` words
  abbrev looked_at : (kind size most : ℕ) → Message → List Test
  looked_at kind size most b = later kind size (seen blinder x.terms s) (take most_scratch scratch) b (least room most)

  later-fits : (kind size most : ℕ) → size ≤ most → sides_fit system x.terms.m x.terms.k x.terms.p ≡ true → is_slot s ≡ true
      → later kind size s scratch a room ≡ looked_at kind size most a
  unfolding blinder_tests room_tests
  later-fits kind size most few e f =
      rw (
        later-seen blinder x.terms s e f kind x.due,
        room-taken (scratch_size x.terms) most_scratch scratch (few-scratch x.terms e),
        take-take (scratch_size x.terms) most_scratch scratch (few-scratch x.terms e),
        least-room size most room few,
      ) refl

  later-judged : (kind size most : ℕ) → (sides_fit system x.terms.m x.terms.k x.terms.p ≡ true → size ≤ most)
      → kind_known a.head.kind ≡ true → judged (later kind size s scratch a room) ≡ judged (looked_at kind size most (seen_message a))
  unfolding blinder_tests later_tests open_tests message_tests terms_tests shape_tests input_tests due_tests slot_tests half_tests tape_tests body_tests kept_tests given room_tests clear both
  later-judged kind size most few known =
      let t = x.terms in
      let in-pool = seen-inside blinder t s in
      let ts = later kind size s scratch a room in
      let none = message_with a.head [] in
      let us : Message → List Test = looked_at kind size most in
      message-cases (λ b. judged ts ≡ judged (us b)) a known
      (λ h. early-size ts (us none) refl refl refl (rw h) (rw h))
      (λ h. early-size ts (us none) refl refl refl (rw h (simp both-no)) (rw h (simp both-no)))
      (λ h g. early-size ts (us none) refl refl refl (rw h (simp both-no)) (rw g (simp both-no)))
      (session-cases blinder x.due t s
      (λ o. early-turn ts (us a) refl refl refl (rw (o, in-pool) refl) (rw o (simp both-no)) (rw o (simp both-no)))
      (λ o h. early-size ts (us a) refl refl refl (rw (o, h) (simp both-no)) (rw (o, h) (simp both-no)))
      (λ o h. early-size ts (us a) refl refl refl (rw (o, h) (simp both-no)) (rw (o, in-pool, h) (simp both-no)))
      (λ e f. ap judged (later-fits kind size most (few e) e f)))

  second-judged : kind_known a.head.kind ≡ true → judged (blinder_second_tests x s scratch a room)
      ≡ judged (blinder_second_tests x (seen blinder x.terms s) (take most_scratch scratch) (seen_message a) (least room most_reply))
  unfolding blinder_second_tests
  second-judged = later-judged 3 (message_size 4 x.terms) most_reply (λ e. (few-reply x.terms e).1)

  second-done : judged (blinder_second_tests x s scratch a room) ≡ done tt → blinder_second_effect x s scratch a
      ≡ entering 0 (behind blinder x.terms s) (blinder_second_effect x (seen blinder x.terms s) (take most_scratch scratch) (seen_message a))
  unfolding blinder_second blinder_second_effect
  second-done h =
      let t = x.terms in
      let f = ((blinder-second x s scratch a room).means (accepted-by (blinder_second_tests x s scratch a room) (blinder_second_effect x s scratch a) h)).0 in
      let p = open-placed blinder t s f.later.session-open in
      rw (
        message-whole system 3 t a p.sides f.message,
        matrices-seen blinder t s p.sides p.inside,
        scratch-taken t scratch p.sides,
      )
      (ap (λ (w : List ℕ). record {
        answer = (blinder_second_effect x s scratch a).answer;
        session = (blinder_second_effect x s scratch a).session;
        slot = w;
        scratch = [];
        sent = (blinder_second_effect x s scratch a).sent;
        result = [];
      }) (kept_seen blinder t s p.sides p.inside p.room))

  pub blinder-second-seen : kind_known a.head.kind ≡ true → blinder_second x s scratch a room
      ≡ on_done (entering 0 (behind blinder x.terms s))
      (blinder_second x (seen blinder x.terms s) (take most_scratch scratch) (seen_message a) (least room most_reply))
  unfolding blinder_second
  blinder-second-seen known =
      alike (entering 0 (behind blinder x.terms s)) (blinder_second_tests x s scratch a room)
      (blinder_second_tests x (seen blinder x.terms s) (take most_scratch scratch) (seen_message a) (least room most_reply)) (blinder_second_effect x s scratch a)
      (blinder_second_effect x (seen blinder x.terms s) (take most_scratch scratch) (seen_message a)) (second-judged known) second-done

  last-judged : kind_known a.head.kind ≡ true → judged (blinder_last_tests x s scratch a room)
      ≡ judged (blinder_last_tests x (seen blinder x.terms s) (take most_scratch scratch) (seen_message a) (least room most_result))
  unfolding blinder_last_tests
  last-judged = later-judged 5 (side_size x.terms) most_result (λ e. let z = few-square x.terms e in omega (arith, z.3))

  last_done : judged (blinder_last_tests x s scratch a room) ≡ done tt → blinder_last_effect x s scratch a
      ≡ entering 0 (behind blinder x.terms s) (blinder_last_effect x (seen blinder x.terms s) (take most_scratch scratch) (seen_message a))
  unfolding blinder_last blinder_last_effect
  last_done h =
      let t = x.terms in
      let f = ((blinder-last x s scratch a room).means (accepted-by (blinder_last_tests x s scratch a room) (blinder_last_effect x s scratch a) h)).0 in
      let p = open-placed blinder t s f.later.session-open in
      rw (
        message-whole system 5 t a p.sides f.message,
        spent_seen blinder t s p.sides p.inside p.room,
        matrices-seen blinder t s p.sides p.inside,
      ) refl

  blinder-last-seen : kind_known a.head.kind ≡ true → blinder_last x s scratch a room
      ≡ on_done (entering 0 (behind blinder x.terms s))
      (blinder_last x (seen blinder x.terms s) (take most_scratch scratch) (seen_message a) (least room most_result))
  unfolding blinder_last
  blinder-last-seen known =
      alike (entering 0 (behind blinder x.terms s)) (blinder_last_tests x s scratch a room)
      (blinder_last_tests x (seen blinder x.terms s) (take most_scratch scratch) (seen_message a) (least room most_result)) (blinder_last_effect x s scratch a)
      (blinder_last_effect x (seen blinder x.terms s) (take most_scratch scratch) (seen_message a)) (last-judged known) last_done

  -- ---- step 6 of a determinant: P and Q are looked at where the others of its tests passed

  later-placed : (kind size : ℕ) → judged (later kind size s scratch a room) ≡ done tt → Placed blinder x.terms s
  unfolding blinder_tests
  later-placed kind size e =
      let t = x.terms in
      let q = t.q in
      let due = due_tests kind t a in
      let l = later_tests blinder kind x.due t s in
      let g = given (is_open x.due) (room_tests (scratch_size t) (length scratch)) in
      let km = kept_tests q (kept_m x) in
      let ky = kept_tests q (kept_y x) in
      let kw = kept_tests q (take (scratch_size t) scratch) in
      let all = (all_split (message_tests a ++ blinder_tests kind x s scratch ++ due) (given (is_open x.due) (room_tests size room))
      (passed (later kind size s scratch a room) e).0).0 in
      let own = (all_split (message_tests a) (blinder_tests kind x s scratch) (all_split (message_tests a ++ blinder_tests kind x s scratch) due all).0).1 in
      let first = (all_split l g (all_split (l ++ g) km (all_split (l ++ g ++ km) ky (all_split (l ++ g ++ km ++ ky) kw own).0).0).0).0 in
      open-placed blinder t s ((later-tests blinder kind x.due t s).0 (record { all = first })).session-open

  determinant-judged : kind_known a.head.kind ≡ true → judged (blinder_determinant_tests x s scratch a room)
      ≡ judged (blinder_determinant_tests x (seen blinder x.terms s) (take most_scratch scratch) (seen_message a) (least room most_result))
  unfolding blinder_determinant_tests regular_tests
  determinant-judged known =
      let t = x.terms in
      let ts = later 6 (message_size 6 t) s scratch a room in
      let us = looked_at 6 (message_size 6 t) most_result (seen_message a) in
      let by-p : List ℕ → Bool = λ l. regular t.q t.m (part 0 (scratch_parts t l)) in
      let by-q : Slot → Bool = λ c. regular t.q t.m (part 2 (matrices blinder t (slot_words c))) in
      let first = later-judged 6 (message_size 6 t) most_result (λ e. omega (arith, (few-reply t e).3)) known in
      let second = then-alike ts us (by-p scratch) (by-p (take most_scratch scratch)) first
      (λ e. let p = later-placed 6 (message_size 6 t) e in rw (scratch-taken t scratch p.sides) refl) in
      then-alike _ _ (by-q s) (by-q (seen blinder t s)) second
      (λ e. let p = later-placed 6 (message_size 6 t) (first-passed ts _ e) in rw (matrices-seen blinder t s p.sides p.inside) refl)

  determinant-done : judged (blinder_determinant_tests x s scratch a room) ≡ done tt → blinder_determinant_effect x s scratch a
      ≡ entering 0 (behind blinder x.terms s) (blinder_determinant_effect x (seen blinder x.terms s) (take most_scratch scratch) (seen_message a))
  unfolding blinder_determinant blinder_determinant_effect
  determinant-done h =
      let t = x.terms in
      let f = ((blinder-determinant x s scratch a room).means (accepted-by (blinder_determinant_tests x s scratch a room) (blinder_determinant_effect x s scratch a) h)).0.fits in
      let p = open-placed blinder t s f.later.session-open in
      rw (
        message-whole system 6 t a p.sides f.message,
        spent_seen blinder t s p.sides p.inside p.room,
        matrices-seen blinder t s p.sides p.inside,
        scratch-taken t scratch p.sides,
      ) refl

  blinder-determinant-seen : kind_known a.head.kind ≡ true → blinder_determinant x s scratch a room
      ≡ on_done (entering 0 (behind blinder x.terms s))
      (blinder_determinant x (seen blinder x.terms s) (take most_scratch scratch) (seen_message a) (least room most_result))
  unfolding blinder_determinant
  blinder-determinant-seen known =
      alike (entering 0 (behind blinder x.terms s)) (blinder_determinant_tests x s scratch a room)
      (blinder_determinant_tests x (seen blinder x.terms s) (take most_scratch scratch) (seen_message a) (least room most_result))
      (blinder_determinant_effect x s scratch a) (blinder_determinant_effect x (seen blinder x.terms s) (take most_scratch scratch) (seen_message a))
      (determinant-judged known) determinant-done

  pub blinder-ending-seen : kind_known a.head.kind ≡ true → blinder_ending x s scratch a room
      ≡ on_done (entering 0 (behind blinder x.terms s))
      (blinder_ending x (seen blinder x.terms s) (take most_scratch scratch) (seen_message a) (least room most_result))
  unfolding blinder_ending
  blinder-ending-seen known =
      let c = seen blinder x.terms s in
      let l = take most_scratch scratch in
      let b = seen_message a in
      let r = least room most_result in
      either-done (is_determinant x.terms) (entering 0 (behind blinder x.terms s)) (blinder_determinant x s scratch a room) (blinder_last x s scratch a room)
      (blinder_determinant x c l b r) (blinder_last x c l b r) (blinder-determinant-seen known) (blinder-last-seen known)

-- ---- the drop

module _ (x : BlinderSession) (s : Slot) (scratch : List ℕ) where
  abbrev drop-tests : Slot → List ℕ → List Test
  drop-tests c l = open_tests blinder x.due x.terms c ++ given (is_open x.due) (room_tests (scratch_size x.terms) (length l))

  drop-fits : sides_fit system x.terms.m x.terms.k x.terms.p ≡ true → is_slot s ≡ true
      → drop-tests s scratch ≡ drop-tests (seen blinder x.terms s) (take most_scratch scratch)
  unfolding room_tests
  drop-fits e f =
      rw (open-seen blinder x.terms s e f x.due, room-taken (scratch_size x.terms) most_scratch scratch (few-scratch x.terms e)) refl

  drop-judged : judged (drop-tests s scratch) ≡ judged (drop-tests (seen blinder x.terms s) (take most_scratch scratch))
  unfolding open_tests terms_tests shape_tests slot_tests half_tests tape_tests given room_tests clear both
  drop-judged =
      let t = x.terms in
      let in-pool = seen-inside blinder t s in
      let ts = drop-tests s scratch in
      let us = drop-tests (seen blinder t s) (take most_scratch scratch) in
      session-cases blinder x.due t s
      (λ o. early-turn ts us refl refl refl (rw (o, in-pool) refl) (rw o refl) (rw o refl))
      (λ o h. early-size ts us refl refl refl (rw (o, h) (simp both-no)) (rw (o, h) (simp both-no)))
      (λ o h. early-size ts us refl refl refl (rw (o, h) (simp both-no)) (rw (o, in-pool, h) (simp both-no)))
      (λ e f. ap judged (drop-fits e f))

  abbrev left_by : Slot → Effect BlinderSession
  left_by c = dropped (closed_blinder x) (words_spent blinder x.terms (slot_words c)) (zeros (scratch_size x.terms))

  drop-done : judged (drop-tests s scratch) ≡ done tt → left_by s ≡ entering 0 (behind blinder x.terms s) (left_by (seen blinder x.terms s))
  unfolding drop_blinder
  drop-done h =
      let t = x.terms in
      let f = ((drop-blinder x s scratch).means (accepted-by (drop-tests s scratch) (left_by s) h)).0 in
      let p = open-placed blinder t s f.session-open in
      rw (spent_seen blinder t s p.sides p.inside p.room) refl

  pub drop-blinder-seen : drop_blinder x s scratch
      ≡ on_done (entering 0 (behind blinder x.terms s)) (drop_blinder x (seen blinder x.terms s) (take most_scratch scratch))
  unfolding drop_blinder
  drop-blinder-seen =
      alike (entering 0 (behind blinder x.terms s)) (drop-tests s scratch) (drop-tests (seen blinder x.terms s) (take most_scratch scratch)) (left_by s)
      (left_by (seen blinder x.terms s)) drop-judged drop-done
