-- The steps of a product, on what a call looks at.
--   least-room                                  room for what is bounded
--   right-first-seen, left-seen, right-last-seen   the three steps
-- Assumes nothing.
use mathlib.Core.Path.{◌≡◌, refl, sym, ap, ◌∙◌}
use mathlib.Core.Bool.{Bool, true, false, cond}
use mathlib.Core.List.{List, [], ◌∷◌, ◌++◌}
use Prim.Native.Nat.{ℕ, ◌+◌, ◌*◌, ◌≤◌, ◌<◌}
use native.Mathlib.Omega.{arith}
use native.Mathlib.Decide.{dec_le}
use lib.Dec.{leb, eqb}
use lib.ListN.{length, take}
use borrow.Author.Tests.{le-leb, lt-leb, leb-false, ne_eqb}
use Rattle.algebra.specs.Count.{both, part}
use Rattle.protocol.specs.declared.Terms.{Terms}
use Rattle.protocol.specs.declared.RightSession.{RightSession}
use Rattle.protocol.specs.declared.Refusal.TheVariants.{Form, Modulus, Composite, Size, Turn}
use Rattle.protocol.specs.Judge.{Test, needs, given, clear, Judged, refused, done, judge}
use Rattle.protocol.specs.Bounds.{product, sides_fit, shape_tests, terms_tests, input_tests, room_tests}
use Rattle.protocol.specs.Tape.{Slot, is_slot, slot_words, left, right, tape_size, matrices, slot_tests, half_tests, tape_tests, body_tests}
use Rattle.protocol.specs.Message.{Message, message_with, kind_known, message_parts, message_size, message_tests, due_tests}
use Rattle.protocol.specs.Line.{most_sent}
use Rattle.protocol.specs.Drawing.{words_read, draw_tests}
use Rattle.protocol.specs.Step.{Effect, first_tests, is_open, open_tests, later_tests}
use Rattle.protocol.specs.Product.{right_first_tests, right_first_effect, right_first, left_tests, left_effect, left_step, right_last_tests, right_last_effect, right_last}
use Rattle.protocol.proofs.Tests.{OpenFits}
use Rattle.protocol.proofs.StepTests.{right-first, left_step_lem, right-last}
use Rattle.judging.specs.InOrder.{judged}
use Rattle.judging.proofs.InOrder.{accepted-by}
use Rattle.tape.specs.Placed.{Placed}
use Rattle.judging.proofs.Fits.{first-placed, open-placed}
use Rattle.tape.proofs.Sides.{sides}
use Rattle.algebra.proofs.Tests.{and_left, and_right}
use Rattle.drawing.proofs.Sifting.{kept-tests, kept-drawn}
use Rattle.local.specs.Seen.{least, seen, behind, seen_words, seen_message, opening_message, most_result}
use Rattle.local.proofs.Outcomes.{on_done, entering, alike}
use Rattle.local.proofs.Sifted.{Sifts}
use Rattle.local.proofs.Slots.{least-left, least-right, seen-inside, matrices-seen, in-use-seen, spent_seen}
use Rattle.local.proofs.Tests.{first-seen, later-seen, both-no, early-size, early-turn, message-cases, session-cases, first-cases}
use Rattle.local.proofs.Tests.{opening-judged, message-whole, opening-whole, words-whole, some-mk, some-kp}

-- room for what is at most b
pub least-room : (n b room : ℕ) → n ≤ b → leb n (least room b) ≡ leb n room
least-room n b room h =
    elim (dec_le room b) [
      | yes g ↦ ap (leb n) (least-left room b g)
      | no g ↦ let k : b < room = omega arith in ap (leb n) (least-right room b k) ∙ (le-leb n b h ∙ sym (le-leb n room (omega arith)))
    ]

-- ---- right's first step

module _ (t : Terms) (s : Slot) (y : List ℕ) (room : ℕ) where
  right-first-fits : sides_fit product t.m t.k t.p ≡ true → is_slot s ≡ true
      → right_first_tests t s y room ≡ right_first_tests t (seen right t s) y room
  unfolding right_first_tests
  right-first-fits e f = rw (first-seen right t s e f) refl

  right-first-judged : judged (right_first_tests t s y room) ≡ judged (right_first_tests t (seen right t s) (seen_words y) room)
  unfolding right_first_tests first_tests terms_tests shape_tests input_tests slot_tests half_tests tape_tests body_tests room_tests clear both
  right-first-judged =
      let in-pool = seen-inside right t s in
      let ts = right_first_tests t s y room in
      let us : List ℕ → List Test = λ l. right_first_tests t (seen right t s) l room in
      first-cases (λ l. judged ts ≡ judged (us l)) right t s y
      (λ l h. early-size ts (us l) refl refl refl (rw h (simp both-no)) (rw h (simp both-no)))
      (λ l h. early-size ts (us l) refl refl refl (rw h (simp both-no)) (rw (in-pool, h) (simp both-no)))
      (λ l h.
      let z = sides t.m t.k t.p h in
      early-size ts (us []) refl refl refl
      (rw (ne_eqb (length y) (t.k * t.p) (λ g. omega (arith, l, z.few-kp, g))) (simp both-no))
      (rw (ne_eqb 0 (t.k * t.p) (λ g. omega (arith, some-kp product t h, g))) (simp both-no)))
      (λ e f. ap judged (right-first-fits e f))

  right-first-done : judged (right_first_tests t s y room) ≡ done tt
      → right_first_effect t s y ≡ entering 0 (behind right t s) (right_first_effect t (seen right t s) (seen_words y))
  unfolding right_first right_first_effect
  right-first-done h =
      let f = ((right-first t s y room).means (accepted-by (right_first_tests t s y room) (right_first_effect t s y) h)).0 in
      let p = first-placed right t s f.first in
      let z = sides t.m t.k t.p p.sides in
      rw (
        words-whole y (omega (arith, f.y-fits.size, z.few-kp)),
        in-use-seen right t s p.sides p.inside p.room,
        matrices-seen right t s p.sides p.inside,
      ) refl

  pub right-first-seen : right_first t s y room ≡ on_done (entering 0 (behind right t s)) (right_first t (seen right t s) (seen_words y) room)
  unfolding right_first
  right-first-seen =
      alike (entering 0 (behind right t s)) (right_first_tests t s y room) (right_first_tests t (seen right t s) (seen_words y) room) (right_first_effect t s y)
      (right_first_effect t (seen right t s) (seen_words y)) right-first-judged right-first-done

-- ---- left's step

-- `kept`: the raw words that are kept, as many as are drawn; `read`: how many are read for them
module _ (t : Terms) (s : Slot) (x words kept : List ℕ) (read : ℕ) (sifts : Sifts product (t.m * t.p) t words kept read) (a : Message) (room share : ℕ) where
  left-fits : (b : Message) → sides_fit product t.m t.k t.p ≡ true → is_slot s ≡ true
      → left_tests t s x words b room share ≡ left_tests t (seen left t s) x kept b room (least share most_result)
  unfolding left_tests room_tests
  left-fits b e f =
      rw (
        first-seen left t s e f,
        sifts.words e,
        kept-tests t.q (t.m * t.p) (t.m * t.p) words (omega arith),
        least-room (t.m * t.p) most_result share (sides t.m t.k t.p e).few-mp,
      ) refl

  -- with one and the same message
  left-alike : (b : Message)
      → judged (left_tests t s x words b room share) ≡ judged (left_tests t (seen left t s) (seen_words x) kept b room (least share most_result))
  unfolding left_tests first_tests message_tests terms_tests shape_tests input_tests due_tests slot_tests half_tests tape_tests body_tests room_tests draw_tests clear both
  left-alike b =
      let in-pool = seen-inside left t s in
      let ts = left_tests t s x words b room share in
      let us : List ℕ → List Test = λ l. left_tests t (seen left t s) l kept b room (least share most_result) in
      first-cases (λ l. judged ts ≡ judged (us l)) left t s x
      (λ l h. early-size ts (us l) refl refl refl (rw h (simp both-no)) (rw h (simp both-no)))
      (λ l h. early-size ts (us l) refl refl refl (rw h (simp both-no)) (rw (in-pool, h) (simp both-no)))
      (λ l h.
      let z = sides t.m t.k t.p h in
      early-size ts (us []) refl refl refl
      (rw (ne_eqb (length x) (t.m * t.k) (λ g. omega (arith, l, z.few-mk, g))) (simp both-no))
      (rw (ne_eqb 0 (t.m * t.k) (λ g. omega (arith, some-mk product t h, g))) (simp both-no)))
      (λ e f. ap judged (left-fits b e f))

  -- the tests after those of the message
  abbrev left_after : List Test
  left_after =
      input_tests t.q (t.m * t.k) x
      ++ room_tests (message_size 2 t) room
      ++ room_tests (t.m * t.p) share
      ++ draw_tests t.q (t.m * t.p) words

  left-judged : kind_known a.head.kind ≡ true
      → judged (left_tests t s x words a room share) ≡ judged (left_tests t (seen left t s) (seen_words x) kept (opening_message a) room (least share most_result))
  unfolding left_tests first_tests message_tests terms_tests shape_tests input_tests due_tests slot_tests half_tests tape_tests body_tests
  left-judged known = opening-judged t (first_tests left t s) left_after a known ∙ left-alike (opening_message a)

  abbrev left_grown : Effect Unit → Effect Unit
  left_grown e = entering read (behind left t s) e

  left-done : judged (left_tests t s x words a room share) ≡ done tt
      → left_effect t s x words a ≡ left_grown (left_effect t (seen left t s) (seen_words x) kept (opening_message a))
  unfolding left_step left_effect
  left-done h =
      let f = ((left_step_lem t s x words a room share).means (accepted-by (left_tests t s x words a room share) (left_effect t s x words a) h)).0 in
      let p = first-placed left t s f.first in
      let z = sides t.m t.k t.p p.sides in
      rw (
        opening-whole product t a p.sides f.message,
        words-whole x (omega (arith, f.x_fits.size, z.few-mk)),
        sifts.words p.sides,
        kept-drawn t.q (t.m * t.p) (t.m * t.p) words (omega arith),
        sifts.count p.sides,
        spent_seen left t s p.sides p.inside p.room,
        matrices-seen left t s p.sides p.inside,
      ) refl

  pub left-seen : kind_known a.head.kind ≡ true → left_step t s x words a room share
      ≡ on_done left_grown (left_step t (seen left t s) (seen_words x) kept (opening_message a) room (least share most_result))
  unfolding left_step
  left-seen known =
      alike left_grown (left_tests t s x words a room share)
      (left_tests t (seen left t s) (seen_words x) kept (opening_message a) room (least share most_result)) (left_effect t s x words a)
      (left_effect t (seen left t s) (seen_words x) kept (opening_message a)) (left-judged known) left-done

-- ---- right's last step

module _ (x : RightSession) (s : Slot) (a : Message) (room : ℕ) where
  right-last-fits : sides_fit product x.terms.m x.terms.k x.terms.p ≡ true → is_slot s ≡ true
      → right_last_tests x s a room ≡ right_last_tests x (seen right x.terms s) a (least room most_result)
  unfolding right_last_tests room_tests
  right-last-fits e f =
      let t = x.terms in
      rw (later-seen right t s e f 2 x.due, least-room (t.m * t.p) most_result room (sides t.m t.k t.p e).few-mp) refl

  right-last-judged : kind_known a.head.kind ≡ true
      → judged (right_last_tests x s a room) ≡ judged (right_last_tests x (seen right x.terms s) (seen_message a) (least room most_result))
  unfolding right_last_tests later_tests open_tests message_tests terms_tests shape_tests input_tests due_tests slot_tests half_tests tape_tests body_tests given room_tests clear both
  right-last-judged known =
      let t = x.terms in
      let in-pool = seen-inside right t s in
      let ts = right_last_tests x s a room in
      let none = message_with a.head [] in
      let us : Message → List Test = λ b. right_last_tests x (seen right t s) b (least room most_result) in
      message-cases (λ b. judged ts ≡ judged (us b)) a known
      (λ h. early-size ts (us none) refl refl refl (rw h) (rw h))
      (λ h. early-size ts (us none) refl refl refl (rw h (simp both-no)) (rw h (simp both-no)))
      (λ h g. early-size ts (us none) refl refl refl (rw h (simp both-no)) (rw g (simp both-no)))
      (session-cases right x.due t s
      (λ o. early-turn ts (us a) refl refl refl (rw (o, in-pool) refl) (rw o (simp both-no)) (rw o (simp both-no)))
      (λ o h. early-size ts (us a) refl refl refl (rw (o, h) (simp both-no)) (rw (o, h) (simp both-no)))
      (λ o h. early-size ts (us a) refl refl refl (rw (o, h) (simp both-no)) (rw (o, in-pool, h) (simp both-no)))
      (λ e f. ap judged (right-last-fits e f)))

  right-last-effect : Placed right x.terms s → seen_message a ≡ a
      → right_last_effect x s a ≡ entering 0 (behind right x.terms s) (right_last_effect x (seen right x.terms s) (seen_message a))
  unfolding right_last_effect
  right-last-effect p e =
      let t = x.terms in
      rw (e, spent_seen right t s p.sides p.inside p.room, matrices-seen right t s p.sides p.inside) refl

  right-last-done : judged (right_last_tests x s a room) ≡ done tt
      → right_last_effect x s a ≡ entering 0 (behind right x.terms s) (right_last_effect x (seen right x.terms s) (seen_message a))
  unfolding right_last
  right-last-done h =
      let f = ((right-last x s a room).means (accepted-by (right_last_tests x s a room) (right_last_effect x s a) h)).0 in
      let p = open-placed right x.terms s f.later.session-open in
      right-last-effect p (message-whole product 2 x.terms a p.sides f.message)

  pub right-last-seen : kind_known a.head.kind ≡ true → right_last x s a room
      ≡ on_done (entering 0 (behind right x.terms s)) (right_last x (seen right x.terms s) (seen_message a) (least room most_result))
  unfolding right_last
  right-last-seen known =
      alike (entering 0 (behind right x.terms s)) (right_last_tests x s a room)
      (right_last_tests x (seen right x.terms s) (seen_message a) (least room most_result)) (right_last_effect x s a)
      (right_last_effect x (seen right x.terms s) (seen_message a)) (right-last-judged known) right-last-done
