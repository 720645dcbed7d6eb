-- The solver's steps, on what a call looks at.
--   solver-first-seen, solver-second-seen, solver-ending-seen   the steps; the last is a system's or a determinant's
-- Assumes nothing.
use mathlib.Core.Path.{◌≡◌, refl, sym, ap, ◌∙◌}
use mathlib.Core.Bool.{Bool, true, false, cond}
use mathlib.Core.List.{List, [], ◌∷◌, ◌++◌}
use Prim.Native.Nat.{ℕ, ◌+◌, ◌*◌, ◌≤◌, ◌<◌}
use native.Mathlib.Omega.{arith}
use lib.ListN.{length, take, drop, length-take, length-drop}
use borrow.Author.Tests.{ne_eqb}
use Rattle.algebra.specs.Count.{both}
use Rattle.protocol.specs.declared.Terms.{Terms}
use Rattle.protocol.specs.declared.SolverSession.{SolverSession}
use Rattle.algebra.specs.Elimination.{regular}
use Rattle.std.specs.Prelude.{Ok, Err}
use Rattle.protocol.specs.declared.Refusal.TheVariants.{Singular}
use Rattle.protocol.specs.Judge.{Test, given, clear, done}
use Rattle.protocol.specs.Bounds.{system, sides_fit, shape_tests, terms_tests, input_tests, room_tests, most_residues}
use Rattle.protocol.specs.Tape.{Slot, is_slot, solver, slot_tests, half_tests, tape_tests, body_tests}
use Rattle.protocol.specs.Message.{Message, message_with, kind_known, is_determinant, message_size, message_tests, due_tests}
use Rattle.protocol.specs.Step.{first_tests, is_open, open_tests, later_tests}
use Rattle.protocol.specs.System.{side_size, kept_tests, regular_tests, solver_tests, solver_first_tests, solver_first_effect, solver_first}
use Rattle.protocol.specs.System.{solver_second_tests, solver_second_effect, solver_second, last_tests, joint_sum, solver_last_tests, solver_last_effect, solver_last}
use Rattle.protocol.specs.System.{solver_determinant_tests, solver_determinant_effect, solver_determinant, solver_ending}
use Rattle.protocol.proofs.StepTests.{solver-first, solver-second, solver-last, solver-determinant}
use Rattle.judging.specs.InOrder.{judged}
use Rattle.judging.proofs.InOrder.{accepted-by}
use Rattle.judging.proofs.Fits.{first-placed, open-placed}
use Rattle.local.specs.Seen.{least, seen, behind, seen_words, seen_message, most_reply}
use Rattle.local.proofs.Outcomes.{on_done, read_as, entering, both-alike, either-done, alike}
use Rattle.local.proofs.Slots.{seen-inside, matrices-seen, in-use-seen, spent_seen, kept_seen}
use Rattle.local.proofs.Tests.{first-seen, later-seen, both-no, early-size, early-turn, message-cases, session-cases, first-cases}
use Rattle.local.proofs.Tests.{message-whole, words-whole, cut-length, few-square, few-reply}
use Rattle.local.proofs.Product.{least-room}

-- ---- step 1. The input is L with x behind it

module _ (t : Terms) (s : Slot) (input : List ℕ) (room : ℕ) where
  abbrev matrix : List ℕ → List ℕ
  matrix l = take (t.m * t.m) l

  abbrev vector : List ℕ → List ℕ
  vector l = drop (t.m * t.m) l

  abbrev tests : Slot → List ℕ → List Test
  tests c l = solver_first_tests t c (matrix l) (vector l) room

  solver-first-fits : sides_fit system t.m t.k t.p ≡ true → is_slot s ≡ true → tests s input ≡ tests (seen solver t s) input
  unfolding solver_first_tests
  solver-first-fits e f = rw (first-seen solver t s e f) refl

  solver-first-judged : judged (tests s input) ≡ judged (tests (seen solver t s) (seen_words input))
  unfolding solver_first_tests first_tests terms_tests shape_tests input_tests slot_tests half_tests tape_tests body_tests room_tests regular_tests clear both
  solver-first-judged =
      let in-pool = seen-inside solver t s in
      let ts = tests s input in
      let us : List ℕ → List Test = tests (seen solver t s) in
      first-cases (λ l. judged ts ≡ judged (us l)) solver t s input
      (λ l h. early-size ts (us l) refl refl refl (rw h (simp both-no)) (rw h (simp both-no)))
      (λ l h. early-size ts (us l) refl refl refl (rw h (simp both-no)) (rw (in-pool, h) (simp both-no)))
      (λ l h.
      let z = few-square t h in
      early-size ts (us []) refl refl refl
      (rw (ne_eqb (length (vector input)) (side_size t) (λ g. omega (arith, l, z.2, z.3, cut-length (t.m * t.m) input, g))) (simp both-no))
      (rw (ne_eqb (length (matrix [])) (t.m * t.m) (λ g. omega (arith, z.0, length-take {A = ℕ} (t.m * t.m) [], g))) (simp both-no)))
      (λ e f. ap judged (solver-first-fits e f))

  solver-first-done : judged (tests s input) ≡ done tt → solver_first_effect t s (matrix input) (vector input)
      ≡ entering 0 (behind solver t s) (solver_first_effect t (seen solver t s) (matrix (seen_words input)) (vector (seen_words input)))
  unfolding solver_first solver_first_effect
  solver-first-done h =
      let f = ((solver-first t s (matrix input) (vector input) room).means
      (accepted-by (tests s input) (solver_first_effect t s (matrix input) (vector input)) h)).0 in
      let p = first-placed solver t s f.first in
      let z = few-square t p.sides in
      rw (
        words-whole input (omega (arith, f.x_fits.size, z.2, z.3, cut-length (t.m * t.m) input)),
        in-use-seen solver t s p.sides p.inside p.room,
        matrices-seen solver t s p.sides p.inside,
      ) refl

  pub solver-first-seen : solver_first t s (matrix input) (vector input) room
      ≡ on_done (entering 0 (behind solver t s)) (solver_first t (seen solver t s) (matrix (seen_words input)) (vector (seen_words input)) room)
  unfolding solver_first
  solver-first-seen =
      alike (entering 0 (behind solver t s)) (tests s input) (tests (seen solver t s) (seen_words input)) (solver_first_effect t s (matrix input) (vector input))
      (solver_first_effect t (seen solver t s) (matrix (seen_words input)) (vector (seen_words input))) solver-first-judged solver-first-done

-- ---- steps 3 and 5

-- a singular sum, too, reads no words
read_none : (b : Bool) → read_as 0 (cond b (Ok 0) (Err Singular)) ≡ cond b (Ok 0) (Err Singular)
read_none true = refl
read_none false = refl

module _ (x : SolverSession) (s : Slot) (a : Message) (room : ℕ) where
  -- the tests of a step that takes a message of this kind and sends so many residues
  abbrev later : (kind size : ℕ) → Slot → Message → (room : ℕ) → List Test
  later kind size c b r = message_tests b ++ solver_tests kind x c ++ due_tests kind x.terms b ++ given (is_open x.due) (room_tests size r)

  -- the same on what it looks at
  abbrev looked_at : (kind size : ℕ) → Message → List Test
  looked_at kind size b = later kind size (seen solver x.terms s) b (least room most_reply)

  later-fits : (kind size : ℕ) → size ≤ most_reply → sides_fit system x.terms.m x.terms.k x.terms.p ≡ true → is_slot s ≡ true
      → later kind size s a room ≡ looked_at kind size a
  unfolding solver_tests room_tests
  later-fits kind size few e f = rw (later-seen solver x.terms s e f kind x.due, least-room size most_reply room few) refl

  later-judged : (kind size : ℕ) → (sides_fit system x.terms.m x.terms.k x.terms.p ≡ true → size ≤ most_reply)
      → kind_known a.head.kind ≡ true → judged (later kind size s a room) ≡ judged (looked_at kind size (seen_message a))
  unfolding solver_tests later_tests open_tests message_tests terms_tests shape_tests input_tests due_tests slot_tests half_tests tape_tests body_tests kept_tests given room_tests clear both
  later-judged kind size few known =
      let t = x.terms in
      let in-pool = seen-inside solver t s in
      let ts = later kind size s a room in
      let none = message_with a.head [] in
      let us : Message → List Test = looked_at kind size in
      message-cases (λ b. judged ts ≡ judged (us b)) a known
      (λ h. early-size ts (us none) refl refl refl (rw h) (rw h))
      (λ h. early-size ts (us none) refl refl refl (rw h (simp both-no)) (rw h (simp both-no)))
      (λ h g. early-size ts (us none) refl refl refl (rw h (simp both-no)) (rw g (simp both-no)))
      (session-cases solver x.due t s
      (λ o. early-turn ts (us a) refl refl refl (rw (o, in-pool) refl) (rw o (simp both-no)) (rw o (simp both-no)))
      (λ o h. early-size ts (us a) refl refl refl (rw (o, h) (simp both-no)) (rw (o, h) (simp both-no)))
      (λ o h. early-size ts (us a) refl refl refl (rw (o, h) (simp both-no)) (rw (o, in-pool, h) (simp both-no)))
      (λ e f. ap judged (later-fits kind size (few e) e f)))

  second-judged : kind_known a.head.kind ≡ true
      → judged (solver_second_tests x s a room) ≡ judged (solver_second_tests x (seen solver x.terms s) (seen_message a) (least room most_reply))
  unfolding solver_second_tests
  second-judged = later-judged 2 (message_size 3 x.terms) (λ e. (few-reply x.terms e).0)

  second-done : judged (solver_second_tests x s a room) ≡ done tt
      → solver_second_effect x s a ≡ entering 0 (behind solver x.terms s) (solver_second_effect x (seen solver x.terms s) (seen_message a))
  unfolding solver_second solver_second_effect
  second-done h =
      let t = x.terms in
      let f = ((solver-second x s a room).means (accepted-by (solver_second_tests x s a room) (solver_second_effect x s a) h)).0 in
      let p = open-placed solver t s f.later.session-open in
      rw (message-whole system 2 t a p.sides f.message, matrices-seen solver t s p.sides p.inside)
      (ap (λ (w : List ℕ). record {
        answer = (solver_second_effect x s a).answer;
        session = (solver_second_effect x s a).session;
        slot = w;
        scratch = [];
        sent = (solver_second_effect x s a).sent;
        result = [];
      }) (kept_seen solver t s p.sides p.inside p.room))

  pub solver-second-seen : kind_known a.head.kind ≡ true → solver_second x s a room
      ≡ on_done (entering 0 (behind solver x.terms s)) (solver_second x (seen solver x.terms s) (seen_message a) (least room most_reply))
  unfolding solver_second
  solver-second-seen known =
      alike (entering 0 (behind solver x.terms s)) (solver_second_tests x s a room)
      (solver_second_tests x (seen solver x.terms s) (seen_message a) (least room most_reply)) (solver_second_effect x s a)
      (solver_second_effect x (seen solver x.terms s) (seen_message a)) (second-judged known) second-done

  -- either last step
  last-judged : (kind size : ℕ) → (sides_fit system x.terms.m x.terms.k x.terms.p ≡ true → size ≤ most_reply)
      → kind_known a.head.kind ≡ true
      → judged (later 4 size s a room ++ last_tests kind x.terms) ≡ judged (looked_at 4 size (seen_message a) ++ last_tests kind x.terms)
  last-judged kind size few known =
      both-alike (later 4 size s a room) (looked_at 4 size (seen_message a)) (last_tests kind x.terms) (later-judged 4 size few known)

  last_done : judged (solver_last_tests x s a room) ≡ done tt
      → solver_last_effect x s a ≡ entering 0 (behind solver x.terms s) (solver_last_effect x (seen solver x.terms s) (seen_message a))
  unfolding solver_last solver_last_effect joint_sum
  last_done h =
      let t = x.terms in
      let f = ((solver-last x s a room).means (accepted-by (solver_last_tests x s a room) (solver_last_effect x s a) h)).0.fits in
      let p = open-placed solver t s f.later.session-open in
      rw (
        read_none (regular t.q t.m (joint_sum x (seen solver t s) (seen_message a))),
        message-whole system 4 t a p.sides f.message,
        spent_seen solver t s p.sides p.inside p.room,
        matrices-seen solver t s p.sides p.inside,
      ) refl

  solver-last-seen : kind_known a.head.kind ≡ true → solver_last x s a room
      ≡ on_done (entering 0 (behind solver x.terms s)) (solver_last x (seen solver x.terms s) (seen_message a) (least room most_reply))
  unfolding solver_last solver_last_tests
  solver-last-seen known =
      alike (entering 0 (behind solver x.terms s)) (solver_last_tests x s a room)
      (solver_last_tests x (seen solver x.terms s) (seen_message a) (least room most_reply)) (solver_last_effect x s a)
      (solver_last_effect x (seen solver x.terms s) (seen_message a)) (last-judged 5 (message_size 5 x.terms) (λ e. (few-reply x.terms e).2) known) last_done

  determinant-done : judged (solver_determinant_tests x s a room) ≡ done tt
      → solver_determinant_effect x s a ≡ entering 0 (behind solver x.terms s) (solver_determinant_effect x (seen solver x.terms s) (seen_message a))
  unfolding solver_determinant solver_determinant_effect joint_sum
  determinant-done h =
      let t = x.terms in
      let f = ((solver-determinant x s a room).means (accepted-by (solver_determinant_tests x s a room) (solver_determinant_effect x s a) h)).0.fits in
      let p = open-placed solver t s f.later.session-open in
      rw (
        message-whole system 4 t a p.sides f.message,
        spent_seen solver t s p.sides p.inside p.room,
        matrices-seen solver t s p.sides p.inside,
      ) refl

  solver-determinant-seen : kind_known a.head.kind ≡ true → solver_determinant x s a room
      ≡ on_done (entering 0 (behind solver x.terms s)) (solver_determinant x (seen solver x.terms s) (seen_message a) (least room most_reply))
  unfolding solver_determinant solver_determinant_tests
  solver-determinant-seen known =
      alike (entering 0 (behind solver x.terms s)) (solver_determinant_tests x s a room)
      (solver_determinant_tests x (seen solver x.terms s) (seen_message a) (least room most_reply)) (solver_determinant_effect x s a)
      (solver_determinant_effect x (seen solver x.terms s) (seen_message a)) (last-judged 6 (message_size 6 x.terms) (λ e. (few-reply x.terms e).3) known)
      determinant-done

  pub solver-ending-seen : kind_known a.head.kind ≡ true → solver_ending x s a room
      ≡ on_done (entering 0 (behind solver x.terms s)) (solver_ending x (seen solver x.terms s) (seen_message a) (least room most_reply))
  unfolding solver_ending
  solver-ending-seen known =
      let c = seen solver x.terms s in
      let b = seen_message a in
      let r = least room most_reply in
      either-done (is_determinant x.terms) (entering 0 (behind solver x.terms s)) (solver_determinant x s a room) (solver_last x s a room)
      (solver_determinant x c b r) (solver_last x c b r) (solver-determinant-seen known) (solver-last-seen known)
