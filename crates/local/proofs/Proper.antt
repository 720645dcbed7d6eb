-- The effect of an accepted call on a slot: lengths, and what a refusal sends.
--   Proper                                       what is known of it
--   right-first-proper .. drop-blinder-proper    of every step and every drop
--   first-proper, next-proper, drop-proper       of the calls over a session's record
-- Assumes nothing.
use mathlib.Core.Path.{◌≡◌, refl, sym, ap, ◌∙◌, subst}
use mathlib.Core.Bool.{Bool, true, false, cond}
use mathlib.Core.List.{List}
use Prim.Native.Nat.{ℕ, suc, ◌*◌, ◌<◌}
use native.Mathlib.Omega.{arith}
use lib.Dec.{eqb, eqb-suc-zero}
use lib.ListN.{length, take, drop}
use Rattle.algebra.specs.Count.{join}
use Rattle.algebra.specs.Elimination.{regular}
use Rattle.algebra.specs.Product.{send_y, send_x, send_r}
use Rattle.algebra.specs.System.{send_f, send_w, send_c, sum_matrix}
use Rattle.algebra.proofs.Lists.{add-residues, sub-residues}
use Rattle.algebra.proofs.Parts.{Fits, none, ◌then◌, fits-join}
use Rattle.algebra.proofs.Prime.{prime-test}
use Rattle.algebra.proofs.Elimination.{solution-solves}
use Rattle.protocol.specs.declared.Terms.{Terms}
use Rattle.protocol.specs.declared.Refusal.{Refusal}
use Rattle.protocol.specs.declared.Refusal.TheVariants.{Size}
use Rattle.std.specs.Prelude.{Ok, Err}
use Rattle.protocol.specs.declared.RightSession.{RightSession}
use Rattle.protocol.specs.declared.SolverSession.{SolverSession}
use Rattle.protocol.specs.declared.BlinderSession.{BlinderSession}
use Rattle.protocol.specs.Judge.{refused, done}
use Rattle.protocol.specs.Bounds.{Sort, product, system, field_fits, columns}
use Rattle.protocol.specs.Tape.{Slot, is_slot, slot_words, Role, left, right, blinder, solver, words_in_use, words_spent}
use Rattle.protocol.specs.Message.{Message, no_message, is_determinant, last_kind, message_layout, message_size}
use Rattle.protocol.specs.Step.{answer_number, Effect, Outcome}
use Rattle.protocol.specs.Product.{right_first_effect, right_first, left_effect, left_step, right_last_effect, right_last}
use Rattle.protocol.specs.System.{joint_sum, solver_first_effect, solver_first, blinder_first_effect, blinder_first, solver_second_effect, solver_second}
use Rattle.protocol.specs.System.{blinder_second_effect, blinder_second, solver_last_effect, solver_last, blinder_last_effect, blinder_last}
use Rattle.protocol.specs.System.{solver_determinant_effect, solver_determinant, solver_ending, blinder_determinant_effect, blinder_determinant}
use Rattle.protocol.specs.Drop.{drop_right, drop_solver, drop_blinder}
use Rattle.protocol.proofs.Judge.{refused≢done, not-zero}
use Rattle.protocol.proofs.Slots.{slot-length, used-length, spent-length}
use Rattle.protocol.proofs.Tests.{Decides, TermsFit, system-sides, product-of-system}
use Rattle.protocol.proofs.StepTests.{right-first, left_step_lem, right-last, solver-first, blinder-first, solver-second, solver-last, solver-determinant, blinder-second, blinder-last, blinder-determinant, drop-right, drop-solver, drop-blinder}
use Rattle.tape.specs.Placed.{Placed}
use Rattle.tape.proofs.Slots.{half-body}
use Rattle.judging.proofs.Fits.{first-placed, open-placed}
use Rattle.judging.proofs.KindLaws.{last-system}
use Rattle.entry.specs.declared.Session.{Session}
use Rattle.entry.specs.Record.{LEFT, RIGHT, BLINDER, SOLVER, right_of, solver_of, blinder_of, of_left, of_right, of_solver, of_blinder}
use Rattle.entry.specs.Steps.{recorded, first_step, blinder_ending, next_step, drop_step}
use Rattle.local.specs.Seen.{sent_size}

-- what is known of the effect of an accepted call on a slot
pub record Proper {S : Type 0} (c : Slot) (e : Effect S) : Type 0 where
  -- the slot lies in its pool, and has as many words as before
  pub inside : is_slot c ≡ true
  pub slot : length e.slot ≡ c.size
  -- the message has as many residues as its head tells
  pub count : length e.sent.residues ≡ sent_size e.sent.head
  -- an answer that is a refusal sends nothing
  pub refused-sends : (r : Refusal) → e.answer ≡ Err r → e.sent ≡ no_message

-- of every effect of an outcome
abbrev Propers : {S : Type 0} → Slot → Outcome S → Type 0
Propers {S} s o = (e : Effect S) → o ≡ done e → Proper s e

-- a call that is accepted where its tests hold
by-effect : {S : Type 0} {s : Slot} {o : Outcome S} {d : Effect S} {F : Type 0} → Decides o d F → (F → Proper s d) → Propers s o
by-effect {S} {s} c k e h =
    let (f, same) = c.means h in
    subst (Proper s) same (k f)

-- ---- slots and messages

-- a half in use is as long as its slot
used : {role : Role} {t : Terms} {s : Slot} → Placed role t s → length (words_in_use (slot_words s)) ≡ s.size
used {role} {t} {s} p = used-length s p.inside (omega (arith, half-body role t, p.room))

-- and so is one that is spent
gone : {role : Role} {t : Terms} {s : Slot} → Placed role t s → length (words_spent role t (slot_words s)) ≡ s.size
gone {role} {t} {s} p = spent-length role t s p.inside p.room

positive : {sort : Sort} {t : Terms} → TermsFit sort t → 0 < t.q
positive f = omega (arith, f.big)

square : {t : Terms} → TermsFit system t → t.k ≡ t.m
square {t} f = ((system-sides t.m t.k t.p).0 f.sides).k-is

one-column : {t : Terms} → TermsFit system t → last_kind t.m t.p ≡ 5 → columns t.m t.p ≡ 1
unfolding columns
one-column {t} f l =
    let s = (system-sides t.m t.k t.p).0 f.sides in
    omega (arith, s.low, s.high, last-system t.m t.p l)

-- a message whose parts are as its kind has them
parts-count : (kind : ℕ) {t : Terms} {ls : List (List ℕ)} → TermsFit product t → Fits t.q (message_layout (suc kind) t.m t.k t.p) ls
    → length (join ls) ≡ sent_size (record { kind = suc kind; terms = t })
unfolding sent_size message_size
parts-count kind f ps = rw (eqb-suc-zero kind, f.sides) (fits-join ps).size

one-count : {t : Terms} → TermsFit product t → 1 ≡ sent_size (record { kind = 6; terms = t })
unfolding sent_size message_size message_layout
one-count f = rw f.sides refl

no-count : length no_message.residues ≡ sent_size no_message.head
unfolding sent_size
no-count = refl

module _ {S : Type 0} {role : Role} {t : Terms} {s : Slot} (p : Placed role t s) (e : Effect S) where
  -- an effect that is no refusal
  accepted : (n : ℕ) → e.answer ≡ Ok n → length e.slot ≡ s.size → length e.sent.residues ≡ sent_size e.sent.head → Proper s e
  accepted n a l c =
      record { inside = p.inside; slot = l; count = c; refused-sends = λ r h. absurd (omega (arith, not-zero r, ap answer_number (sym a ∙ h))) }

  -- one that spends the half and sends nothing
  ends : e.answer ≡ Ok 0 → e.slot ≡ words_spent role t (slot_words s) → e.sent ≡ no_message → Proper s e
  ends a l m = accepted 0 a (ap length l ∙ gone p) (rw m no-count)

-- ---- a product

pub right-first-proper : (t : Terms) (s : Slot) (y : List ℕ) (room : ℕ) (e : Effect RightSession) → right_first t s y room ≡ done e → Proper s e
unfolding right_first_effect message_layout send_y
right-first-proper t s y room = by-effect (right-first t s y room) (λ f.
    let p = first-placed right t s f.first in
    let g = f.first.terms in
    accepted p _ 0 refl (used p) (parts-count 0 g (sub-residues (positive g) (t.k * t.p) _ _ then none)))

pub left-proper : (t : Terms) (s : Slot) (x words : List ℕ) (a : Message) (room share : ℕ) (e : Effect Unit) → left_step t s x words a room share ≡ done e
    → Proper s e
unfolding left_effect message_layout send_x send_r
left-proper t s x words a room share = by-effect (left_step_lem t s x words a room share) (λ f.
    let p = first-placed left t s f.first in
    let g = f.first.terms in
    accepted p _ _ refl (gone p)
    (parts-count 1 g (add-residues (positive g) (t.m * t.k) _ _ then sub-residues (positive g) (t.m * t.p) _ _ then none)))

pub right-last-proper : (x : RightSession) (s : Slot) (a : Message) (room : ℕ) (e : Effect RightSession) → right_last x s a room ≡ done e → Proper s e
unfolding right_last_effect
right-last-proper x s a room =
    by-effect (right-last x s a room) (λ f. ends (open-placed right x.terms s f.later.session-open) _ refl refl refl)

-- ---- a system

pub solver-first-proper : (t : Terms) (s : Slot) (l x : List ℕ) (room : ℕ) (e : Effect SolverSession) → solver_first t s l x room ≡ done e → Proper s e
unfolding solver_first_effect message_layout send_y
solver-first-proper t s l x room = by-effect (solver-first t s l x room) (λ f.
    let p = first-placed solver t s f.first in
    let g = f.first.terms in
    accepted p _ 0 refl (used p) (parts-count 0 (product-of-system t g) (rw (square g) (sub-residues (positive g) (t.m * t.p) _ _) then none)))

pub blinder-first-proper : (t : Terms) (s : Slot) (scratch_room : ℕ) (mm y words : List ℕ) (a : Message) (room : ℕ) (e : Effect BlinderSession)
    → blinder_first t s scratch_room mm y words a room ≡ done e → Proper s e
unfolding blinder_first_effect message_layout send_x send_r
blinder-first-proper t s scratch_room mm y words a room = by-effect (blinder-first t s scratch_room mm y words a room) (λ f.
    let p = first-placed blinder t s f.first in
    let g = f.first.terms in
    accepted p _ _ refl (used p)
    (parts-count 1 (product-of-system t g)
    (rw (square g) (add-residues (positive g) (t.m * t.m) _ _) then sub-residues (positive g) (t.m * t.p) _ _ then none)))

pub solver-second-proper : (x : SolverSession) (s : Slot) (a : Message) (room : ℕ) (e : Effect SolverSession) → solver_second x s a room ≡ done e
    → Proper s e
unfolding solver_second_effect message_layout send_f
solver-second-proper x s a room = by-effect (solver-second x s a room) (λ f.
    let p = open-placed solver x.terms s f.later.session-open in
    let g = f.later.session-open.terms in
    accepted p _ 0 refl (slot-length s p.inside)
    (parts-count 2 (product-of-system x.terms g) (rw (square g) (sub-residues (positive g) (x.terms.m * x.terms.m) _ _) then none)))

pub blinder-second-proper : (x : BlinderSession) (s : Slot) (scratch : List ℕ) (a : Message) (room : ℕ) (e : Effect BlinderSession)
    → blinder_second x s scratch a room ≡ done e → Proper s e
unfolding blinder_second_effect message_layout send_w send_c
blinder-second-proper x s scratch a room = by-effect (blinder-second x s scratch a room) (λ f.
    let p = open-placed blinder x.terms s f.later.session-open in
    let g = f.later.session-open.terms in
    accepted p _ 0 refl (slot-length s p.inside)
    (parts-count 3 (product-of-system x.terms g)
    (rw (square g) (sub-residues (positive g) (x.terms.m * x.terms.m) _ _) then add-residues (positive g) _ _ _ then none)))

-- t, or nothing where W + V is singular
module _ (x : SolverSession) (s : Slot) (a : Message) (p : Placed solver x.terms s) (g : TermsFit system x.terms)
    (kind : last_kind x.terms.m x.terms.p ≡ 5) where
  last-effect : (b : Bool) → regular x.terms.q x.terms.m (joint_sum x s a) ≡ b → Proper s (solver_last_effect x s a)
  unfolding solver_last_effect message_layout joint_sum sum_matrix field_fits
  last-effect true r =
      accepted p (solver_last_effect x s a) 0 (rw r) (gone p)
      (rw r (parts-count 4 (product-of-system x.terms g) (rw (one-column g kind)
      (solution-solves (prime-test _ g.field) x.terms.m (add-residues (positive g) (x.terms.m * x.terms.m) _ _)
      (add-residues (positive g) (x.terms.m * 1) _ _) r).0
      then none)))
  last-effect false r = record { inside = p.inside; slot = gone p; count = rw r no-count; refused-sends = λ z h. rw r }

pub solver-last-proper : (x : SolverSession) (s : Slot) (a : Message) (room : ℕ) (e : Effect SolverSession) → solver_last x s a room ≡ done e → Proper s e
solver-last-proper x s a room = by-effect (solver-last x s a room) (λ f.
    let o = f.fits.later.session-open in
    last-effect x s a (open-placed solver x.terms s o) o.terms f.sort-is (regular x.terms.q x.terms.m (joint_sum x s a)) refl)

pub solver-determinant-proper : (x : SolverSession) (s : Slot) (a : Message) (room : ℕ) (e : Effect SolverSession) → solver_determinant x s a room ≡ done e
    → Proper s e
unfolding solver_determinant_effect join
solver-determinant-proper x s a room = by-effect (solver-determinant x s a room) (λ f.
    let o = f.fits.later.session-open in
    let p = open-placed solver x.terms s o in
    accepted p _ 0 refl (gone p) (one-count (product-of-system x.terms o.terms)))

pub blinder-last-proper : (x : BlinderSession) (s : Slot) (scratch : List ℕ) (a : Message) (room : ℕ) (e : Effect BlinderSession)
    → blinder_last x s scratch a room ≡ done e → Proper s e
unfolding blinder_last_effect
blinder-last-proper x s scratch a room =
    by-effect (blinder-last x s scratch a room) (λ f. ends (open-placed blinder x.terms s f.later.session-open) _ refl refl refl)

pub blinder-determinant-proper : (x : BlinderSession) (s : Slot) (scratch : List ℕ) (a : Message) (room : ℕ) (e : Effect BlinderSession)
    → blinder_determinant x s scratch a room ≡ done e → Proper s e
unfolding blinder_determinant_effect
blinder-determinant-proper x s scratch a room =
    by-effect (blinder-determinant x s scratch a room) (λ f. ends (open-placed blinder x.terms s f.fits.later.session-open) _ refl refl refl)

-- ---- drops

pub drop-right-proper : (x : RightSession) (s : Slot) (e : Effect RightSession) → drop_right x s ≡ done e → Proper s e
drop-right-proper x s = by-effect (drop-right x s) (λ f. ends (open-placed right x.terms s f) _ refl refl refl)

pub drop-solver-proper : (x : SolverSession) (s : Slot) (e : Effect SolverSession) → drop_solver x s ≡ done e → Proper s e
drop-solver-proper x s = by-effect (drop-solver x s) (λ f. ends (open-placed solver x.terms s f) _ refl refl refl)

pub drop-blinder-proper : (x : BlinderSession) (s : Slot) (scratch : List ℕ) (e : Effect BlinderSession) → drop_blinder x s scratch ≡ done e → Proper s e
drop-blinder-proper x s scratch =
    by-effect (drop-blinder x s scratch) (λ f. ends (open-placed blinder x.terms s f.session-open) _ refl refl refl)

-- ---- over the record

-- no fact is of the session
of-record : {S : Type 0} (s : Slot) (f : S → Session) (o : Outcome S) → Propers s o → Propers s (recorded f o)
of-record s f (refused r) k e h = absurd (refused≢done h)
of-record s f (done d) k e h =
    let p = k d refl in
    subst (Proper s) (given-done h) (record { inside = p.inside; slot = p.slot; count = p.count; refused-sends = p.refused-sends })
  where
    given-done : {A : Type 0} {a b : A} → done a ≡ done b → a ≡ b
    given-done z = cc

-- by cases
either : {S : Type 0} (s : Slot) (b : Bool) {o u : Outcome S} → Propers s o → Propers s u → Propers s (cond b o u)
either s true h k = h
either s false h k = k

pub first-proper : (end : ℕ) (t : Terms) (s : Slot) (scratch input words : List ℕ) (a : Message) (room share : ℕ) (e : Effect Session)
    → first_step end t s scratch input words a room share ≡ done e → Proper s e
unfolding first_step
first-proper end t s scratch input words a room share =
    let matrix = take (t.m * t.m) input in
    let vector = drop (t.m * t.m) input in
    either s (eqb end LEFT) (of-record s (λ _. of_left t) _ (left-proper t s input words a room share))
    (either s (eqb end RIGHT) (of-record s of_right _ (right-first-proper t s input room))
    (either s (eqb end BLINDER) (of-record s of_blinder _ (blinder-first-proper t s (length scratch) matrix vector words a room))
    (either s (eqb end SOLVER) (of-record s of_solver _ (solver-first-proper t s matrix vector room)) (λ e h. absurd (refused≢done {r = Size} h)))))

pub next-proper : (x : Session) (s : Slot) (scratch : List ℕ) (a : Message) (room share : ℕ) (e : Effect Session)
    → next_step x s scratch a room share ≡ done e → Proper s e
unfolding next_step solver_ending blinder_ending solver_of blinder_of
next-proper x s scratch a room share =
    either s (eqb x.end SOLVER)
    (of-record s of_solver _ (either s (eqb x.due 2) (solver-second-proper (solver_of x) s a room)
    (either s (is_determinant x.terms) (solver-determinant-proper (solver_of x) s a room) (solver-last-proper (solver_of x) s a room))))
    (either s (eqb x.end BLINDER)
    (of-record s of_blinder _ (either s (eqb x.due 3) (blinder-second-proper (blinder_of x) s scratch a room)
    (either s (is_determinant x.terms) (blinder-determinant-proper (blinder_of x) s scratch a share) (blinder-last-proper (blinder_of x) s scratch a share))))
    (of-record s of_right _ (right-last-proper (right_of x) s a share)))

pub drop-proper : (x : Session) (s : Slot) (scratch : List ℕ) (e : Effect Session) → drop_step x s scratch ≡ done e → Proper s e
unfolding drop_step
drop-proper x s scratch =
    either s (eqb x.end SOLVER) (of-record s of_solver _ (drop-solver-proper (solver_of x) s))
    (either s (eqb x.end BLINDER) (of-record s of_blinder _ (drop-blinder-proper (blinder_of x) s scratch))
    (of-record s of_right _ (drop-right-proper (right_of x) s)))
