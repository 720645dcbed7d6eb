-- What is known where tests passed.
--   eliminable, first-known, masking-known, first-computed, p-drawn, p-residues   step 2
--   kept-known    the first phase of a later step
--   second-known, sending-known, second-computed   step 4
--   last-known, determinant-known   step 6, and that of a determinant
--   drop-known    a drop that is accepted
-- Assumes nothing.
use mathlib.Core.Path.{◌≡◌, sym, ap, ◌∙◌}
use mathlib.Core.Bool.{Bool}
use mathlib.Core.List.{List, [], ◌∷◌, ◌++◌, append-nil}
use Prim.Native.Nat.{ℕ, ◌*◌, ◌≤◌, ◌<◌}
use native.Mathlib.Omega.{arith}
use lib.ListN.{length, take}
use lib.Seq.{take-take}
use borrow.Author.Tests.{le-leb}
use Rattle.protocol.specs.Drawing.{residues_of, drawn, words_read, draw_tests}
use Rattle.protocol.proofs.Residues.{residues-drawn, parts-over}
use Rattle.algebra.specs.Count.{part, parts, join}
use Rattle.algebra.specs.Matrix.{Residues}
use Rattle.algebra.specs.Words.{over}
use Rattle.protocol.specs.declared.Terms.{Terms}
use Rattle.protocol.specs.declared.BlinderSession.{BlinderSession}
use Rattle.std.specs.Prelude.{Ok}
use Rattle.protocol.specs.declared.Refusal.TheVariants.{Size}
use Rattle.protocol.specs.Judge.{needs, given, done}
use Rattle.protocol.specs.Bounds.{field_fits, input_tests, room_tests}
use Rattle.protocol.specs.Tape.{Slot, slot_words, blinder, matrices}
use Rattle.protocol.specs.Message.{Message, last_kind, message_size, message_tests, due_tests}
use Rattle.protocol.specs.Step.{is_open, first_tests, open_tests, later_tests}
use Rattle.protocol.specs.System.{padded, side_size, kept_m, kept_y, scratch_layout, scratch_size, scratch_parts, coins_of, blinder_first_effect, blinder_first_tests, blinder_first, blinder_second_effect, blinder_second_tests, blinder_second, blinder_last_effect, blinder_last_tests, blinder_last, blinder_determinant_effect, blinder_determinant_tests, blinder_determinant}
use Rattle.protocol.specs.Drop.{drop_blinder}
use Rattle.protocol.proofs.Judge.{passed, all_split, holds-given}
use Rattle.protocol.proofs.Tests.{LaterFits, open-due, input-tests, room-tests, first-tests, later-tests}
use Rattle.protocol.proofs.StepTests.{BlinderFirstFits, blinder-first, BlinderFits, blinder-second, blinder-last, BlinderDeterminantFits, blinder-determinant, DropBlinderFits, drop-blinder}
use Rattle.judging.specs.InOrder.{judged}
use Rattle.judging.specs.Leaves.{computed, computing}
use Rattle.judging.proofs.InOrder.{accepted-by}
use Rattle.judging.proofs.KindLaws.{size-1, size-2, size-3, size-4, whole-message}
use Rattle.protocol.proofs.CompletionLaws.{first_of, second-of, third_of, fourth-of}
use Rattle.vectors.proofs.Written.{after-over}
use Rattle.tape.proofs.Sides.{unknowns}
use Rattle.blinder.specs.First.{Eliminable, Masking, first_inputs, first_numbers, first_sent}
use Rattle.blinder.specs.Later.{later_open}
use Rattle.blinder.specs.Second.{Sending, second_sent}
use Rattle.blinder.proofs.Kept.{square-is, scratch-sum}
use Rattle.blinder.proofs.Sent.{f-part}

module _ (t : Terms) (s : Slot) (scratch : ℕ) (mm y : List ℕ) (a : Message) (room : ℕ) where
  pub eliminable : judged (first_numbers t s scratch mm y a room) ≡ done tt → Eliminable t mm
  unfolding first_numbers first_inputs field_fits
  eliminable e =
      let first = first_tests blinder t s in
      let due = due_tests 1 t a in
      let matrix = input_tests t.q (t.m * t.m) mm in
      let (in-session, in-inputs) = all_split (message_tests a ++ (first ++ due)) (first_inputs t mm y scratch room)
      (passed (first_numbers t s scratch mm y a room) e).0 in
      let in-first = (all_split first due (all_split (message_tests a) (first ++ due) in-session).1).0 in
      let f = ((first-tests blinder t s).0 (record { all = in-first })).terms in
      let others = input_tests t.q (side_size t) y ++ (room_tests (scratch_size t) scratch ++ room_tests (message_size 2 t) room) in
      let in-matrix = (all_split matrix others in-inputs).0 in
      record {
        some-q = omega (arith, f.big);
        small-q = omega (arith, f.small);
        prime = f.field;
        sides = f.sides;
        residues = (input-tests t.q (t.m * t.m) mm).0 (record { all = in-matrix });
      }

  pub first-known : (words : List ℕ) → judged (blinder_first_tests t s scratch mm y words a room) ≡ done tt → BlinderFirstFits t s scratch mm y words a room
  unfolding blinder_first
  first-known words h =
      ((blinder-first t s scratch mm y words a room).means
      (accepted-by (blinder_first_tests t s scratch mm y words a room) (blinder_first_effect t s mm y words a) h)).0

pub p-residues : (q n : ℕ) (words : List ℕ) → 0 < q → n ≤ length (residues_of q words) → Residues q n (drawn q n words)
unfolding draw_tests
p-residues q n words h e = residues-drawn q n words h (le-leb _ _ e, tt)

-- what the writer of step 2 asks, of a half's matrices and of a scratch that the coins were drawn over
module _ (t : Terms) (s : Slot) (d mm y words : List ℕ) (a : Message) (room : ℕ) (known : BlinderFirstFits t s (length d) mm y words a room) where
  coins-residues : Residues t.q (scratch_size t) (coins_of t words)
  unfolding coins_of
  coins-residues = p-residues t.q (scratch_size t) words (omega (arith, known.first.terms.big)) known.enough

  module _ {x0 a0 l : List ℕ} {n : ℕ} (is_x : x0 ≡ part 0 (matrices blinder t (slot_words s))) (is-a : a0 ≡ part 1 (matrices blinder t (slot_words s)))
      (size : n ≡ scratch_size t) (drawn-over : l ≡ over (drawn t.q n words) d) where
    is-l : l ≡ over (coins_of t words) d
    unfolding coins_of
    is-l = rw size at drawn-over

    pub masking-known : Masking t (length a.residues) (length l) (length x0) (length a0) room
    masking-known =
        let o = known.first.terms in
        let same = square-is t o.sides in
        let long : t.k * t.p ≡ t.m * t.p = ap (λ (k : ℕ). k * t.p) (unknowns t.m t.k t.p o.sides).square in
        let c = coins-residues.size in
        record {
          some-q = omega (arith, o.big);
          small-q = omega (arith, o.small);
          sides = o.sides;
          full = known.message.residues.size ∙ (sym (size-1 t) ∙ long);
          lent = omega (arith, after-over (coins_of t words) d is-l (omega (arith, c, known.scratch-room)), known.scratch-room);
          half-x = ap length is_x ∙ ((first_of known.first.matrices-fit).size ∙ same);
          half-a = ap length is-a ∙ (second-of known.first.matrices-fit).size;
          room = omega (arith, known.message-room, size-2 t, same);
        }

    pub first-computed : {count : ℕ} {x : BlinderSession} {o : List ℕ} (out : List ℕ) → count ≡ words_read t.q n words
        → x ≡ record { terms = t; due = 3; mm = padded 256 mm; y = padded 16 y } → o ≡ over (first_sent t a.residues l x0 a0) out
        → computing (Ok count) x (record { kind = 2; terms = t }) l o [] ≡ computed d out [] (blinder_first_effect t s mm y words a)
    unfolding first_sent blinder_first_effect scratch_parts scratch_size join over
    first-computed out e f g =
        rw (e, f, g, size, is_x, is-a, is-l, parts-over (scratch_layout t) d coins-residues)
        (simp (append-nil, whole-message t a (known.message.residues.size ∙ sym (size-1 t))))

-- P by itself, drawn from the same words
pub p-drawn : (t : Terms) (words : List ℕ) → drawn t.q (t.m * t.m) words ≡ part 0 (scratch_parts t (coins_of t words))
unfolding coins_of drawn scratch_parts parts
p-drawn t words = sym (take-take (t.m * t.m) (scratch_size t) (residues_of t.q words) (omega (arith, scratch-sum t)))

module _ (x : BlinderSession) (s : Slot) (a : Message) where
  pub kept-known : (step : ℕ) (fits : Bool) (scratch : ℕ) → judged (later_open step fits x s scratch a) ≡ done tt
      → LaterFits blinder step x.due x.terms s × (scratch_size x.terms ≤ scratch)
  unfolding later_open
  kept-known step fits scratch e =
      let later = later_tests blinder step x.due x.terms s in
      let due = due_tests step x.terms a in
      let lent = given (is_open x.due) (room_tests (scratch_size x.terms) scratch) in
      let written = given (is_open x.due) (needs Size fits ∷ []) in
      let (in-session, in-rooms) = all_split (message_tests a ++ (later ++ due)) (lent ++ written) (passed (later_open step fits x s scratch a) e).0 in
      let in-later = (all_split later due (all_split (message_tests a) (later ++ due) in-session).1).0 in
      let f = (later-tests blinder step x.due x.terms s).0 (record { all = in-later }) in
      let in_lent = holds-given (is_open x.due) _ ((open-due x.due).1 f.session-open.is_open) (all_split lent written in-rooms).0 in
      (f, (room-tests _ _).0 (record { all = in_lent }))

  pub last-known : (scratch : List ℕ) (room : ℕ) → judged (blinder_last_tests x s scratch a room) ≡ done tt
      → BlinderFits 5 x s scratch a (side_size x.terms) room
  unfolding blinder_last
  last-known scratch room h = ((blinder-last x s scratch a room).means (accepted-by (blinder_last_tests x s scratch a room) (blinder_last_effect x s scratch a) h)).0

  pub determinant-known : (scratch : List ℕ) (room : ℕ) → judged (blinder_determinant_tests x s scratch a room) ≡ done tt
      → BlinderDeterminantFits x s scratch a room
  unfolding blinder_determinant
  determinant-known scratch room h =
      ((blinder-determinant x s scratch a room).means (accepted-by (blinder_determinant_tests x s scratch a room) (blinder_determinant_effect x s scratch a) h)).0

  pub second-known : (scratch : List ℕ) (room : ℕ) → judged (blinder_second_tests x s scratch a room) ≡ done tt
      → BlinderFits 3 x s scratch a (message_size 4 x.terms) room
  unfolding blinder_second
  second-known scratch room h =
      ((blinder-second x s scratch a room).means (accepted-by (blinder_second_tests x s scratch a room) (blinder_second_effect x s scratch a) h)).0

-- step 4, by the half's matrices, and by what the session keeps
module _ (x : BlinderSession) (s : Slot) (a : Message) {scratch : List ℕ} {room : ℕ} (known : BlinderFits 3 x s scratch a (message_size 4 x.terms) room)
    {qm g : List ℕ} (is-q : qm ≡ part 2 (matrices blinder x.terms (slot_words s))) (is-g : g ≡ part 3 (matrices blinder x.terms (slot_words s))) where
  pub sending-known : {mm y : ℕ} → mm ≡ x.terms.m * x.terms.m → y ≡ side_size x.terms
      → Sending x.terms mm y (length a.residues) (length scratch) (length qm) (length g) room
  unfolding side_size
  sending-known e f =
      let o = known.later.session-open.terms in
      let same = square-is x.terms o.sides in
      record {
        some-q = omega (arith, o.big);
        small-q = omega (arith, o.small);
        sides = o.sides;
        kept-m = e;
        kept-y = f;
        full = omega (arith, known.message.residues.size, size-3 x.terms, same);
        lent = known.scratch-room;
        half-q = ap length is-q ∙ ((third_of known.later.matrices-fit).size ∙ same);
        half-g = ap length is-g ∙ ((fourth-of known.later.matrices-fit).size ∙ same);
        room = omega (arith, known.write-room, size-4 x.terms, same);
      }

  pub second-computed : {n r due : ℕ} {o : List ℕ} (out : List ℕ) → due ≡ last_kind x.terms.m x.terms.p → n ≡ x.terms.m * x.terms.m → r ≡ side_size x.terms
      → o ≡ over (second_sent x.terms (take n x.mm) (take r x.y) a.residues scratch qm g) out
      → computing (Ok 0) (record { terms = x.terms; due = due; mm = x.mm; y = x.y }) (record { kind = 4; terms = x.terms }) scratch o []
      ≡ computed scratch out [] (blinder_second_effect x s scratch a)
  unfolding second_sent blinder_second_effect kept_m kept_y join over
  second-computed out d e f h =
      rw (d, h, e, f, is-q, is-g) (simp (append-nil, f-part x.terms a (known.message.residues.size ∙ sym (size-3 x.terms))))

pub drop-known : (x : BlinderSession) (s : Slot) (scratch : List ℕ)
    → judged (open_tests blinder x.due x.terms s ++ given (is_open x.due) (room_tests (scratch_size x.terms) (length scratch))) ≡ done tt
    → DropBlinderFits x s scratch
unfolding drop_blinder
drop-known x s scratch h = ((drop-blinder x s scratch).means (accepted-by _ _ h)).0
