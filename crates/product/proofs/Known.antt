-- What is known where tests passed.
--   first-known, left-known, last-known, drop-known   a step, and a drop, that is accepted
--   answering                                         what the writer of step 2 asks
--   first_part, second-part                           the parts of a message of kind 2
-- Assumes nothing.
use mathlib.Core.Path.{◌≡◌, refl, sym, ◌∙◌}
use mathlib.Core.List.{List}
use Prim.Native.Nat.{ℕ, ◌+◌, ◌*◌}
use native.Mathlib.Omega.{arith}
use lib.ListN.{length, take, drop, length-drop}
use lib.Seq.{take_all}
use Rattle.algebra.specs.Count.{part, parts}
use Rattle.protocol.specs.declared.Terms.{Terms}
use Rattle.protocol.specs.declared.RightSession.{RightSession}
use Rattle.protocol.specs.Judge.{done}
use Rattle.protocol.specs.Tape.{Slot, slot_words, left, right, matrices}
use Rattle.protocol.specs.Message.{Message, message_layout, message_parts}
use Rattle.protocol.specs.Step.{open_tests}
use Rattle.protocol.specs.Product.{right_first_effect, right_first_tests, right_first, left_effect, left_tests, left_step, right_last_effect, right_last_tests, right_last}
use Rattle.protocol.proofs.Judge.{passed}
use Rattle.protocol.proofs.Tests.{OpenFits, open-tests}
use Rattle.protocol.proofs.StepTests.{RightFirstFits, right-first, LeftFits, left_step_lem, RightLastFits, right-last}
use Rattle.protocol.proofs.CompletionLaws.{first_of}
use Rattle.judging.specs.InOrder.{judged}
use Rattle.judging.proofs.InOrder.{accepted-by}
use Rattle.judging.proofs.Fits.{first-placed}
use Rattle.tape.proofs.Matrices.{matrix-length}
use Rattle.judging.proofs.KindLaws.{size-1, size-2}
use Rattle.product.specs.Shape.{Answering}

-- ---- a step that is accepted

pub first-known : (t : Terms) (s : Slot) (y : List ℕ) (room : ℕ) → judged (right_first_tests t s y room) ≡ done tt → RightFirstFits t s y room
unfolding right_first
first-known t s y room h = ((right-first t s y room).means (accepted-by (right_first_tests t s y room) (right_first_effect t s y) h)).0

pub left-known : (t : Terms) (s : Slot) (x words : List ℕ) (a : Message) (room share : ℕ) → judged (left_tests t s x words a room share) ≡ done tt
    → LeftFits t s x words a room share
unfolding left_step
left-known t s x words a room share h =
    ((left_step_lem t s x words a room share).means (accepted-by (left_tests t s x words a room share) (left_effect t s x words a) h)).0

pub last-known : (x : RightSession) (s : Slot) (a : Message) (share : ℕ) → judged (right_last_tests x s a share) ≡ done tt → RightLastFits x s a share
unfolding right_last
last-known x s a share h = ((right-last x s a share).means (accepted-by (right_last_tests x s a share) (right_last_effect x s a) h)).0

pub drop-known : (due : ℕ) (t : Terms) (s : Slot) → judged (open_tests right due t s) ≡ done tt → OpenFits right due t s
drop-known due t s h = (open-tests right due t s).0 (record { all = (passed (open_tests right due t s) h).0 })

-- ---- what the writer of step 2 asks

pub answering : (t : Terms) (s : Slot) (x words : List ℕ) (a : Message) (room share : ℕ) {u : ℕ} → LeftFits t s x words a room share → u ≡ t.m * t.p
    → Answering t x (part 0 (matrices left t (slot_words s))) (length a.residues) u (length (part 1 (matrices left t (slot_words s)))) room
answering t s x words a room share f e =
    let p = first-placed left t s f.first in
    record {
      sides = p.sides;
      some-q = omega (arith, f.first.terms.big);
      small-q = omega (arith, f.first.terms.small);
      plain = f.x_fits;
      mask = first_of f.first.matrices-fit;
      full-y = f.message.residues.size ∙ sym (size-1 t);
      full-u = e;
      full-a = matrix-length left t 1 s p;
      room = omega (arith, f.message-room, size-2 t);
    }

-- ---- a message's parts

pub first_part : (t : Terms) (a : Message) → part 0 (message_parts 2 t a) ≡ take (t.m * t.k) a.residues
unfolding message_parts message_layout parts
first_part t a = refl

pub second-part : (t : Terms) (a : Message) → length a.residues ≡ t.m * t.k + t.m * t.p → part 1 (message_parts 2 t a) ≡ drop (t.m * t.k) a.residues
unfolding message_parts message_layout parts
second-part t a e = take_all (t.m * t.p) (drop (t.m * t.k) a.residues) (omega (arith, length-drop (t.m * t.k) a.residues))
