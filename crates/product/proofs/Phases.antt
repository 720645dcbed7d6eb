-- Each step's tests as its code makes them: those that steps share, then its own.
--   first-tests-are   step 1
--   left-phases   step 2: the raw words come last; `left-modulus`, what they ask
--   last-tests    step 3
-- Assumes nothing.
use mathlib.Core.Path.{◌≡◌, refl, ap}
use mathlib.Core.List.{List, ◌++◌, append_assoc}
use Prim.Native.Nat.{ℕ, ◌*◌, ◌<◌}
use native.Mathlib.Omega.{arith}
use Rattle.protocol.specs.declared.Terms.{Terms}
use Rattle.protocol.specs.declared.Head.{Head}
use Rattle.protocol.specs.declared.RightSession.{RightSession}
use Rattle.protocol.specs.Judge.{Test, given, done}
use Rattle.protocol.specs.Drawing.{draw_tests}
use Rattle.protocol.specs.Bounds.{shape_tests, terms_tests, input_tests, room_tests}
use Rattle.protocol.specs.Tape.{Slot, left, right, slot_tests, half_tests, tape_tests, body_tests}
use Rattle.protocol.specs.Message.{message_size, message_with, message_tests, due_tests}
use Rattle.protocol.specs.Step.{first_tests, is_open, later_tests}
use Rattle.protocol.specs.Product.{right_first_tests, left_tests, right_last_tests}
use Rattle.protocol.proofs.Judge.{passed, all_split}
use Rattle.protocol.proofs.Tests.{first-tests}
use Rattle.judging.specs.InOrder.{only, sorted_by, sorted, judged, after}
use Rattle.judging.proofs.Steps.{in_two}

-- what a first step of left with a message shares with the blinder's, and left's own tests
abbrev pub left_shared : Terms → Slot → Head → (residues : List ℕ) → List Test
left_shared t s a residues = message_tests (message_with a residues) ++ (first_tests left t s ++ due_tests 1 t (message_with a residues))

abbrev pub left_own : Terms → (x : List ℕ) (room share : ℕ) → List Test
left_own t x room share = input_tests t.q (t.m * t.k) x ++ (room_tests (message_size 2 t) room ++ room_tests (t.m * t.p) share)

pub left-phases : (t : Terms) (s : Slot) (x words : List ℕ) (a : Head) (residues : List ℕ) (room share : ℕ)
    → judged (left_tests t s x words (record { head = a; residues = residues }) room share)
    ≡ after (judged (left_shared t s a residues ++ left_own t x room share)) (judged (draw_tests t.q (t.m * t.p) words))
unfolding sorted sorted_by only left_tests message_tests first_tests due_tests terms_tests shape_tests slot_tests half_tests tape_tests body_tests input_tests room_tests draw_tests
left-phases t s x words a residues room share =
    in_two _ (left_shared t s a residues ++ left_own t x room share) (draw_tests t.q (t.m * t.p) words) refl

pub left-modulus : (t : Terms) (s : Slot) (a : Head) (residues : List ℕ) (own : List Test) → judged (left_shared t s a residues ++ own) ≡ done tt → 0 < t.q
left-modulus t s a residues own e =
    let m = message_tests (message_with a residues) in
    let d = due_tests 1 t (message_with a residues) in
    let shared = (all_split (left_shared t s a residues) own (passed (left_shared t s a residues ++ own) e).0).0 in
    let first = (all_split (first_tests left t s) d (all_split m (first_tests left t s ++ d) shared).1).0 in
    omega (arith, ((first-tests left t s).0 (record { all = first })).terms.big)

pub first-tests-are : (t : Terms) (s : Slot) (y : List ℕ) (room : ℕ)
    → judged (first_tests right t s ++ (input_tests t.q (t.k * t.p) y ++ room_tests (message_size 1 t) room)) ≡ judged (right_first_tests t s y room)
unfolding right_first_tests
first-tests-are t s y room = ap judged (simp append_assoc)

pub last-tests : (x : RightSession) (s : Slot) (a : Head) (residues : List ℕ) (share : ℕ)
    → judged ((message_tests (message_with a residues) ++ (later_tests right 2 x.due x.terms s ++ due_tests 2 x.terms (message_with a residues)))
    ++ given (is_open x.due) (room_tests (x.terms.m * x.terms.p) share))
    ≡ judged (right_last_tests x s (record { head = a; residues = residues }) share)
unfolding right_last_tests
last-tests x s a residues share = ap judged (simp append_assoc)
