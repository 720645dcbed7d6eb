-- `blinder::second::blinder_second` meets its contract. Assumes nothing.
use mathlib.Core.Path.{◌≡◌, sym, ap, ◌∙◌}
use mathlib.Core.List.{List, []}
use Prim.Native.Nat.{ℕ}
use lib.Dec.{leb}
use lib.ListN.{length}
use Rattle.protocol.specs.declared.BlinderSession.{BlinderSession}
use Rattle.protocol.specs.Judge.{Judged}
use Rattle.protocol.specs.Tape.{Slot, slot_at}
use Rattle.protocol.specs.Message.{Message, message_size, message_in, message_parts}
use Rattle.protocol.specs.System.{blinder_second_effect, blinder_second_tests, blinder_second}
use Rattle.tape.proofs.Slots.{same-pool}
use Rattle.judging.specs.InOrder.{judged}
use Rattle.judging.proofs.Leaving.{refused-leaves, step-leaves, as-taken}
use Rattle.blinder.specs.Later.{later_step}
use Rattle.blinder.proofs.Known.{second-known}
use Rattle.blinder.proofs.Order.{second-tests}
use Rattle.blinder.proofs.second.blinder_second.Goals as goal

-- all tests passed, or the first that did not
tests : (x : BlinderSession) (s : Slot) (scratch : List ℕ) (m : Message) (room : ℕ) {v : Judged Unit}
    → v ≡ judged (later_step 3 (leb (message_size 4 x.terms) room) x s scratch m) → v ≡ judged (blinder_second_tests x s scratch m room)
tests x s scratch m room e = e ∙ ap judged (second-tests x s scratch m room)

pub returns-in-Err : goal.returns-in-Err
unfolding blinder_second
returns-in-Err c =
    let told = c in
    let a = told.args in
    let s = slot_at a.pool.now a.at.size a.at.index in
    let m = message_in a.a in
    rw c.refused.ensures
    (sym (refused-leaves a.s s a.scratch.now a.out.now [] _ (blinder_second_effect a.s s a.scratch.now m) (sym (tests a.s s a.scratch.now (message_in a.a) (length a.out.now) (rw c.has_room-fits.ensures at c.in-Err.ensures)))))

pub compute-requires : goal.compute-requires
compute-requires c =
    let told = c in
    let a = told.args in
    let s = slot_at a.pool.now a.at.size a.at.index in
    let passed = sym (tests a.s s a.scratch.now (message_in a.a) (length a.out.now) (rw c.has_room-fits.ensures at c.in_default.ensures)) in
    let f = second-known a.s s (message_in a.a) a.scratch.now (length a.out.now) passed in
    as-taken (λ (m : Message). blinder_second_tests a.s s a.scratch.now m (length a.out.now)) f.message passed

pub returns : goal.returns
unfolding blinder_second blinder_second_effect message_parts
returns c =
    let told = c in
    let a = told.args in
    let s = slot_at a.pool.now a.at.size a.at.index in
    let m = message_in a.a in
    let passed = sym (tests a.s s a.scratch.now (message_in a.a) (length a.out.now) (rw c.has_room-fits.ensures at c.in_default.ensures)) in
    let f = second-known a.s s m a.scratch.now (length a.out.now) passed in
    step-leaves a.s s a.scratch.now a.out.now [] _ (blinder_second_effect a.s s a.scratch.now m) passed c.compute.ensures
    (sym (same-pool s f.later.session-open.half.inside))
