-- `blinder::last::blinder_last` meets its contract. Assumes nothing.
use mathlib.Core.Path.{◌≡◌, sym, ap, ◌∙◌}
use mathlib.Core.List.{List, []}
use Prim.Native.Nat.{ℕ}
use lib.Dec.{leb}
use lib.ListN.{length}
use Rattle.protocol.specs.declared.BlinderSession.{BlinderSession}
use Rattle.protocol.specs.Judge.{Judged}
use Rattle.protocol.specs.Tape.{Slot, slot_at, blinder}
use Rattle.protocol.specs.Message.{Message, message_in, message_parts}
use Rattle.protocol.specs.System.{side_size, blinder_last_effect, blinder_last_tests, blinder_last}
use Rattle.judging.specs.InOrder.{judged}
use Rattle.judging.proofs.Fits.{open-placed}
use Rattle.judging.proofs.Leaving.{refused-leaves, step-leaves, as-taken}
use Rattle.blinder.specs.Later.{later_step}
use Rattle.blinder.proofs.Known.{last-known}
use Rattle.blinder.proofs.Order.{last-tests}
use Rattle.blinder.proofs.last.blinder_last.Goals as goal

-- all tests passed, or the first that did not
tests : (x : BlinderSession) (s : Slot) (scratch : List ℕ) (m : Message) (room : ℕ) {v : Judged Unit}
    → v ≡ judged (later_step 5 (leb (side_size x.terms) room) x s scratch m) → v ≡ judged (blinder_last_tests x s scratch m room)
tests x s scratch m room e = e ∙ ap judged (last-tests x s scratch m room)

pub returns-in-Err : goal.returns-in-Err
unfolding blinder_last
returns-in-Err c =
    let told = c in
    let a = told.args in
    let s = slot_at a.pool.now a.at.size a.at.index in
    let m = message_in a.a in
    rw c.refused.ensures
    (sym (refused-leaves a.s s a.scratch.now [] a.out.now _ (blinder_last_effect a.s s a.scratch.now m) (sym (tests a.s s a.scratch.now (message_in a.a) (length a.out.now) (rw c.side_size.ensures at c.in-Err.ensures)))))

pub compute-done-requires : goal.compute-done-requires
compute-done-requires c =
    let told = c in
    let a = told.args in
    let s = slot_at a.pool.now a.at.size a.at.index in
    let passed = sym (tests a.s s a.scratch.now (message_in a.a) (length a.out.now) (rw c.side_size.ensures at c.in_default.ensures)) in
    let f = last-known a.s s (message_in a.a) a.scratch.now (length a.out.now) passed in
    as-taken (λ (m : Message). blinder_last_tests a.s s a.scratch.now m (length a.out.now)) f.message passed

pub spend_at-requires : goal.spend_at-requires
spend_at-requires c =
    let told = c in
    let a = told.args in
    let s = slot_at a.pool.now a.at.size a.at.index in
    let passed = sym (tests a.s s a.scratch.now (message_in a.a) (length a.out.now) (rw c.side_size.ensures at c.in_default.ensures)) in
    open-placed blinder a.s.terms s
    (last-known a.s s (message_in a.a) a.scratch.now (length a.out.now) passed).later.session-open

pub returns : goal.returns
unfolding blinder_last blinder_last_effect message_parts
returns c =
    let told = c in
    let a = told.args in
    let s = slot_at a.pool.now a.at.size a.at.index in
    let m = message_in a.a in
    step-leaves a.s s a.scratch.now [] a.out.now _ (blinder_last_effect a.s s a.scratch.now m)
    (sym (tests a.s s a.scratch.now (message_in a.a) (length a.out.now) (rw c.side_size.ensures at c.in_default.ensures)))
    c.compute-done.ensures c.spend_at.ensures
