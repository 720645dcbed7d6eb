-- `blinder::later::check` meets its contract. Assumes nothing.
use mathlib.Core.Path.{◌≡◌, sym, ◌∙◌}
use mathlib.Core.Bool.{Bool}
use mathlib.Core.List.{[], ◌∷◌, ◌++◌}
use Prim.Native.Nat.{ℕ}
use Rattle.std.specs.Prelude.{leb}
use lib.ListN.{length}
use Rattle.protocol.specs.declared.BlinderSession.{BlinderSession}
use Rattle.protocol.specs.declared.Refusal.TheVariants.{Size}
use Rattle.protocol.specs.Judge.{Judged, needs, given}
use Rattle.protocol.specs.Bounds.{room_tests}
use Rattle.protocol.specs.Tape.{Slot, blinder, slot_at}
use Rattle.protocol.specs.Message.{Message, message_in, message_tests, due_tests}
use Rattle.protocol.specs.Step.{is_open, later_tests}
use Rattle.protocol.specs.System.{scratch_size}
use Rattle.judging.specs.InOrder.{judged}
use Rattle.judging.specs.Lowest.{lower}
use Rattle.judging.proofs.Join.{also, hands_on, goes-past}
use Rattle.blinder.specs.Later.{later_open}
use Rattle.blinder.proofs.Known.{kept-known}
use Rattle.blinder.proofs.Order.{later-phases}
use Rattle.blinder.proofs.later.check.Goals as goal

-- the first phase, by its three checks
numbers : (step : ℕ) (fits : Bool) (x : BlinderSession) (s : Slot) (scratch : ℕ) (a : Message) {shared lent written rooms all : Judged Unit} {room : Bool}
    → all ≡ lower shared rooms → shared ≡ judged (message_tests a ++ (later_tests blinder step x.due x.terms s ++ due_tests step x.terms a))
    → rooms ≡ lower lent written → room ≡ leb (scratch_size x.terms) scratch → lent ≡ judged (given (is_open x.due) (needs Size room ∷ []))
    → written ≡ judged (given (is_open x.due) (needs Size fits ∷ [])) → all ≡ judged (later_open step fits x s scratch a)
unfolding later_open room_tests
numbers step fits x s scratch a all shared rooms room lent written = also _ _ all shared (also _ _ rooms (rw room at lent) written)

pub returns-in_err-worst : goal.returns-in_err-worst
returns-in_err-worst c =
    let a = c.args in
    let s = slot_at a.pool.now a.at.size a.at.index in
    let m = message_in a.a in
    let told = numbers a.step a.fits a.s s (length a.scratch.now) m c.in_err-worst.ensures c.check_later-session.ensures c.worst.ensures c.scratch_fits.ensures
    c.check_room-lent.ensures c.check_room-written.ensures in
    hands_on c.from_residual.result _ c.from_residual.ensures.1 told ∙ sym (later-phases a.s s a.scratch.now m a.step a.fits)

pub check_kept-requires : goal.check_kept-requires
check_kept-requires c =
    let a = c.args in
    let s = slot_at a.pool.now a.at.size a.at.index in
    let m = message_in a.a in
    let told = numbers a.step a.fits a.s s (length a.scratch.now) m c.in_ok-worst.ensures c.check_later-session.ensures c.worst.ensures c.scratch_fits.ensures
    c.check_room-lent.ensures c.check_room-written.ensures in
    let f = kept-known a.s s m a.step a.fits (length a.scratch.now) (sym told) in
    (f.0.session-open.terms.sides, f.1)

pub returns : goal.returns
returns c =
    let a = c.args in
    let s = slot_at a.pool.now a.at.size a.at.index in
    let m = message_in a.a in
    let told = numbers a.step a.fits a.s s (length a.scratch.now) m c.in_ok-worst.ensures c.check_later-session.ensures c.worst.ensures c.scratch_fits.ensures
    c.check_room-lent.ensures c.check_room-written.ensures in
    c.check_kept.ensures ∙ sym (later-phases a.s s a.scratch.now m a.step a.fits ∙ goes-past told)
