-- `solver::later::check` meets its contract. Assumes nothing.
use mathlib.Core.Path.{◌≡◌, sym, ◌∙◌}
use mathlib.Core.Bool.{Bool}
use mathlib.Core.List.{[], ◌∷◌, ◌++◌}
use Prim.Native.Nat.{ℕ}
use Rattle.std.specs.Prelude.{leb}
use Rattle.protocol.specs.declared.Refusal.TheVariants.{Size, Turn}
use Rattle.protocol.specs.declared.SolverSession.{SolverSession}
use Rattle.protocol.specs.Bounds.{room_tests}
use Rattle.protocol.specs.Judge.{Judged, needs, given}
use Rattle.protocol.specs.Message.{Message, last_fits, message_size, message_tests, due_tests, message_in}
use Rattle.protocol.specs.Step.{is_open, later_tests}
use Rattle.protocol.specs.Tape.{Slot, solver, slot_at}
use Rattle.judging.specs.InOrder.{judged}
use Rattle.judging.specs.Lowest.{lower}
use Rattle.judging.proofs.Join.{also, hands_on, goes-past}
use Rattle.solver.specs.Groups.{sort_tests, arriving}
use Rattle.solver.proofs.Known.{arriving-known}
use Rattle.solver.proofs.Order.{later-phases}
use Rattle.solver.proofs.later.check.Goals as goal

-- what is tested before the words that the session keeps
arrived : (kind sends : ℕ) (x : SolverSession) (s : Slot) (a : Message) (room : ℕ) {shared sent sort both all : Judged Unit} {fits last : Bool}
    → shared ≡ judged (message_tests a ++ (later_tests solver kind x.due x.terms s ++ due_tests kind x.terms a))
    → fits ≡ leb (message_size sends x.terms) room → sent ≡ judged (given (is_open x.due) (needs Size fits ∷ []))
    → last ≡ last_fits sends x.terms.m x.terms.p → sort ≡ judged (needs Turn last ∷ [])
    → both ≡ lower sent sort → all ≡ lower shared both → all ≡ judged (arriving kind sends x s a room)
unfolding arriving room_tests sort_tests
arrived kind sends x s a room shared fits sent last sort both all = also _ _ all shared (also _ _ both (rw fits at sent) (rw last at sort))

pub returns-in_err-worst : goal.returns-in_err-worst
returns-in_err-worst c =
    let a = c.args in
    let s = slot_at a.pool.now a.at.size a.at.index in
    let m = message_in a.a in
    let all = arrived a.kind a.sends a.s s m a.room c.check_later-shared.ensures c.has_room.ensures c.check_room-sent.ensures c.last_fits.ensures
    c.need-sort.ensures c.worst.ensures c.in_err-worst.ensures in
    hands_on c.from_residual.result _ c.from_residual.ensures.1 all ∙ sym (later-phases a.kind a.sends a.s s m a.room)

pub check_kept-requires : goal.check_kept-requires
check_kept-requires c =
    let a = c.args in
    let s = slot_at a.pool.now a.at.size a.at.index in
    let m = message_in a.a in
    let all = arrived a.kind a.sends a.s s m a.room c.check_later-shared.ensures c.has_room.ensures c.check_room-sent.ensures c.last_fits.ensures
    c.need-sort.ensures c.worst.ensures c.in_ok-worst.ensures in
    arriving-known a.kind a.sends a.s s m a.room (sym all)

pub returns : goal.returns
returns c =
    let a = c.args in
    let s = slot_at a.pool.now a.at.size a.at.index in
    let m = message_in a.a in
    let all = arrived a.kind a.sends a.s s m a.room c.check_later-shared.ensures c.has_room.ensures c.check_room-sent.ensures c.last_fits.ensures
    c.need-sort.ensures c.worst.ensures c.in_ok-worst.ensures in
    c.check_kept.ensures
    ∙ sym (later-phases a.kind a.sends a.s s m a.room ∙ goes-past all)
