-- `blinder::first::check` meets its contract. Assumes nothing.
use mathlib.Core.Path.{◌≡◌, sym, ◌∙◌}
use mathlib.Core.List.{List, ◌++◌}
use Prim.Native.Nat.{ℕ}
use Rattle.protocol.specs.declared.Terms.{Terms}
use Rattle.protocol.specs.Judge.{Judged}
use Rattle.protocol.specs.Tape.{Slot, blinder, slot_at}
use Rattle.protocol.specs.Message.{Message, message_in, message_tests, due_tests}
use Rattle.protocol.specs.Step.{first_tests}
use Rattle.judging.specs.InOrder.{judged}
use Rattle.judging.specs.Lowest.{lower}
use Rattle.judging.proofs.Join.{also, hands_on, goes-past}
use Rattle.blinder.specs.First.{first_inputs, first_numbers}
use Rattle.blinder.proofs.Known.{eliminable}
use Rattle.blinder.proofs.Order.{first-phases}
use Rattle.blinder.proofs.first.check.Goals as goal

-- the first phase, by its two checks
numbers : (t : Terms) (s : Slot) (scratch : ℕ) (mm y : List ℕ) (a : Message) (room : ℕ) {shared own both : Judged Unit}
    → both ≡ lower shared own → shared ≡ judged (message_tests a ++ (first_tests blinder t s ++ due_tests 1 t a))
    → own ≡ judged (first_inputs t mm y scratch room) → both ≡ judged (first_numbers t s scratch mm y a room)
unfolding first_numbers
numbers t s scratch mm y a room both shared own = also _ _ both shared own

pub returns-in_err-worst : goal.returns-in_err-worst
returns-in_err-worst c =
    let a = c.args in
    let s = slot_at a.pool.now a.at.size a.at.index in
    let m = message_in a.a in
    let told = numbers a.t s a.scratch a.mm.now a.y.now m a.room c.in_err-worst.ensures c.check_first_received-session.ensures c.check_inputs-inputs.ensures in
    hands_on c.from_residual.result _ c.from_residual.ensures.1 told
    ∙ sym (first-phases a.t s a.scratch a.mm.now a.y.now a.words.now m a.room)

pub check_drawn-requires : goal.check_drawn-requires
check_drawn-requires c =
    let a = c.args in
    let s = slot_at a.pool.now a.at.size a.at.index in
    let m = message_in a.a in
    let told = numbers a.t s a.scratch a.mm.now a.y.now m a.room c.in_ok-worst.ensures c.check_first_received-session.ensures c.check_inputs-inputs.ensures in
    eliminable a.t s a.scratch a.mm.now a.y.now m a.room (sym told)

pub returns : goal.returns
returns c =
    let a = c.args in
    let s = slot_at a.pool.now a.at.size a.at.index in
    let m = message_in a.a in
    let told = numbers a.t s a.scratch a.mm.now a.y.now m a.room c.in_ok-worst.ensures c.check_first_received-session.ensures c.check_inputs-inputs.ensures in
    c.check_drawn.ensures
    ∙ sym (first-phases a.t s a.scratch a.mm.now a.y.now a.words.now m a.room ∙ goes-past told)
