-- `session::first::left` meets its contract. Assumes nothing.
use mathlib.Core.List.{[]}
use lib.ListN.{length}
use Rattle.protocol.specs.Tape.{slot_at}
use Rattle.protocol.specs.Message.{message_in}
use Rattle.protocol.specs.Product.{left_step}
use Rattle.entry.specs.Record.{of_left}
use Rattle.local.proofs.Recorded.{carried-leaves}
use Rattle.session.proofs.first.left.Goals as goal

pub returns : goal.returns
returns c =
    let at10 = c in
    let at20 = c in
    let a = at20.args in
    let s = slot_at a.pool.now a.at.size a.at.index in
    let m = message_in a.a in
    let e = at10.left_step-d.ensures in
    rw c.of_left.ensures
    (carried-leaves (λ _. of_left a.t) tt s [] a.out.now a.res.now
    (left_step a.t s a.input.now a.words.now m (length a.out.now) (length a.res.now)) at10.left_step-d.result.answer e)
