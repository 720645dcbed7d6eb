-- `session::next::right` meets its contract. Assumes nothing.
use mathlib.Core.List.{[]}
use lib.ListN.{length}
use Rattle.protocol.specs.Tape.{slot_at}
use Rattle.protocol.specs.Message.{message_in}
use Rattle.entry.specs.Record.{right_of, of_right}
use Rattle.local.proofs.Recorded.{recorded-leaves}
use Rattle.local.proofs.Ends.{right-last-told}
use Rattle.session.proofs.next.right.Goals as goal

pub returns : goal.returns
returns c =
    let at5 = c in
    let at7 = c in
    let at12 = c in
    let a = at12.args in
    let s = slot_at a.pool.now a.at.size a.at.index in
    let m = message_in a.a in
    let told = right-last-told (right_of a.x) s m (length a.res.now) in
    let e = rw at7.held.ensures at at5.right_last-d.ensures in
    rw (c.over.ensures, c.is_ok.ensures.value, c.kept.ensures) (recorded-leaves of_right a.x (right_of a.x) s [] [] a.res.now told at5.right_last-d.result.answer e)
