-- `session::first::right` meets its contract. Assumes nothing.
use mathlib.Core.List.{[]}
use lib.ListN.{length}
use Rattle.protocol.specs.Tape.{slot_at}
use Rattle.protocol.specs.Product.{no_right, right_first}
use Rattle.entry.specs.Record.{of_right}
use Rattle.local.proofs.Recorded.{carried-leaves}
use Rattle.session.proofs.first.right.Goals as goal

pub returns : goal.returns
returns c =
    let at9 = c in
    let at15 = c in
    let a = at15.args in
    let s = slot_at a.pool.now a.at.size a.at.index in
    rw c.kept.ensures
    (carried-leaves of_right no_right s [] a.out.now []
    (right_first a.t s a.input.now (length a.out.now)) at9.right_first.result.answer at9.right_first.ensures)
