-- `session::drop::right` meets its contract. Assumes nothing.
use mathlib.Core.List.{[]}
use Rattle.protocol.specs.Tape.{slot_at}
use Rattle.entry.specs.Record.{right_of, of_right}
use Rattle.local.proofs.Recorded.{recorded-leaves}
use Rattle.local.proofs.Ends.{drop-right-told}
use Rattle.session.proofs.drop.right.Goals as goal

pub returns : goal.returns
returns c =
    let at7 = c in
    let at8 = c in
    let at11 = c in
    let a = at11.args in
    let s = slot_at a.pool.now a.at.size a.at.index in
    let told = drop-right-told (right_of a.x) s in
    let e = rw at8.held.ensures at at7.right_drop-d.ensures in
    rw (c.over.ensures, c.is_ok.ensures.value, c.kept.ensures, c.silent.ensures)
    (recorded-leaves of_right a.x (right_of a.x) s [] [] [] told at7.right_drop-d.result.answer e)
