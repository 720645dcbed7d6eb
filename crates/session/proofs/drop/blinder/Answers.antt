-- `session::drop::blinder` meets its contract. Assumes nothing.
use mathlib.Core.List.{[]}
use Rattle.protocol.specs.Tape.{slot_at}
use Rattle.entry.specs.Record.{blinder_of, of_blinder}
use Rattle.local.proofs.Recorded.{recorded-leaves}
use Rattle.local.proofs.Ends.{drop-blinder-told}
use Rattle.session.proofs.drop.blinder.Goals as goal

pub returns : goal.returns
returns c =
    let at9 = c in
    let at10 = c in
    let at15 = c in
    let a = at15.args in
    let s = slot_at a.pool.now a.at.size a.at.index in
    let told = drop-blinder-told (blinder_of a.x) s a.scratch.now in
    let e = rw at10.held.ensures at at9.blinder_drop-d.ensures in
    rw (c.over.ensures, c.is_ok.ensures.value, c.kept.ensures, c.silent.ensures)
    (recorded-leaves of_blinder a.x (blinder_of a.x) s a.scratch.now [] [] told at9.blinder_drop-d.result.answer e)
