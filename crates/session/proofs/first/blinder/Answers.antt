-- `session::first::blinder` meets its contract. Assumes nothing.
use mathlib.Core.Path.{sym}
use mathlib.Core.List.{[]}
use Prim.Native.Nat.{◌*◌}
use lib.ListN.{length, take, drop}
use lib.Seq.{length-take-le}
use Rattle.protocol.specs.Tape.{slot_at}
use Rattle.protocol.specs.Message.{message_in}
use Rattle.protocol.specs.System.{no_blinder, blinder_first}
use Rattle.vectors.proofs.Written.{tail-part}
use Rattle.entry.specs.Record.{of_blinder}
use Rattle.local.proofs.Recorded.{carried-leaves}
use Rattle.session.proofs.first.blinder.Goals as goal

pub slice_bounds-blinder_first-end : goal.slice_bounds-blinder_first-end
slice_bounds-blinder_first-end c = sym (length-take-le _ _ c.square_of-n.ensures.0)

pub returns : goal.returns
returns c =
    let at11 = c in
    let at17 = c in
    let at24 = c in
    let a = at24.args in
    let s = slot_at a.pool.now a.at.size a.at.index in
    let m = message_in a.a in
    let n = a.t.m * a.t.m in
    let l = a.input.now in
    let cut = at17.square_of-n.ensures in
    let e = rw (tail-part at17.square_of-n.result l, cut.1, cut.2) at at11.blinder_first-d.ensures in
    rw c.kept.ensures
    (carried-leaves of_blinder no_blinder s a.scratch.now a.out.now []
    (blinder_first a.t s (length a.scratch.now) (take n l) (drop n l) a.words.now m (length a.out.now)) at11.blinder_first-d.result.answer e)
