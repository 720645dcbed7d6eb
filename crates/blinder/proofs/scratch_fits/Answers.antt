-- `blinder::scratch_fits` meets its contract. Assumes nothing.
use mathlib.Core.Path.{sym, ◌∙◌}
use Prim.Native.Nat.{◌+◌, ◌*◌}
use native.Mathlib.Omega.{arith}
use borrow.Author.Tests.{lt-leb}
use Rattle.judging.proofs.KindLaws.{room-left}
use Rattle.protocol.specs.System.{scratch_size}
use Rattle.blinder.proofs.scratch_fits.Goals as goal

pub returns-then-square-room : goal.returns-then-square-room
unfolding scratch_size
returns-then-square-room c =
    let a = c.args in
    rw (c.times.ensures, c.times-square.ensures)
    (room-left (a.t.m * a.t.m) (a.t.m * a.t.p) a.room (omega (arith, c.times-square.ensures, c.if-square-room.true)))

pub returns-else-square-room : goal.returns-else-square-room
unfolding scratch_size
returns-else-square-room c =
    let a = c.args in
    lt-leb c.times-square.result a.room c.if-square-room.false
    ∙ sym (lt-leb (a.t.m * a.t.m + a.t.m * a.t.p) a.room (omega (arith, c.times-square.ensures, c.if-square-room.false)))
