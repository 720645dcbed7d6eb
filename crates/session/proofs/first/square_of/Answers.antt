-- `session::first::square_of` meets its contract. Assumes nothing.
use Prim.Native.Nat.{◌*◌}
use Rattle.session.proofs.Arrays.{least-part}
use Rattle.session.proofs.first.square_of.Goals as goal

pub returns : goal.returns
returns c =
    let a = c.args in
    rw c.times.ensures at (least-part c.times.result a.input.now c.min.result c.min.ensures)
