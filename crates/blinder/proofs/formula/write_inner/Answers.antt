-- `blinder::formula::write_inner` meets its contract. Assumes nothing.
use Prim.Native.Nat.{◌+◌, ◌*◌}
use Rattle.algebra.proofs.Columns.{cols-length}
use Rattle.blinder.specs.Second.{inner_w}
use Rattle.blinder.proofs.Start.{start_is}
use Rattle.blinder.proofs.formula.write_inner.Goals as goal

pub returns : goal.returns
unfolding inner_w
returns c =
    let told = c in
    let s = c.args.s in
    let first = start_is (s.n * s.n) _ _ _ (cols-length s.n (s.n + s.rhs) 0 s.n c.args.u0.now) told.write_cols.ensures in
    rw (first, c.square_by.ensures) at c.write_share.ensures
