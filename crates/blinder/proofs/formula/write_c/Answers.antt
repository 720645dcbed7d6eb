-- `blinder::formula::write_c` meets its contract. Assumes nothing.
use Prim.Native.Nat.{◌+◌, ◌*◌}
use Rattle.algebra.specs.System.{send_c}
use Rattle.algebra.proofs.Lists.{mul-residues}
use Rattle.algebra.proofs.Columns.{cols-length}
use Rattle.blinder.proofs.Start.{start_is}
use Rattle.blinder.proofs.formula.write_c.Goals as goal

pub returns : goal.returns
unfolding send_c
returns c =
    let told = c in
    let a = c.args in
    let h = c.requires in
    let n = a.s.n * a.s.rhs in
    let wide = cols-length a.s.n (a.s.n + a.s.rhs) a.s.n a.s.rhs a.u0.now in
    let size = (mul-residues h.0.some-q a.s.n a.s.n a.s.rhs a.pm.now a.y.now).size in
    let product = rw c.square_by.ensures at c.write_product.ensures in
    rw (start_is n _ _ _ wide told.write_cols.ensures, start_is n _ _ _ size product) at c.write_sum.ensures
