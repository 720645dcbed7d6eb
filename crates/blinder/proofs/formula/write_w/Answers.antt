-- `blinder::formula::write_w` meets its contract. Assumes nothing.
use Prim.Native.Nat.{◌*◌}
use Rattle.blinder.proofs.Factored.{inner-length, factored}
use Rattle.blinder.proofs.Start.{start_is}
use Rattle.blinder.proofs.formula.write_w.Goals as goal

pub returns : goal.returns
returns c =
    let told = c in
    let h = c.requires in
    let a = c.args in
    let long = inner-length h.0.some-q a.s.n a.s.rhs a.u0.now a.f.now a.pm.now a.mm.now in
    rw (
      start_is (a.s.n * a.s.n) _ _ _ long told.write_inner.ensures,
      c.square_by.ensures,
      factored h.0.some-q a.s.n a.s.rhs a.u0.now a.f.now a.pm.now a.mm.now a.qm.now a.g.now,
    ) at c.write_deal.ensures
