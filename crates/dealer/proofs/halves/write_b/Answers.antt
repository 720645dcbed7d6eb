-- `dealer::halves::write_b` meets its contract: the buffer holds B0. Assumes nothing.
use native.Mathlib.Omega.{arith}
use Rattle.dealer.proofs.Made.{b-written}
use Rattle.dealer.proofs.halves.write_b.Goals as goal

pub returns : goal.returns
returns c =
    let far = c in
    let a = far.args in
    let h = far.requires in
    b-written a.s.q a.s.m a.s.k a.s.p a.first.now a.second.now _ _ _ (omega (arith, h.0.few-mp)) (omega (arith, h.2))
    c.write_deal.ensures c.write_copy.ensures
