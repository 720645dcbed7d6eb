-- `dealer::halves::write_v` meets its contract: the buffer holds V. Assumes nothing.
use native.Mathlib.Omega.{arith}
use Rattle.dealer.proofs.Known.{square-few}
use Rattle.dealer.proofs.Made.{v-written}
use Rattle.dealer.proofs.halves.write_v.Goals as goal

pub returns : goal.returns
returns c =
    let far = c in
    let a = far.args in
    let h = far.requires in
    let few = square-few a.n h.0.few-n in
    v-written a.q a.n a.first_at a.second_at a.first.now a.second.now _ _ _ (omega (arith, few)) (omega (arith, h.2))
    c.write_masked.ensures c.write_copy.ensures
