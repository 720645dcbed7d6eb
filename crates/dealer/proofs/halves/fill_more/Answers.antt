-- `dealer::halves::fill_more` meets its contract. Assumes nothing.
use native.Mathlib.Omega.{arith}
use Rattle.dealer.specs.Written.{qg}
use Rattle.dealer.proofs.Whole.{more-filled}
use Rattle.dealer.proofs.halves.fill_more.Goals as goal

pub returns : goal.returns
unfolding qg
returns c =
    let far = c in
    let times = c.times-nn in
    let draw-three = c.draw_three-read in
    let a = far.args in
    let h = far.requires in
    let e = rw times.ensures at draw-three.ensures in record {
      value = e.value;
      first_after = e.first_after;
      second_after = more-filled a.q a.n _ h.1 a.first_at a.second_at a.first.now a.second.now _ _ (omega (arith, h.2)) (omega (arith, h.3))
          e.first_after e.second_after c.write_v.ensures;
    }
