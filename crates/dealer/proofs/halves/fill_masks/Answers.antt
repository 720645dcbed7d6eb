-- `dealer::halves::fill_masks` meets its contract. Assumes nothing.
use native.Mathlib.Omega.{arith}
use Rattle.dealer.specs.Written.{xa}
use Rattle.dealer.proofs.Whole.{masks-filled}
use Rattle.dealer.proofs.halves.fill_masks.Goals as goal

pub returns : goal.returns
unfolding xa
returns c =
    let far = c in
    let times = far.times-mk in
    let times2 = far.times-kp in
    let times3 = c.times-mp in
    let draw-three = c.draw_three-read in
    let a = far.args in
    let h = far.requires in
    let e = rw (times.ensures, times2.ensures, times3.ensures) at draw-three.ensures in record {
      value = e.value;
      first_after = e.first_after;
      second_after = masks-filled a.t.q a.t.m a.t.k a.t.p a.words.now h.1 a.first.now a.second.now _ _ (omega (arith, h.2)) (omega (arith, h.3))
          e.first_after e.second_after (rw c.from.ensures at c.write_b.ensures);
    }
