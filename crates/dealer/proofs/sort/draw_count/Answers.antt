-- `dealer::sort::draw_count` meets its contract. Assumes nothing.
use native.Mathlib.Omega.{arith}
use Rattle.dealer.specs.Sorts.{sort, draw_count}
use Rattle.tape.proofs.Sides.{sides-of}
use Rattle.dealer.proofs.sort.draw_count.Goals as goal

pub masks_count-masks-requires : goal.masks_count-masks-requires
masks_count-masks-requires c =
    let a = c.args in
    let b = sides-of (sort a.s) a.t.m a.t.k a.t.p c.requires in (b.few-mk, b.few-kp, b.few-mp)

pub returns-in-Product : goal.returns-in-Product
unfolding draw_count
returns-in-Product c = rw c.in-Product.is c.masks_count-masks.ensures

pub overflow_add-result : goal.overflow_add-result
overflow_add-result c =
    let a = c.args in
    let b = sides-of (sort a.s) a.t.m a.t.k a.t.p c.requires in
    omega (arith, c.masks_count-masks.ensures, c.times-mk.ensures, b.few-mk, b.few-kp, b.few-mp)

pub overflow_add-result-in-System : goal.overflow_add-result-in-System
overflow_add-result-in-System c =
    let a = c.args in
    let b = sides-of (sort a.s) a.t.m a.t.k a.t.p c.requires in
    omega (arith, c.masks_count-masks.ensures, c.times-mk.ensures, b.few-mk, b.few-kp, b.few-mp)

pub overflow_add-result-in-System-2 : goal.overflow_add-result-in-System-2
overflow_add-result-in-System-2 c =
    let a = c.args in
    let b = sides-of (sort a.s) a.t.m a.t.k a.t.p c.requires in
    omega (arith, c.masks_count-masks.ensures, c.times-mk.ensures, b.few-mk, b.few-kp, b.few-mp)

pub returns-in-System : goal.returns-in-System
unfolding draw_count
returns-in-System c =
    rw c.in-System.is (omega (arith, c.masks_count-masks.ensures, c.times-mk.ensures))
