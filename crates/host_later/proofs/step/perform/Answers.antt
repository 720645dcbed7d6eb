-- `host_later::step::perform` meets its contract. Assumes nothing.
use mathlib.Core.Path.{◌≡◌}
use mathlib.Core.Bool.{true, false}
use mathlib.Core.List.{[]}
use Rattle.tape.specs.Placed.{slot_in}
use Rattle.local.specs.Entered.{later_step}
use Rattle.local.proofs.Recorded.{any-sent, any-result}
use Rattle.host_later.proofs.Dropped.{drop-no-sent, drop-no-result}
use Rattle.host_later.proofs.step.perform.Goals as goal

pub returns-then-drops : goal.returns-then-drops
unfolding later_step
returns-then-drops c =
    let a = c.args in
    let s = slot_in a.pool.now a.at in
    let drops : a.drops ≡ true = c.if-drops.true in
    rw drops
    (any-sent a.x s a.scratch.now a.res.now a.out.now (drop-no-sent a.x s a.scratch.now)
    (any-result a.x s a.scratch.now [] a.res.now (drop-no-result a.x s a.scratch.now) c.drop_step.ensures))

pub returns : goal.returns
unfolding later_step
returns c =
    let drops : c.args.drops ≡ false = c.if-drops.false in
    rw drops c.next_step.ensures
