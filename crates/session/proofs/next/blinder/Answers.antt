-- `session::next::blinder` meets its contract. Assumes nothing.
use mathlib.Core.List.{[]}
use lib.ListN.{length}
use borrow.Author.Tests.{eq-eqb, ne_eqb}
use Rattle.protocol.specs.Tape.{slot_at}
use Rattle.protocol.specs.Message.{message_in}
use Rattle.entry.specs.Record.{blinder_of, of_blinder}
use Rattle.local.proofs.Recorded.{recorded-leaves, any-sent, any-result}
use Rattle.local.proofs.Ends.{blinder-second-told, blinder-second-no-result, blinder-ending-told, blinder-ending-no-sent}
use Rattle.session.proofs.next.blinder.Goals as goal

pub returns-then-x-eq3 : goal.returns-then-x-eq3
returns-then-x-eq3 c =
    let at5 = c in
    let at8 = c in
    let at15 = c in
    let a = at15.args in
    let s = slot_at a.pool.now a.at.size a.at.index in
    let m = message_in a.a in
    let y = blinder_of a.x in
    let told = blinder-second-told y s a.scratch.now m (length a.out.now) in
    let none = blinder-second-no-result y s a.scratch.now m (length a.out.now) of_blinder in
    let e = rw at5.held-s.ensures at c.blinder_second-second.ensures in
    rw (c.over.ensures, c.is_ok.ensures.value, c.kept.ensures, eq-eqb a.x.due 3 at8.if-x-eq3.true)
    (any-result a.x s a.scratch.now a.out.now a.res.now none
    (recorded-leaves of_blinder a.x y s a.scratch.now a.out.now [] told c.blinder_second-second.result.answer e))

pub returns : goal.returns
returns c =
    let at7 = c in
    let at9 = c in
    let at12 = c in
    let at19 = c in
    let a = at19.args in
    let s = slot_at a.pool.now a.at.size a.at.index in
    let m = message_in a.a in
    let y = blinder_of a.x in
    let told = blinder-ending-told y s a.scratch.now m (length a.res.now) in
    let none = blinder-ending-no-sent y s a.scratch.now m (length a.res.now) of_blinder in
    let e = rw at9.held-s.ensures at at7.blinder_ending-last.ensures in
    rw (c.over-2.ensures, c.is_ok-2.ensures.value, c.kept-2.ensures, ne_eqb a.x.due 3 at12.if-x-eq3.false)
    (any-sent a.x s a.scratch.now a.res.now a.out.now none
    (recorded-leaves of_blinder a.x y s a.scratch.now [] a.res.now told at7.blinder_ending-last.result.answer e))
