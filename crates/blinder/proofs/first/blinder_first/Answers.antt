-- `blinder::first::blinder_first` meets its contract. Assumes nothing.
use mathlib.Core.Path.{sym}
use mathlib.Core.List.{[]}
use lib.ListN.{length}
use Rattle.protocol.specs.Tape.{slot_at, blinder}
use Rattle.protocol.specs.Message.{Message, message_in, message_parts}
use Rattle.protocol.specs.System.{no_blinder, blinder_first_effect, blinder_first_tests, blinder_first}
use Rattle.judging.proofs.Fits.{first-placed}
use Rattle.judging.proofs.Leaving.{refused-leaves, step-leaves, as-taken}
use Rattle.blinder.proofs.Known.{first-known}
use Rattle.blinder.proofs.first.blinder_first.Goals as goal

pub returns-in-Err : goal.returns-in-Err
unfolding blinder_first
returns-in-Err c =
    let told = c in
    let a = told.args in
    let s = slot_at a.pool.now a.at.size a.at.index in
    let m = message_in a.a in
    rw (c.refused.ensures, c.no_session.ensures)
    (sym (refused-leaves no_blinder s a.scratch.now a.out.now [] _ (blinder_first_effect a.t s a.mm.now a.y.now a.words.now m)
    (sym c.in-Err.ensures)))

pub compute-done-requires : goal.compute-done-requires
compute-done-requires c =
    let told = c in
    let a = told.args in
    let s = slot_at a.pool.now a.at.size a.at.index in
    let passed = sym c.in_default.ensures in
    let f = first-known a.t s (length a.scratch.now) a.mm.now a.y.now (message_in a.a) (length a.out.now)
    a.words.now passed in
    as-taken (λ (m : Message). blinder_first_tests a.t s (length a.scratch.now) a.mm.now a.y.now a.words.now m (length a.out.now))
    f.message passed

pub take_up_at-requires : goal.take_up_at-requires
take_up_at-requires c =
    let told = c in
    let a = told.args in
    let s = slot_at a.pool.now a.at.size a.at.index in
    let m = message_in a.a in
    let f = first-known a.t s (length a.scratch.now) a.mm.now a.y.now m (length a.out.now) a.words.now
    (sym c.in_default.ensures) in
    first-placed blinder a.t s f.first

pub returns : goal.returns
unfolding blinder_first blinder_first_effect message_parts
returns c =
    let told = c in
    let a = told.args in
    let s = slot_at a.pool.now a.at.size a.at.index in
    let m = message_in a.a in
    step-leaves no_blinder s a.scratch.now a.out.now [] _ (blinder_first_effect a.t s a.mm.now a.y.now a.words.now m)
    (sym c.in_default.ensures)
    c.compute-done.ensures c.take_up_at.ensures
