-- `blinder::drop::blinder_drop` meets its contract. Assumes nothing.
use mathlib.Core.Path.{refl, sym}
use mathlib.Core.List.{[]}
use Rattle.protocol.specs.Tape.{slot_at, blinder}
use Rattle.protocol.specs.Drop.{drop_blinder}
use Rattle.judging.proofs.Fits.{open-placed}
use Rattle.judging.proofs.Leaving.{refused-leaves, step-leaves}
use Rattle.blinder.proofs.Known.{drop-known}
use Rattle.algebra.specs.Words.{over}
use Rattle.blinder.proofs.drop.blinder_drop.Goals as goal

pub returns-in-Err : goal.returns-in-Err
unfolding drop_blinder
returns-in-Err c =
    let told = c in
    let a = told.args in
    let s = slot_at a.pool.now a.at.size a.at.index in
    sym (refused-leaves a.s s a.scratch.now [] [] _ _ (sym c.in-Err.ensures))

pub forget-session-requires : goal.forget-session-requires
forget-session-requires c =
    let told = c in
    let a = told.args in
    let s = slot_at a.pool.now a.at.size a.at.index in
    let f = drop-known a.s s a.scratch.now (sym c.in_default.ensures) in
    (f.session-open.terms.sides, f.scratch-room)

pub spend_at-requires : goal.spend_at-requires
spend_at-requires c =
    let told = c in
    let a = told.args in
    let s = slot_at a.pool.now a.at.size a.at.index in
    let f = drop-known a.s s a.scratch.now (sym c.in_default.ensures) in
    open-placed blinder a.s.terms s f.session-open

pub returns : goal.returns
unfolding drop_blinder over
returns c =
    let told = c in
    let a = told.args in
    let s = slot_at a.pool.now a.at.size a.at.index in
    rw (told.forget-session.ensures.value, told.forget-session.ensures.scratch_after)
    (step-leaves a.s s a.scratch.now [] [] _ _
    (sym c.in_default.ensures) refl
    c.spend_at.ensures)
