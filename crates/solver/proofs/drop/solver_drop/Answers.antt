-- `solver::drop::solver_drop` meets its contract. Assumes nothing.
use mathlib.Core.Path.{refl, sym}
use mathlib.Core.List.{[]}
use Rattle.algebra.specs.Words.{over}
use Rattle.protocol.specs.Tape.{slot_at, slot_words, words_spent, solver}
use Rattle.protocol.specs.Drop.{dropped, drop_solver}
use Rattle.protocol.specs.System.{closed_solver}
use Rattle.protocol.proofs.Judge.{passed}
use Rattle.protocol.proofs.Tests.{open-tests}
use Rattle.judging.proofs.Leaving.{refused-leaves, step-leaves}
use Rattle.judging.proofs.Fits.{open-placed}
use Rattle.solver.proofs.drop.solver_drop.Goals as goal

pub returns-in-Err : goal.returns-in-Err
unfolding drop_solver over
returns-in-Err c =
    let a = c.args in
    let s = slot_at a.pool.now a.at.size a.at.index in
    let effect = dropped (closed_solver a.s) (words_spent solver a.s.terms (slot_words s)) [] in
    sym (refused-leaves a.s s [] [] [] _ effect (sym c.in-Err.ensures))

pub spend_at-requires : goal.spend_at-requires
spend_at-requires c =
    let a = c.args in
    let s = slot_at a.pool.now a.at.size a.at.index in
    let e = sym c.in_default.ensures in
    open-placed solver a.s.terms s ((open-tests solver a.s.due a.s.terms s).0 (record { all = (passed _ e).0 }))

pub returns : goal.returns
unfolding drop_solver over
returns c =
    let a = c.args in
    let s = slot_at a.pool.now a.at.size a.at.index in
    let e = sym c.in_default.ensures in
    let effect = dropped (closed_solver a.s) (words_spent solver a.s.terms (slot_words s)) [] in
    rw c.session_of.ensures (step-leaves a.s s [] [] [] _ effect e refl c.spend_at.ensures)
