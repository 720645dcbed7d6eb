-- `session::open::check_first` meets its contract. Assumes nothing.
use mathlib.Core.Path.{sym}
use Prim.Native.Nat.{◌*◌}
use lib.ListN.{length, take, drop}
use lib.Seq.{length-take-le}
use Rattle.protocol.specs.Tape.{slot_at}
use Rattle.protocol.specs.Message.{message_in}
use Rattle.protocol.specs.Product.{left_tests, left_effect, left_step, right_first_tests, right_first_effect, right_first}
use Rattle.protocol.specs.System.{blinder_first_tests, blinder_first_effect, blinder_first, solver_first_tests, solver_first_effect, solver_first}
use Rattle.vectors.proofs.Written.{tail-part}
use Rattle.entry.specs.Record.{of_left, of_right, of_blinder, of_solver}
use Rattle.session.proofs.Chosen.{first-left, first-right, first-blinder, first-solver, first-other}
use Rattle.session.proofs.Opened.{recorded_tells}
use Rattle.session.proofs.open.check_first.Goals as goal

pub slice_bounds-check-end : goal.slice_bounds-check-end
slice_bounds-check-end c = sym (length-take-le _ _ c.square_of-n.ensures.0)

pub slice_bounds-check-end-in-4 : goal.slice_bounds-check-end-in-4
slice_bounds-check-end-in-4 c = sym (length-take-le _ _ c.square_of-n.ensures.0)

pub returns-in-1 : goal.returns-in-1
unfolding left_step
returns-in-1 c =
    let at8 = c in
    let a = at8.args in
    let s = slot_at a.pool.now a.at.size a.at.index in
    let m = message_in a.a in
    let x = a.input.now in
    rw (first-left a.t s a.scratch.now a.input.now a.words.now m a.room a.share c.in-1.is)
    (recorded_tells (λ _. of_left a.t) (left_tests a.t s x a.words.now m a.room a.share) (left_effect a.t s x a.words.now m)
    c.check.ensures)

pub returns-in-2 : goal.returns-in-2
unfolding right_first
returns-in-2 c =
    let at8 = c in
    let a = at8.args in
    let s = slot_at a.pool.now a.at.size a.at.index in
    let m = message_in a.a in
    let y = a.input.now in
    rw (first-right a.t s a.scratch.now a.input.now a.words.now m a.room a.share c.in-2.is)
    (recorded_tells of_right (right_first_tests a.t s y a.room) (right_first_effect a.t s y) c.check-in-2.ensures)

pub returns-in-3 : goal.returns-in-3
unfolding blinder_first
returns-in-3 c =
    let at4 = c in
    let at10 = c in
    let a = at10.args in
    let s = slot_at a.pool.now a.at.size a.at.index in
    let m = message_in a.a in
    let n = a.t.m * a.t.m in
    let l = a.input.now in
    let cut = at4.square_of-n.ensures in
    let e = rw (tail-part at4.square_of-n.result l, cut.1, cut.2) at c.check-in-3.ensures in
    rw (first-blinder a.t s a.scratch.now a.input.now a.words.now m a.room a.share c.in-3.is)
    (recorded_tells of_blinder (blinder_first_tests a.t s (length a.scratch.now) (take n l) (drop n l) a.words.now m a.room)
    (blinder_first_effect a.t s (take n l) (drop n l) a.words.now m) e)

pub returns-in-4 : goal.returns-in-4
unfolding solver_first
returns-in-4 c =
    let at4 = c in
    let at10 = c in
    let a = at10.args in
    let s = slot_at a.pool.now a.at.size a.at.index in
    let m = message_in a.a in
    let n = a.t.m * a.t.m in
    let l = a.input.now in
    let cut = at4.square_of-n.ensures in
    let e = rw (tail-part at4.square_of-n.result l, cut.1, cut.2) at c.check-in-4.ensures in
    rw (first-solver a.t s a.scratch.now a.input.now a.words.now m a.room a.share c.in-4.is)
    (recorded_tells of_solver (solver_first_tests a.t s (take n l) (drop n l) a.room) (solver_first_effect a.t s (take n l) (drop n l)) e)

pub returns-in_default : goal.returns-in_default
returns-in_default c =
    let at7 = c in
    let a = at7.args in
    let s = slot_at a.pool.now a.at.size a.at.index in
    let m = message_in a.a in
    let h = c.in_default.in_default-own.rest in
    rw (first-other a.t s a.scratch.now a.input.now a.words.now m a.room a.share h.0.0.0.1 h.0.0.1 h.0.1 h.1)
