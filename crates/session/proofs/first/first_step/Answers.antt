-- `session::first::first_step` meets its contract. Assumes nothing.
use mathlib.Core.List.{[]}
use Prim.Native.Nat.{◌*◌}
use lib.ListN.{length, take, drop}
use Rattle.algebra.specs.Words.{over}
use Rattle.protocol.specs.Tape.{slot_at}
use Rattle.protocol.specs.Message.{message_in}
use Rattle.protocol.specs.Product.{no_right}
use Rattle.protocol.specs.System.{no_blinder, no_solver}
use Rattle.entry.specs.Record.{of_left, of_right, of_blinder, of_solver}
use Rattle.local.proofs.Recorded.{any-scratch, any-result}
use Rattle.local.proofs.Ends.{left-no-scratch, right-first-no-scratch, right-first-no-result, blinder-first-no-result}
use Rattle.local.proofs.Ends.{solver-first-no-scratch, solver-first-no-result}
use Rattle.session.proofs.Chosen.{first-left, first-right, first-blinder, first-solver, first-other}
use Rattle.session.proofs.Chosen.{unopened-left, unopened-right, unopened-blinder, unopened-solver, unopened-other}
use Rattle.session.proofs.first.first_step.Goals as goal

pub returns-in-1 : goal.returns-in-1
returns-in-1 c =
    let at6 = c in
    let at10 = c in
    let at18 = c in
    let a = at18.args in
    let s = slot_at a.pool.now a.at.size a.at.index in
    let m = message_in a.a in
    let l = a.input.now in
    let room = length a.out.now in
    let share = length a.res.now in
    let none = left-no-scratch a.t s l a.words.now m room share (λ _. of_left a.t) in
    let which = first-left a.t s a.scratch.now l a.words.now m room share c.in-1.is in
    rw (which, unopened-left a.t c.in-1.is) (any-scratch (of_left a.t) s a.out.now a.res.now a.scratch.now none at6.left.ensures)

pub returns-in-2 : goal.returns-in-2
returns-in-2 c =
    let at4 = c in
    let at7 = c in
    let at15 = c in
    let a = at15.args in
    let s = slot_at a.pool.now a.at.size a.at.index in
    let m = message_in a.a in
    let l = a.input.now in
    let room = length a.out.now in
    let share = length a.res.now in
    let no-scratch = right-first-no-scratch a.t s l room of_right in
    let no_result = right-first-no-result a.t s l room of_right in
    let which = first-right a.t s a.scratch.now l a.words.now m room share c.in-2.is in
    rw (which, unopened-right a.t c.in-2.is)
    (any-scratch (of_right no_right) s a.out.now a.res.now a.scratch.now no-scratch
    (any-result (of_right no_right) s [] a.out.now a.res.now no_result at4.right.ensures))

pub returns-in-3 : goal.returns-in-3
returns-in-3 c =
    let at6 = c in
    let at10 = c in
    let at18 = c in
    let a = at18.args in
    let s = slot_at a.pool.now a.at.size a.at.index in
    let m = message_in a.a in
    let l = a.input.now in
    let room = length a.out.now in
    let share = length a.res.now in
    let n = a.t.m * a.t.m in
    let none = blinder-first-no-result a.t s (length a.scratch.now) (take n l) (drop n l) a.words.now m room of_blinder in
    let which = first-blinder a.t s a.scratch.now l a.words.now m room share c.in-3.is in
    rw (which, unopened-blinder a.t c.in-3.is) (any-result (of_blinder no_blinder) s a.scratch.now a.out.now a.res.now none at6.blinder.ensures)

pub returns-in-4 : goal.returns-in-4
returns-in-4 c =
    let at4 = c in
    let at7 = c in
    let at15 = c in
    let a = at15.args in
    let s = slot_at a.pool.now a.at.size a.at.index in
    let m = message_in a.a in
    let l = a.input.now in
    let room = length a.out.now in
    let share = length a.res.now in
    let n = a.t.m * a.t.m in
    let no-scratch = solver-first-no-scratch a.t s (take n l) (drop n l) room of_solver in
    let no_result = solver-first-no-result a.t s (take n l) (drop n l) room of_solver in
    let which = first-solver a.t s a.scratch.now l a.words.now m room share c.in-4.is in
    rw (which, unopened-solver a.t c.in-4.is)
    (any-scratch (of_solver no_solver) s a.out.now a.res.now a.scratch.now no-scratch
    (any-result (of_solver no_solver) s [] a.out.now a.res.now no_result at4.solver.ensures))

pub returns-in_default : goal.returns-in_default
unfolding over
returns-in_default c =
    let at9 = c in
    let a = at9.args in
    let s = slot_at a.pool.now a.at.size a.at.index in
    let m = message_in a.a in
    let l = a.input.now in
    let room = length a.out.now in
    let share = length a.res.now in
    let h = c.in_default.in_default-own.rest in
    rw (c.refused.ensures, c.of_left.ensures, unopened-other a.t h.0.0.1 h.0.1 h.1, first-other a.t s a.scratch.now l a.words.now m room share h.0.0.0.1 h.0.0.1 h.0.1 h.1)
