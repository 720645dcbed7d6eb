-- `tape::half::matrix_at` meets its contract. Assumes nothing.
use mathlib.Core.Path.{sym}
use native.Mathlib.Numerals.{add-one}
use Prim.Native.Nat.{suc}
use borrow.Author.Rules.{rules}
use Rattle.protocol.proofs.Matrices.{matrix-first, matrix-next, matrix-within}
use Rattle.tape.proofs.Matrices.{half-bound}
use mathlib.Core.Path.{◌≡◌}
use native.Mathlib.Omega.{arith}
use Rattle.tape.specs.Ends.{role}
use Rattle.tape.proofs.half.matrix_at.Goals as goal

pub loop-i-init : goal.loop-i-init
loop-i-init c = (omega arith, sym (matrix-first (role c.args.end) c.args.t.m c.args.t.k c.args.t.p))

pub matrix_size-at-requires : goal.matrix_size-at-requires
matrix_size-at-requires c = omega (arith, c.requires.1)

pub overflow_add-at : goal.overflow_add-at
overflow_add-at c =
    let a = c.args in
    let r = role a.end in
    let i = c.loop-i.i in
    let n = matrix-next r a.t.m a.t.k a.t.p i in
    let w = matrix-within r a.t.m a.t.k a.t.p (suc i) in
    let b = half-bound r a.t.m a.t.k a.t.p c.requires.0 in
    let e = c.loop-i.invariant.1 in
    let m = c.matrix_size-at.ensures in
    search rules

pub loop-i-smaller : goal.loop-i-smaller
loop-i-smaller c = omega arith

pub loop-i-preserved : goal.loop-i-preserved
loop-i-preserved c =
    let a = c.args in
    let i = c.loop-i.i in
    let n = matrix-next (role a.end) a.t.m a.t.k a.t.p i in
    let e = c.loop-i.invariant.1 in
    let m = c.matrix_size-at.ensures in
    (omega arith, rw add-one (omega arith))

pub returns : goal.returns
returns c =
    let e : c.loop-i.i ≡ c.args.j = omega arith in
    rw (← e) c.loop-i.invariant.1
