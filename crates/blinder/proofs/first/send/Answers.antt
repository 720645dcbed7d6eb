-- `blinder::first::send` meets its contract. Assumes nothing.
use mathlib.Core.Path.{sym, ◌∙◌}
use Prim.Native.Nat.{◌*◌}
use native.Mathlib.Omega.{arith}
use Rattle.algebra.specs.Product.{send_x, send_r}
use Rattle.algebra.proofs.Lists.{add-residues}
use Rattle.vectors.proofs.Written.{after-over, part_then}
use Rattle.tape.proofs.Sides.{unknowns}
use Rattle.blinder.specs.First.{first_sent}
use Rattle.blinder.proofs.Kept.{wide-bound, p-length, u0-length}
use borrow.Author.Rules.{rules}
use Rattle.blinder.proofs.first.send.Goals as goal

pub write_sum-requires : goal.write_sum-requires
write_sum-requires c =
    let told = c in
    let start = c.before.before.before in
    let p = p-length start.args.t start.args.scratch.now start.requires.lent c.drawn_p-pm.ensures in
    search rules

pub write_reply-requires : goal.write_reply-requires
write_reply-requires c =
    let told = c in
    let start = c.before.before.before.before.before.before in
    let t = start.args.t in
    let p = p-length t start.args.scratch.now start.requires.lent told.drawn_p-pm.ensures in
    let u0 = u0-length t start.args.scratch.now start.requires.lent told.drawn_u0-u0.ensures in
    let u = unknowns t.m t.k t.p start.requires.sides in
    let wide = wide-bound t start.requires.sides in
    rw (c.from.ensures, u.square) (search rules)

pub returns : goal.returns
unfolding first_sent send_x send_r
returns c =
    let told = c in
    let start = c.before.before.before.before.before.before.before in
    let a = start.args in
    let square = told.times-square.ensures in
    let size = (add-residues start.requires.some-q (a.t.m * a.t.m) _ _).size in
    let x = rw (told.drawn_p-pm.ensures, square) at told.write_sum.ensures in
    let u = unknowns a.t.m a.t.k a.t.p start.requires.sides in
    let by_n = rw (c.from.ensures, u.square) at c.write_reply.ensures in
    let r = rw (told.drawn_p-pm.ensures, told.drawn_u0-u0.ensures) at by_n in
    part_then _ _ a.out.now _ _ told.times-square.result (size ∙ sym square)
    (omega (arith, after-over _ a.out.now x (omega (arith, size, start.requires.room)), square, start.requires.room)) x r
