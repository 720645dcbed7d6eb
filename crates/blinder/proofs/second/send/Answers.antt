-- `blinder::second::send` meets its contract. Assumes nothing.
use mathlib.Core.Path.{◌≡◌, sym, ap, ◌∙◌}
use Prim.Native.Nat.{ℕ, ◌+◌, ◌-◌, ◌*◌}
use native.Mathlib.Omega.{arith}
use Rattle.algebra.specs.System.{send_w}
use Rattle.algebra.proofs.Lists.{sub-residues}
use Rattle.protocol.specs.Bounds.{columns}
use Rattle.vectors.proofs.Written.{after-over, part_then}
use Rattle.blinder.specs.Second.{second_sent}
use Rattle.blinder.proofs.Kept.{side-is, wide_is, wide_enough, small, p-length, u0-length}
use borrow.Author.Rules.{rules}
use Rattle.blinder.proofs.second.send.Goals as goal

pub overflow_sub-sizes : goal.overflow_sub-sizes
overflow_sub-sizes c = let told = c in wide_enough told.args.t told.requires.sides

pub write_w-requires : goal.write_w-requires
write_w-requires c =
    let told = c in
    let t = told.args.t in
    let all = small t told.requires.sides told.requires.some-q told.requires.small-q in
    let wide : t.m * (t.m + (t.p - t.m)) ≡ t.m * t.p = ap (λ (p : ℕ). t.m * p) (wide_is t told.requires.sides) in
    let p = p-length t told.args.scratch.now told.requires.lent c.drawn_p-pm.ensures in
    let u0 = u0-length t told.args.scratch.now told.requires.lent c.drawn_u0-u0.ensures in
    search rules

pub write_c-requires : goal.write_c-requires
write_c-requires c =
    let told = c in
    let t = told.args.t in
    let all = small t told.requires.sides told.requires.some-q told.requires.small-q in
    let wide : t.m * (t.m + (t.p - t.m)) ≡ t.m * t.p = ap (λ (p : ℕ). t.m * p) (wide_is t told.requires.sides) in
    let side = side-is t told.requires.sides in
    let p = p-length t told.args.scratch.now told.requires.lent c.drawn_p-pm.ensures in
    let u0 = u0-length t told.args.scratch.now told.requires.lent c.drawn_u0-u0.ensures in
    search rules

pub returns : goal.returns
unfolding second_sent send_w columns
returns c =
    let told = c in
    let h = c.requires in
    let a = c.args in
    let square = told.times-square.ensures in
    let size = (sub-residues h.some-q (a.t.m * a.t.m) _ _).size in
    let w = rw (told.drawn_p-pm.ensures, told.drawn_u0-u0.ensures) at told.write_w.ensures in
    let v = rw (told.drawn_p-pm.ensures, told.drawn_u0-u0.ensures) at c.write_c.ensures in
    part_then _ _ a.out.now _ _ told.times-square.result (size ∙ sym square)
    (omega (arith, after-over _ a.out.now w (omega (arith, size, h.room)), square, h.room)) w v
