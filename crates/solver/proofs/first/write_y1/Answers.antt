-- `solver::first::write_y1` meets its contract. Assumes nothing.
use mathlib.Core.Path.{◌≡◌, sym, ap, ◌∙◌}
use Prim.Native.Nat.{ℕ, ◌+◌, ◌*◌, ◌-◌}
use native.Mathlib.Omega.{arith}
use lib.ListN.{length-take}
use lib.Seq.{length-take-le}
use Rattle.algebra.specs.Columns.{beside}
use Rattle.protocol.specs.Bounds.{columns}
use Rattle.protocol.specs.System.{side_size}
use Rattle.vectors.proofs.Rows.{beside-length}
use Rattle.vectors.proofs.Written.{after-over, over-part}
use Rattle.solver.proofs.Known.{few}
use Rattle.solver.proofs.Formulas.{y1-sent}
use Rattle.solver.proofs.first.write_y1.Goals as goal

pub overflow_sub-t : goal.overflow_sub-t
overflow_sub-t c =
    let args = c.args in
    let pre = c.requires in
    let f = few args.t pre.1 in
    omega (arith, f.least)

pub write_beside-requires : goal.write_beside-requires
unfolding side_size columns
write_beside-requires c =
    let a = c.args in
    let h = c.requires in
    let f = few a.t h.1 in
    let w : a.t.m * (a.t.m + (a.t.p - a.t.m)) ≡ a.t.m * a.t.p = ap (λ (n : ℕ). a.t.m * n) f.whole in
    (omega (arith, h.2), omega (arith, h.3), omega (arith, w, f.mp))

pub slice_bounds-y-end : goal.slice_bounds-y-end
unfolding columns
slice_bounds-y-end c =
    let a = c.args in
    let f = few a.t c.requires.1 in
    let b = beside-length a.t.m a.t.m (columns a.t.m a.t.p) a.l.now a.x.now ∙ ap (λ (n : ℕ). a.t.m * n) f.whole in
    let y = beside a.t.m a.t.m (columns a.t.m a.t.p) a.l.now a.x.now in
    let n = after-over y _ c.write_beside.ensures (omega (arith, b, f.mp)) in
    omega (arith, n, f.mp, c.times-size.ensures)

pub slice_bounds-write_difference-end : goal.slice_bounds-write_difference-end
unfolding columns
slice_bounds-write_difference-end c =
    let a = c.args in
    let f = few a.t c.requires.1 in
    let b = beside-length a.t.m a.t.m (columns a.t.m a.t.p) a.l.now a.x.now ∙ ap (λ (n : ℕ). a.t.m * n) f.whole in
    let y = beside a.t.m a.t.m (columns a.t.m a.t.p) a.l.now a.x.now in
    let n = after-over y _ c.write_beside.ensures (omega (arith, b, f.mp)) in
    sym (length-take-le _ _ (omega (arith, n, f.mp, c.times-size.ensures)))

pub write_difference-requires : goal.write_difference-requires
unfolding columns
write_difference-requires c =
    let a = c.args in
    let h = c.requires in
    let f = few a.t h.1 in
    let times = c.times-size in
    let b = beside-length a.t.m a.t.m (columns a.t.m a.t.p) a.l.now a.x.now ∙ ap (λ (n : ℕ). a.t.m * n) f.whole in
    let y = beside a.t.m a.t.m (columns a.t.m a.t.p) a.l.now a.x.now in
    let n = after-over y _ c.write_beside.ensures (omega (arith, b, f.mp)) in
    let size = times.ensures in
    (h.0, simp length-take (omega (arith, n, f.mp, size)), omega (arith, f.kp-is, h.4, size), omega (arith, f.kp-is, h.5, size))

pub returns : goal.returns
unfolding columns
returns c =
    let far = c in
    let write-beside = c.write_beside in
    let a = far.args in
    let f = few a.t far.requires.1 in
    let times = c.times-size in
    let b = beside a.t.m a.t.m (columns a.t.m a.t.p) a.l.now a.x.now in
    let n = beside-length a.t.m a.t.m (columns a.t.m a.t.p) a.l.now a.x.now ∙ ap (λ (n : ℕ). a.t.m * n) f.whole in
    y1-sent a.t.q a.t.m a.t.p times.result b a.y0.now a.out.now c.write_difference.ensures
    (over-part times.result b _ write-beside.ensures (n ∙ sym times.ensures)) times.ensures
