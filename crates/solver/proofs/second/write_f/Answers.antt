-- `solver::second::write_f` meets its contract. Assumes nothing.
use mathlib.Core.Path.{sym, ◌∙◌}
use native.Mathlib.Omega.{arith}
use lib.ListN.{length-take}
use lib.Seq.{length-take-le}
use Rattle.algebra.specs.System.{cols}
use Rattle.algebra.proofs.Columns.{cols-length}
use Rattle.protocol.specs.Bounds.{columns}
use Rattle.vectors.proofs.Written.{after-over, over-part}
use Rattle.solver.proofs.Known.{few}
use Rattle.solver.proofs.Formulas.{f-sent}
use Rattle.solver.proofs.second.write_f.Goals as goal

pub write_cols-requires : goal.write_cols-requires
write_cols-requires c =
    let h = c.requires in
    let f = few c.args.t h.1 in
    (omega (arith, f.least), omega (arith, h.3), omega (arith, f.mm))

pub slice_bounds-first-end : goal.slice_bounds-first-end
slice_bounds-first-end c =
    let a = c.args in
    let f = few a.t c.requires.1 in
    let n = cols-length a.t.m a.t.p 0 a.t.m a.share.now in
    let z = after-over (cols a.t.m a.t.p 0 a.t.m a.share.now) _ c.write_cols.ensures (omega (arith, n, f.mm)) in
    omega (arith, z, f.mm, c.times-size.ensures)

pub slice_bounds-write_difference-end : goal.slice_bounds-write_difference-end
slice_bounds-write_difference-end c =
    let a = c.args in
    let f = few a.t c.requires.1 in
    let n = cols-length a.t.m a.t.p 0 a.t.m a.share.now in
    let z = after-over (cols a.t.m a.t.p 0 a.t.m a.share.now) _ c.write_cols.ensures (omega (arith, n, f.mm)) in
    sym (length-take-le _ _ (omega (arith, z, f.mm, c.times-size.ensures)))

pub write_difference-requires : goal.write_difference-requires
write_difference-requires c =
    let write-cols = c.write_cols in
    let a = c.args in
    let h = c.requires in
    let f = few a.t h.1 in
    let size = c.times-size.ensures in
    let n = cols-length a.t.m a.t.p 0 a.t.m a.share.now in
    let z = after-over (cols a.t.m a.t.p 0 a.t.m a.share.now) _ write-cols.ensures (omega (arith, n, f.mm)) in
    (h.0, omega (arith, h.2, f.mk-is, size), simp length-take (omega (arith, z, f.mm, size)), omega (arith, h.4, f.mk-is, size))

pub returns : goal.returns
returns c =
    let far = c in
    let write-difference = c.write_difference in
    let write-cols = c.write_cols in
    let a = far.args in
    let f = few a.t far.requires.1 in
    let times = c.times-size in
    let first = cols a.t.m a.t.p 0 a.t.m a.share.now in
    let n = cols-length a.t.m a.t.p 0 a.t.m a.share.now in
    f-sent a.t.q a.t.m a.t.p (columns a.t.m a.t.p) times.result a.r.now a.share.now a.out.now
    write-difference.ensures times.ensures (over-part times.result first _ write-cols.ensures (n ∙ sym times.ensures)) f.whole
