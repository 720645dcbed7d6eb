-- `solver::last::find_t` meets its contract. Assumes nothing.
use mathlib.Core.Path.{◌≡◌, sym, ◌∙◌}
use Prim.Native.Nat.{◌*◌}
use native.Mathlib.Omega.{arith}
use lib.Seq.{length-take-le}
use Rattle.vectors.proofs.Written.{after-over, over-part}
use Rattle.protocol.specs.System.{side_size}
use Rattle.solver.specs.Formulas.{side_of}
use Rattle.solver.proofs.Known.{few, one_side}
use Rattle.solver.proofs.Formulas.{side-residues}
use Rattle.solver.proofs.last.find_t.Goals as goal

pub write_side-requires : goal.write_side-requires
write_side-requires c =
    let h = c.requires in
    let f = few c.args.t h.3 in
    (omega (arith, h.1), h.6, omega (arith, f.side-few, h.7), omega (arith, f.side-few))

pub slice_bounds-right-end : goal.slice_bounds-right-end
slice_bounds-right-end c =
    let a = c.args in
    let h = c.requires in
    let f = few a.t h.3 in
    let r = (side-residues a.t a.residues.now a.kept.now (omega (arith, h.1))).size in
    let n = after-over (side_of a.t a.residues.now a.kept.now) _ c.write_side.ensures (omega (arith, r, f.side-few)) in
    omega (arith, n, f.side-few, c.side_size-side.ensures)

pub slice_bounds-solve-end : goal.slice_bounds-solve-end
slice_bounds-solve-end c =
    let write-side = c.write_side in
    let a = c.args in
    let h = c.requires in
    let f = few a.t h.3 in
    let r = (side-residues a.t a.residues.now a.kept.now (omega (arith, h.1))).size in
    let n = after-over (side_of a.t a.residues.now a.kept.now) _ write-side.ensures (omega (arith, r, f.side-few)) in
    sym (length-take-le _ _ (omega (arith, n, f.side-few, c.side_size-side.ensures)))

pub solve-requires : goal.solve-requires
solve-requires c =
    let write-side = c.write_side in
    let a = c.args in
    let h = c.requires in
    let side = c.side_size-side in
    let r = side-residues a.t a.residues.now a.kept.now (omega (arith, h.1)) in
    let e = over-part side.result (side_of a.t a.residues.now a.kept.now) _ write-side.ensures (r.size ∙ sym side.ensures) in
    let one : a.t.m * 1 ≡ side_size a.t = omega (arith, one_side a.t h.3 h.4) in
    (h.0, h.2, (few a.t h.3).few, h.5, rw (e, one) r, h.8)

pub returns : goal.returns
returns c =
    let far = c in
    let write-side = c.write_side in
    let a = far.args in
    let h = far.requires in
    let side = c.side_size-side in
    let r = side-residues a.t a.residues.now a.kept.now (omega (arith, h.1)) in
    let e = over-part side.result (side_of a.t a.residues.now a.kept.now) _ write-side.ensures (r.size ∙ sym side.ensures) in
    (c.solve.ensures.0, rw e at c.solve.ensures.1)
