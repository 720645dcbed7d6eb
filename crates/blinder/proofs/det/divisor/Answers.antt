-- `blinder::det::divisor` meets its contract. Assumes nothing.
use mathlib.Core.Path.{◌∙◌}
use Rattle.tape.proofs.Sides.{unknowns}
use Rattle.blinder.specs.Division.{divisor_of}
use Rattle.blinder.proofs.det.divisor.Goals as goal

pub determinant-requires : goal.determinant-requires
determinant-requires c =
    let start = c in
    let t = start.args.t in
    let h = start.requires in
    (h.prime, h.small-q, (unknowns t.m t.k t.p h.placed.sides).few, rw c.drawn_p-pm.ensures h.p-residues)

pub determinant-requires-2 : goal.determinant-requires-2
determinant-requires-2 c =
    let start = c in
    let t = start.args.t in
    let h = start.requires in
    (h.prime, h.small-q, (unknowns t.m t.k t.p h.placed.sides).few, rw c.matrix-qm.ensures h.q-residues)

pub returns : goal.returns
unfolding divisor_of
returns c =
    c.mul_mod.ensures ∙ rw (c.determinant.ensures, c.determinant-2.ensures, c.drawn_p-pm.ensures, c.matrix-qm.ensures)
