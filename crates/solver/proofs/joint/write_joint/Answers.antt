-- `solver::joint::write_joint` meets its contract. Assumes nothing.
use mathlib.Core.Path.{ap, ◌∙◌}
use native.Mathlib.Omega.{arith}
use lib.ListN.{length, length-take}
use Rattle.protocol.specs.Tape.{slot_at}
use Rattle.solver.proofs.Known.{few}
use Rattle.solver.proofs.Formulas.{v-size, w_part, joint-sum}
use Rattle.solver.proofs.joint.write_joint.Goals as goal

pub write_sum-requires : goal.write_sum-requires
write_sum-requires c =
    let h = c.requires in
    let a = c.args in
    let n = c.times-n.ensures in
    let size = ap length c.matrix-v.ensures ∙ v-size a.t (slot_at a.pool.now a.at.size a.at.index) h.1 in
    (h.0, simp length-take (omega (arith, n, h.2)), omega (arith, size, n), omega (arith, n, h.3))

pub returns : goal.returns
returns c =
    let start = c in
    let a = start.args in
    let times = c.times-n in
    joint-sum a.t (slot_at a.pool.now a.at.size a.at.index) a.residues.now times.result a.out.now c.write_sum.ensures
    (times.ensures ∙ (few a.t start.requires.1.sides).mk-is) (w_part a.t a.residues.now times.result times.ensures) c.matrix-v.ensures
