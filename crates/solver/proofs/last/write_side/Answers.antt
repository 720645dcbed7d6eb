-- `solver::last::write_side` meets its contract. Assumes nothing.
use mathlib.Core.Path.{ap}
use Prim.Native.Nat.{ℕ}
use lib.ListN.{take}
use Rattle.solver.proofs.Formulas.{c-part, joint-side}
use Rattle.solver.proofs.last.write_side.Goals as goal

pub returns : goal.returns
returns c =
    let pre = c.requires in
    let a = c.args in
    let times = c.times-from in
    let side = c.side_size-side in
    joint-side a.t a.residues.now a.kept.now side.result a.out.now c.write_sum.ensures side.ensures
    (c-part a.t a.residues.now times.result times.ensures pre.1) (ap (λ (n : ℕ). take n a.kept.now) side.ensures)
