-- `line::put_residues` meets its contract: the words behind the head stand over those of the slice. Assumes nothing.
use mathlib.Core.Path.{◌≡◌, sym, ap, ap₂, ◌∙◌}
use mathlib.Core.List.{List, ◌++◌}
use Prim.Native.Nat.{ℕ, ◌+◌, ◌-◌}
use native.Mathlib.Omega.{arith}
use lib.ListN.{length, take, drop, length-drop}
use lib.Seq.{length-take-le}
use Rattle.algebra.specs.Words.{over}
use Rattle.line.proofs.put_residues.Goals as goal

pub returns : goal.returns
unfolding over
returns c =
    let a = c.args in
    let behind = drop 7 a.words.now in
    let n : a.count + 7 - 7 ≡ a.count = omega arith in
    let long : length (take a.count behind) ≡ a.count = length-take-le a.count behind (simp length-drop (omega arith)) in
    ap₂ (λ (l : List ℕ) (k : ℕ). l ++ drop k a.out.now) (c.copy_from_slice.ensures.after ∙ ap (λ (m : ℕ). take m behind) n) (sym long)
