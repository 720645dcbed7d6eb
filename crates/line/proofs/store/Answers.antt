-- `line::store` meets its contract: the residues come from the words that were loaded, or from the line itself. Assumes nothing.
use mathlib.Core.Path.{ap, ◌∙◌}
use mathlib.Core.List.{List}
use Prim.Native.Nat.{ℕ}
use native.Mathlib.Omega.{arith}
use lib.ListN.{drop}
use lib.Seq.{sets}
use Rattle.algebra.specs.Words.{over}
use Rattle.decimal.proofs.Entry.{before-all, sets_over}
use Rattle.line.proofs.Words.{all-residues}
use Rattle.line.proofs.store.Goals as goal

pub put_residues-requires : goal.put_residues-requires
put_residues-requires c = let h = c.requires in (omega (arith, h.0, c.if-count-le3072.true), h.1)

pub returns-then-count-le3072 : goal.returns-then-count-le3072
returns-then-count-le3072 c =
    let out = c.args.out.now in
    let few = c.if-count-le3072.true in
    let pre = c.requires in
    λ h l. c.put_residues.ensures ∙ ap (λ (r : List ℕ). over r out) (all-residues l (omega (arith, few, pre.0)))

pub returns : goal.returns
returns c =
    let a = c.args in
    λ h l. c.load_behind.ensures.contents ∙ ap (λ (xs : List ℕ). sets a.out.now 0 (drop 7 xs)) (before-all a.s.now l.values l.reads)
    ∙ sets_over (drop 7 l.values) _ (omega (arith, l.count))
