-- `rehearse_lines::print::put_text` meets its contract. Assumes nothing.
use mathlib.Core.Path.{◌≡◌, sym, ap, ap₂, ◌∙◌}
use mathlib.Core.List.{List, ◌++◌, append_assoc}
use Prim.Native.Nat.{ℕ, ◌+◌, ◌-◌}
use native.Mathlib.Omega.{arith}
use lib.ListN.{length, take, drop}
use lib.Seq.{sets-eq, drop-drop}
use borrow.Rule.Slice.PartMut.{put_mid}
use Rattle.rehearse_lines.proofs.print.put_text.Goals as goal

pub returns-clause-contents : goal.returns-clause-contents
returns-clause-contents c =
    let a = c.args in
    let text = a.text.now in
    let out = a.out.now in
    let n : a.at + length text - a.at ≡ length text = omega arith in
    ap₂ (λ (k : ℕ) (l : List ℕ). put_mid a.at k out l) n c.copy_from_slice.ensures.after
    ∙ ap (λ (l : List ℕ). take a.at out ++ (text ++ l)) (drop-drop (length text) a.at out)
    ∙ sym (append_assoc (take a.at out) text (drop (a.at + length text) out)) ∙ sym (sets-eq text out a.at c.requires)
