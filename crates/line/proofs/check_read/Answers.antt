-- `line::check_read` meets its contract: the head is checked first, then room and residues. Assumes nothing.
use mathlib.Core.Path.{◌≡◌, sym, ap, ◌∙◌}
use mathlib.Core.List.{List}
use Prim.Native.Nat.{ℕ, ◌+◌, ◌-◌}
use native.Mathlib.Omega.{arith}
use lib.ListN.{take, drop}
use Rattle.judging.specs.InOrder.{judged}
use Rattle.judging.proofs.Join.{hands_on, goes-past}
use Rattle.line.specs.Reading.{rest_tests}
use Rattle.line.proofs.Fits.{head_few}
use Rattle.line.proofs.Judged.{read-phases}
use Rattle.line.proofs.Words.{all-residues}
use Rattle.line.proofs.check_read.Goals as goal

pub returns-in_err-check_message : goal.returns-in_err-check_message
returns-in_err-check_message c =
    λ s l. hands_on c.from_residual.result _ c.from_residual.ensures.1 c.in_err-check_message.ensures ∙ sym (read-phases l c.args.room)

pub overflow_add-end : goal.overflow_add-end
overflow_add-end c = omega (arith, head_few _ _ (sym c.in_ok-check_message.ensures))

pub slice_bounds-check_rest-end : goal.slice_bounds-check_rest-end
slice_bounds-check_rest-end c = omega (arith, head_few _ _ (sym c.in_ok-check_message.ensures), c.requires)

pub returns : goal.returns
returns c =
    let a = c.args in
    let n : a.count + 7 - 7 ≡ a.count = omega arith in
    let few = head_few _ _ (sym c.in_ok-check_message.ensures) in
    let pre = c.requires in
    λ s l. c.check_rest.ensures ∙ ap (λ (r : List ℕ). judged (rest_tests a.h.terms.q r a.count a.room))
    (ap (λ (m : ℕ). take m (drop 7 a.words.now)) n ∙ all-residues l (omega (arith, few, pre)))
    ∙ sym (read-phases l a.room ∙ goes-past c.in_ok-check_message.ensures)
