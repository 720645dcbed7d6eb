-- `tape::half::holds_residues` meets its contract. Assumes nothing.
use mathlib.Core.Path.{ap, ◌∙◌}
use Rattle.protocol.specs.Bounds.{all_below}
use Rattle.tape.specs.Ends.{role}
use Rattle.tape.proofs.Slots.{half-body, body-part}
use borrow.Author.Rules.{rules}
use Rattle.tape.proofs.half.holds_residues.Goals as goal

pub slice_bounds-all_below-count : goal.slice_bounds-all_below-count
slice_bounds-all_below-count c =
    let a = c.args in
    let h = c.half_size-stop.ensures in
    let b = half-body (role a.end) a.t in
    search rules

pub slice_bounds-all_below-start : goal.slice_bounds-all_below-start
slice_bounds-all_below-start c =
    let a = c.args in
    let h = c.half_size-stop.ensures in
    let b = half-body (role a.end) a.t in
    search rules

pub returns : goal.returns
returns c =
    let a = c.args in
    let half = c.half_size-stop in
    c.all_below.ensures ∙ ap (all_below a.t.q) (body-part (role a.end) a.t a.slot.now half.result half.ensures)
