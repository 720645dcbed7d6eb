-- `tape::change::spend` meets its contract. Assumes nothing.
use mathlib.Core.Path.{◌∙◌}
use native.Mathlib.Omega.{arith}
use Rattle.tape.specs.Ends.{role}
use Rattle.tape.proofs.Slots.{half-body, spent-is}
use Rattle.tape.proofs.change.spend.Goals as goal

pub half_size-half-requires : goal.half_size-half-requires
half_size-half-requires c = c.requires.0

pub overflow_sub-half : goal.overflow_sub-half
overflow_sub-half c =
    let a = c.args in
    omega (arith, c.half_size-half.ensures, half-body (role a.end) a.t)

pub write_spent-requires : goal.write_spent-requires
write_spent-requires c =
    let a = c.args in
    omega (arith, c.half_size-half.ensures, c.requires.1, half-body (role a.end) a.t)

pub returns : goal.returns
returns c =
    let a = c.args in
    let half = c.half_size-half in
    c.write_spent.ensures ∙ spent-is (role a.end) a.t a.slot.now half.result half.ensures
