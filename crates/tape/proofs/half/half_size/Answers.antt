-- `tape::half::half_size` meets its contract. Assumes nothing.
use mathlib.Core.Path.{◌∙◌}
use Rattle.protocol.proofs.Matrices.{matrix-last}
use Rattle.tape.specs.Ends.{role}
use Rattle.tape.proofs.half.half_size.Goals as goal

pub returns : goal.returns
returns c =
    let a = c.args in
    c.matrix_at.ensures ∙ matrix-last (role a.end) a.t.m a.t.k a.t.p
