-- `product::first::check` meets its contract. Assumes nothing.
use mathlib.Core.Path.{◌∙◌}
use Rattle.protocol.specs.Tape.{slot_at}
use Rattle.product.proofs.Phases.{first-tests-are}
use Rattle.judging.proofs.Join.{also}
use Rattle.product.proofs.first.check.Goals as goal

pub returns : goal.returns
returns c =
    let a = c.args in
    also _ _ c.worst.ensures c.check_first-first.ensures c.check_own-own.ensures
    ∙ first-tests-are a.t (slot_at a.pool.now a.at.size a.at.index) a.y.now a.room
