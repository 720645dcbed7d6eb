-- `product::last::check` meets its contract. Assumes nothing.
use mathlib.Core.Path.{◌∙◌}
use Rattle.protocol.specs.Bounds.{room_tests}
use Rattle.protocol.specs.Tape.{slot_at}
use Rattle.protocol.specs.Product.{right_last_tests}
use Rattle.judging.proofs.Join.{also}
use Rattle.product.proofs.Phases.{last-tests}
use Rattle.product.proofs.last.check.Goals as goal

pub returns : goal.returns
unfolding right_last_tests room_tests
returns c =
    let a = c.args in
    let both = also _ _ c.worst.ensures c.check_later-later.ensures (rw c.times.ensures at c.check_room-own.ensures) in
    both ∙ last-tests a.s (slot_at a.pool.now a.at.size a.at.index) a.a.head a.a.residues.now a.share
