-- `blinder::drop::check` meets its contract. Assumes nothing.
use Rattle.protocol.specs.Bounds.{room_tests}
use Rattle.judging.proofs.Join.{also}
use Rattle.blinder.proofs.drop.check.Goals as goal

pub returns : goal.returns
unfolding room_tests
returns c =
    also _ _ c.worst.ensures c.check_open-session.ensures
    (rw c.scratch_fits.ensures at c.check_room-scratch.ensures)
