-- `blinder::first::check_inputs` meets its contract. Assumes nothing.
use Rattle.protocol.specs.Bounds.{room_tests}
use Rattle.judging.proofs.Join.{also}
use Rattle.blinder.specs.First.{first_inputs}
use Rattle.blinder.proofs.first.check_inputs.Goals as goal

pub returns : goal.returns
unfolding first_inputs room_tests
returns c =
    let told = c in
    also _ _ c.worst-3.ensures (rw told.times.ensures at
    told.check_input-matrix.ensures)
    (also _ _ c.worst-2.ensures
    (rw told.side_size.ensures at told.check_input-vector.ensures)
    (also _ _ c.worst.ensures (rw told.scratch_fits.ensures at told.need-coins.ensures)
    (rw told.has_room.ensures at c.need-sent.ensures)))
