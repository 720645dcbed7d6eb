-- `solver::first::check_inputs` meets its contract. Assumes nothing.
use mathlib.Core.List.{[], ◌∷◌}
use Rattle.protocol.specs.Bounds.{room_tests}
use Rattle.judging.proofs.Join.{also}
use Rattle.solver.proofs.first.check_inputs.Goals as goal

pub returns : goal.returns
unfolding room_tests
returns c =
    let worst = c.worst in
    let check-first = c.check_first-shared in
    let times = c.times in
    let check-input = c.check_input-matrix in
    let side-size = c.side_size in
    let check-input2 = c.check_input-vector in
    also _ (_ ∷ []) c.worst-3.ensures
    (also _ _ c.worst-2.ensures
    (also _ _ worst.ensures check-first.ensures (rw times.ensures at check-input.ensures))
    (rw side-size.ensures at check-input2.ensures))
    (rw c.has_room.ensures at c.need-sent.ensures)
