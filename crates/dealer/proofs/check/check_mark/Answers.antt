-- `dealer::check::check_mark` meets its contract. Assumes nothing.
use mathlib.Core.Path.{ap, ◌∙◌}
use native.Mathlib.Omega.{arith}
use lib.ListN.{length}
use Rattle.protocol.specs.Tape.{is_slot}
use Rattle.protocol.proofs.Slots.{slot-length}
use Rattle.tape.specs.Placed.{slot_in}
use Rattle.dealer.specs.Groups.{mark_tests}
use Rattle.dealer.proofs.check.check_mark.Goals as goal

pub slot-requires : goal.slot-requires
unfolding is_slot
slot-requires c = c.requires.1

pub is_free-requires : goal.is_free-requires
unfolding is_slot
is_free-requires c =
    let start = c in
    let a = start.args in
    omega (arith, start.requires.0, ap length c.slot.ensures ∙ slot-length (slot_in a.pool.now a.at) start.requires.1)

pub returns : goal.returns
unfolding mark_tests
returns c = rw (c.is_free.ensures, c.slot.ensures) at c.need.ensures
