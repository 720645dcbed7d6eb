-- `tape::change::take_up_at` meets its contract. Assumes nothing.
use mathlib.Core.Path.{◌∙◌}
use native.Mathlib.Omega.{arith}
use Rattle.protocol.specs.Tape.{words_in_use}
use Rattle.tape.specs.Ends.{role}
use Rattle.tape.proofs.Slots.{slot-room, slot-part-length, slot-written, in-use-length, half-body}
use borrow.Author.Rules.{rules}
use Rattle.tape.proofs.change.take_up_at.Goals as goal

pub overflow_mul-start : goal.overflow_mul-start
overflow_mul-start c =
    let a = c.args in
    let i = slot-room a.pool.now a.at.size a.at.index c.requires.inside in
    search rules

pub overflow_add-stop : goal.overflow_add-stop
overflow_add-stop c =
    let a = c.args in
    let i = slot-room a.pool.now a.at.size a.at.index c.requires.inside in
    search rules

pub offset_bounds-pool-start : goal.offset_bounds-pool-start
offset_bounds-pool-start c =
    let a = c.args in
    let i = slot-room a.pool.now a.at.size a.at.index c.requires.inside in
    search rules

pub slice_bounds-take_up-end : goal.slice_bounds-take_up-end
slice_bounds-take_up-end c =
    let a = c.args in
    let i = slot-room a.pool.now a.at.size a.at.index c.requires.inside in
    search rules

pub take_up-requires : goal.take_up-requires
take_up-requires c =
    let a = c.args in
    omega (
      arith,
      c.requires.room,
      half-body (role a.end) a.t,
      slot-part-length a.pool.now a.at.size a.at.index (slot-room a.pool.now a.at.size a.at.index c.requires.inside),
    )

pub returns : goal.returns
returns c =
    let a = c.args in
    let p = c.requires in
    slot-written a.pool.now _ a.at.size a.at.index words_in_use (slot-room a.pool.now a.at.size a.at.index p.inside)
    (λ words e. in-use-length words (omega (arith, p.room, half-body (role a.end) a.t)) ∙ e) c.take_up.ensures
