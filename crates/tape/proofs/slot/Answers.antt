-- `tape::slot` meets its contract. Assumes nothing.
use Rattle.tape.proofs.Slots.{slot-room, slot-part}
use borrow.Author.Rules.{rules}
use Rattle.tape.proofs.slot.Goals as goal

pub overflow_mul-start : goal.overflow_mul-start
overflow_mul-start c =
    let a = c.args in
    let i = slot-room a.pool.now a.at.size a.at.index c.requires in
    search rules

pub overflow_add-stop : goal.overflow_add-stop
overflow_add-stop c =
    let a = c.args in
    let i = slot-room a.pool.now a.at.size a.at.index c.requires in
    search rules

pub offset_bounds-pool-start : goal.offset_bounds-pool-start
offset_bounds-pool-start c =
    let a = c.args in
    let i = slot-room a.pool.now a.at.size a.at.index c.requires in
    search rules

pub slice_bounds-result-end : goal.slice_bounds-result-end
slice_bounds-result-end c =
    let a = c.args in
    let i = slot-room a.pool.now a.at.size a.at.index c.requires in
    search rules

pub returns : goal.returns
returns c =
    let a = c.args in
    slot-part a.pool.now a.at.size a.at.index
