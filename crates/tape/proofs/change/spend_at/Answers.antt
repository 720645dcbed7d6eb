-- `tape::change::spend_at` meets its contract. Assumes nothing.
use mathlib.Core.Path.{◌≡◌, ◌∙◌}
use mathlib.Core.List.{List}
use Prim.Native.Nat.{ℕ, ◌≤◌}
use native.Mathlib.Omega.{arith}
use lib.ListN.{length}
use Rattle.protocol.specs.Tape.{tape_size, words_spent}
use Rattle.tape.specs.Ends.{role}
use Rattle.tape.proofs.Slots.{slot-room, slot-part-length, slot-written, spent-keeps}
use borrow.Author.Rules.{rules}
use Rattle.tape.proofs.change.spend_at.Goals as goal

pub overflow_mul-start : goal.overflow_mul-start
overflow_mul-start c =
    let a = c.args in
    let i = slot-room a.pool.now a.at.size a.at.index c.requires.inside in
    search rules

pub overflow_add-stop : goal.overflow_add-stop
overflow_add-stop c =
    let a = c.args in
    let i = slot-room a.pool.now a.at.size a.at.index c.requires.inside in
    search rules

pub offset_bounds-pool-start : goal.offset_bounds-pool-start
offset_bounds-pool-start c =
    let a = c.args in
    let i = slot-room a.pool.now a.at.size a.at.index c.requires.inside in
    search rules

pub slice_bounds-spend-end : goal.slice_bounds-spend-end
slice_bounds-spend-end c =
    let a = c.args in
    let i = slot-room a.pool.now a.at.size a.at.index c.requires.inside in
    search rules

pub spend-requires : goal.spend-requires
spend-requires c =
    let a = c.args in
    let p = c.requires in
    (p.sides, omega (arith, p.room, slot-part-length a.pool.now a.at.size a.at.index (slot-room a.pool.now a.at.size a.at.index p.inside)))

pub returns : goal.returns
returns c =
    let a = c.args in
    let p = c.requires in
    let r = role a.end in
    let fits : (words : List ℕ) → length words ≡ a.at.size → tape_size r a.t.m a.t.k a.t.p ≤ length words = λ words e. omega (arith, p.room) in
    slot-written a.pool.now _ a.at.size a.at.index (words_spent r a.t) (slot-room a.pool.now a.at.size a.at.index p.inside)
    (λ words e. spent-keeps r a.t words (fits words e) ∙ e) c.spend.ensures
