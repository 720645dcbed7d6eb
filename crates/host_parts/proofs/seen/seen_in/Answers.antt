-- `host_parts::seen::seen_in` meets its contract. Assumes nothing.
use Rattle.host_parts.proofs.Looked.{slot-out, slot_seen, min-least}
use Rattle.judging.proofs.Flags.{fails, holds}
use native.Mathlib.Omega.{arith}
use mathlib.Core.Path.{refl, ap, ◌∙◌}
use Prim.Native.Nat.{◌/◌}
use Rattle.tape.proofs.Slots.{slot-inside}
use Rattle.local.proofs.Slots.{least-below}
use Rattle.local.specs.Seen.{least}
use Rattle.tape.specs.Ends.{role}
use Rattle.host_parts.proofs.seen.seen_in.Goals as goal

pub returns-then-not-is_slot : goal.returns-then-not-is_slot
returns-then-not-is_slot c =
    let a = c.args in
    let out = fails c.is_slot.ensures c.if-not-is_slot.true in
    (slot-out _ _ (a.pool / 4) a.at.size a.at.index out, rw out refl, omega arith, omega arith)

pub overflow_mul-result : goal.overflow_mul-result
overflow_mul-result c =
    let a = c.args in
    let room = slot-inside (a.pool / 4) a.at.size a.at.index (holds c.is_slot.ensures c.if-not-is_slot.false) in
    omega (arith, room, c.ranges)

pub returns : goal.returns
returns c =
    let a = c.args in
    let inside = holds c.is_slot.ensures c.if-not-is_slot.false in
    let room = slot-inside (a.pool / 4) a.at.size a.at.index inside in
    let half = c.half_words in
    let words = c.min-words.ensures ∙ min-least _ _ in
    let below = least-below a.at.size half.result in (
      words ∙ ap (least a.at.size) half.ensures.0 ∙ slot_seen (role a.h.end) a.h.terms (a.pool / 4) a.at.size a.at.index inside,
      rw inside refl,
      omega (arith, room, below.0, words),
      omega (arith, below.1, words, half.ensures.1),
    )
