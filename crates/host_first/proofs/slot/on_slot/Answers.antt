-- `host_first::slot::on_slot` meets its contract. Assumes nothing.
use mathlib.Core.Path.{◌∙◌}
use mathlib.Core.Bool.{false}
use Prim.Native.Nat.{◌≤◌}
use native.Mathlib.Omega.{arith}
use lib.ListN.{length, take}
use lib.Seq.{length-take-le}
use Rattle.protocol.specs.Tape.{slot_at}
use Rattle.protocol.specs.Message.{message_in}
use Rattle.entry.specs.Bytes.{words_of}
use Rattle.local.specs.Settled.{unopened}
use Rattle.entry.specs.Steps.{first_step}
use Rattle.entry.specs.Entry.{Lent}
use Rattle.entry.proofs.Bytes.{words-length}
use Rattle.local.proofs.Finish.{settled-left}
use Rattle.local.proofs.Told.{first-behaves}
use Rattle.host_first.proofs.slot.on_slot.Goals as goal

pub settle-requires : goal.settle-requires
settle-requires c =
    let p = c.requires in
    (p.0, omega (arith, p.1), omega (arith, p.2), omega (arith, p.3))

pub returns : goal.returns
returns c =
    let a = c.args in
    let p = c.requires in
    let run = c.run-d in
    let l : Lent = record { host = a.session.now; pool = a.slot.now; scratch = a.scratch.now; line = a.line.now; result = a.res.now } in
    let n = length a.words.now in
    let k = length a.lent.now in
    let j = length a.share.now in
    let few : n ≤ length (words_of a.slot.now) = omega (arith, p.1, words-length a.slot.now) in
    let slot = slot_at (take n (words_of a.slot.now)) n 0 in
    let message = message_in a.a in
    let o = first_step a.q.end a.q.terms slot (take k (words_of a.scratch.now)) a.input.now a.raw.now message (length a.out.now) j in
    let behaves = first-behaves a.q.end a.q.terms slot (take k (words_of a.scratch.now)) a.input.now a.raw.now message
    (length a.out.now) j in
    c.settle.ensures
    ∙ settled-left l p.4 p.5 n k j (omega (arith, p.2)) (omega (arith, p.3)) a.out.now (length-take-le n (words_of a.slot.now) few)
    false a.q.read (unopened a.q.end a.q.terms) a.q.own o behaves run.result.answer run.ensures
