-- `host_later::slot::on_slot` meets its contract. Assumes nothing.
use mathlib.Core.Path.{ap, ◌∙◌}
use mathlib.Core.List.{[]}
use Prim.Native.Nat.{◌≤◌}
use native.Mathlib.Omega.{arith}
use lib.ListN.{length, take}
use lib.Seq.{length-take-le}
use Rattle.protocol.specs.Tape.{slot_at}
use Rattle.protocol.specs.Message.{message_in}
use Rattle.protocol.specs.Step.{Outcome}
use Rattle.judging.specs.InOrder.{checked}
use Rattle.entry.specs.declared.Session.{Session}
use Rattle.entry.specs.Bytes.{words_of}
use Rattle.entry.specs.Entry.{Lent}
use Rattle.entry.proofs.Bytes.{words-length}
use Rattle.local.specs.Seen.{on_done, entering}
use Rattle.local.specs.Entered.{entered_by, later_step}
use Rattle.local.proofs.Finish.{settled-left}
use Rattle.local.proofs.Told.{solves, later-behaves}
use Rattle.host_later.proofs.slot.on_slot.Goals as goal

pub settle-requires : goal.settle-requires
settle-requires c =
    let p = c.requires in (
      p.0,
      omega (arith, p.1),
      omega (arith, p.2),
      omega (arith, p.3),
    )

pub returns : goal.returns
returns c =
    let a = c.args in
    let p = c.requires in
    let x = c.session_in-x.result in
    let l : Lent = record {
      host = a.session.now;
      pool = a.slot.now;
      scratch = a.scratch.now;
      line = a.line.now;
      result = a.res.now;
    } in
    let n = length a.words.now in
    let k = length a.lent.now in
    let j = length a.share.now in
    let few : n ≤ length (words_of a.slot.now) = omega (arith, p.1, words-length a.slot.now) in
    let s = slot_at (take n (words_of a.slot.now)) n 0 in
    let lent = take k (words_of a.scratch.now) in
    let m = message_in a.a in
    let room = length a.out.now in
    let step : Session → Outcome Session = λ y. later_step a.q.drops y s lent m room j in
    c.settle.ensures
    ∙ (settled-left l p.4 p.5 n k j (omega (arith, p.2)) (omega (arith, p.3)) a.out.now (length-take-le n (words_of a.slot.now) few)
    (solves x) 0 x a.q.own (step x) (later-behaves a.q.drops x s lent m room j) c.run-d.result.answer c.run-d.ensures
    ∙ ap (λ (y : Session). entered_by l 0 (checked a.q.own) (on_done (entering 0 []) (step y))) c.session_in-x.ensures)
