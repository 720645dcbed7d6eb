-- `host_first::slot::with_room` meets its contract. Assumes nothing.
use mathlib.Core.Path.{◌∙◌, sym}
use Prim.Native.Nat.{ℕ, ◌*◌, ◌/◌}
use native.Mathlib.Omega.{arith}
use lib.ListN.{length, replicate, length-replicate}
use lib.Seq.{length-take-le}
use Rattle.protocol.specs.Tape.{slot_at}
use Rattle.protocol.specs.Message.{message_in}
use Rattle.judging.specs.InOrder.{checked}
use Rattle.entry.specs.Bytes.{words_of}
use Rattle.entry.specs.Entry.{Lent}
use Rattle.host_first.proofs.Opened.{system-rooms, product-rooms, in-room}
use Rattle.host_first.proofs.slot.with_room.Goals as goal

pub returns-then-is_system : goal.returns-then-is_system
returns-then-is_system c =
    let a = c.args in
    let l : Lent = record {
      host = a.session.now;
      pool = a.pool.now;
      scratch = a.scratch.now;
      line = a.line.now;
      result = a.res.now;
    } in
    let rooms = system-rooms a.q.end (sym c.is_system.ensures ∙ c.if-is_system.true) in
    in-room l (a.at.index * a.at.size) (checked a.q.own) a.q.end a.q.terms a.q.read (slot_at (words_of a.pool.now) a.at.size a.at.index)
    (words_of a.scratch.now) a.input.now a.raw.now (message_in a.a) (length a.res.now / 4)
    (length-take-le {A = ℕ} 528 (replicate 1024 0) (omega (arith, length-replicate {A = ℕ} 1024 0)) ∙ rooms.0) (length-replicate {A = ℕ} 3072 0) (length-replicate {A = ℕ} 0 0 ∙ rooms.1) c.on_call.ensures

pub returns : goal.returns
returns c =
    let a = c.args in
    let l : Lent = record {
      host = a.session.now;
      pool = a.pool.now;
      scratch = a.scratch.now;
      line = a.line.now;
      result = a.res.now;
    } in
    let rooms = product-rooms a.q.end (sym c.is_system.ensures ∙ c.if-is_system.false) in
    in-room l (a.at.index * a.at.size) (checked a.q.own) a.q.end a.q.terms a.q.read (slot_at (words_of a.pool.now) a.at.size a.at.index)
    (words_of a.scratch.now) a.input.now a.raw.now (message_in a.a) (length a.res.now / 4)
    (length-replicate {A = ℕ} 0 0 ∙ rooms.0) (length-replicate {A = ℕ} 3072 0) (length-replicate {A = ℕ} 1024 0 ∙ rooms.1) c.on_call-2.ensures
