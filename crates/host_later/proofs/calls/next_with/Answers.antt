-- `host_later::calls::next_with` meets its contract. Assumes nothing.
use native.Mathlib.Omega.{arith}
use Rattle.entry.specs.Entry.{Lent}
use Rattle.host_later.proofs.Opened.{later-long, next-opened, next-none}
use Rattle.host_later.proofs.calls.next_with.Goals as goal

pub returns-in_default : goal.returns-in_default
returns-in_default c =
    let a = c.args in
    let l : Lent = record {
      host = a.session.now;
      pool = a.pool.now;
      scratch = a.scratch.now;
      line = a.line.now;
      result = a.res.now;
    } in
    next-none l a.at.size a.at.index a.message.now c.in_default.ensures c.from.ensures

pub with_room-requires : goal.with_room-requires
with_room-requires c =
    let a = c.args in
    let l : Lent = record {
      host = a.session.now;
      pool = a.pool.now;
      scratch = a.scratch.now;
      line = a.line.now;
      result = a.res.now;
    } in
    later-long l c.check_session-own.ensures

pub returns : goal.returns
returns c =
    let a = c.args in
    let l : Lent = record {
      host = a.session.now;
      pool = a.pool.now;
      scratch = a.scratch.now;
      line = a.line.now;
      result = a.res.now;
    } in
    next-opened l c.check_session-own.ensures a.at.size a.at.index
    c.in-Some.ensures (omega (arith, c.requires)) c.seen_count-seen.ensures.0
    c.residues_in-residues.ensures c.with_room.ensures
