-- `host_later::calls::drop_with` meets its contract. Assumes nothing.
use Rattle.entry.specs.Entry.{Lent}
use Rattle.host_later.proofs.Opened.{later-long, drop-opened}
use Rattle.host_later.proofs.calls.drop_with.Goals as goal

pub with_room-requires : goal.with_room-requires
with_room-requires c =
    let a = c.args in
    let l : Lent = record {
      host = a.session.now;
      pool = a.pool.now;
      scratch = a.scratch.now;
      line = a.line.now;
      result = a.res.now;
    } in
    later-long l c.check_session-own.ensures

pub returns : goal.returns
returns c =
    let a = c.args in
    let l : Lent = record {
      host = a.session.now;
      pool = a.pool.now;
      scratch = a.scratch.now;
      line = a.line.now;
      result = a.res.now;
    } in
    drop-opened l c.check_session-own.ensures a.at.size a.at.index _ c.with_room.ensures
