-- `host_first::call::first_on` meets its contract. Assumes nothing.
use lib.ListN.{length}
use Rattle.entry.specs.Entry.{Lent}
use Rattle.host_first.proofs.Opened.{record-long, first-opened}
use Rattle.host_first.proofs.call.first_on.Goals as goal

pub with_room-requires : goal.with_room-requires
with_room-requires c =
    let a = c.args in
    let l : Lent = record {
      host = a.session.now;
      pool = a.pool.now;
      scratch = a.scratch.now;
      line = a.line.now;
      result = a.res.now;
    } in
    record-long l (length a.input.now) (length a.raw.now) c.due_in.ensures c.worst-own.ensures c.check_session-lengths.ensures c.check_first-free.ensures

pub returns : goal.returns
returns c =
    let a = c.args in
    let l : Lent = record {
      host = a.session.now;
      pool = a.pool.now;
      scratch = a.scratch.now;
      line = a.line.now;
      result = a.res.now;
    } in
    let sifted = c.sift_coins-sifted in
    first-opened l (length a.input.now) (length a.raw.now) c.due_in.ensures c.worst-own.ensures c.check_session-lengths.ensures c.check_first-free.ensures
    _ _ _ _ _ _ _ _ _ _ c.with_room.ensures sifted.ensures.0 c.get_input-n.ensures.1 sifted.ensures.2
