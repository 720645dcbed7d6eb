-- `host_parts::record::put_session` meets its contract. Assumes nothing.
use native.Mathlib.Omega.{arith}
use lib.ListN.{length-take, length-drop}
use Rattle.host_parts.proofs.Records.{record-put}
use Rattle.host_parts.proofs.record.put_session.Goals as goal

pub put_words-requires-2 : goal.put_words-requires-2
put_words-requires-2 c =
    let n = c.well_formed.0.1.1.1.1.1.0.1.0.1 in
    (omega arith, simp (length-take, length-drop) (omega arith))

pub returns : goal.returns
returns c =
    let a = c.args in
    record-put a.x a.session.now c.well_formed.0.1.1.1.1.1.0.1.0.1 c.requires c.start_of-start.ensures
    c.put_words.ensures c.put_words-2.ensures
