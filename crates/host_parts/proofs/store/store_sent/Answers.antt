-- `host_parts::store::store_sent` meets its contract. Assumes nothing.
use Rattle.host_parts.proofs.PutBack.{sent-stored, sent-full}
use Rattle.host_parts.proofs.store.store_sent.Goals as goal

pub returns-then-line-bytes : goal.returns-then-line-bytes
returns-then-line-bytes c =
    let a = c.args in
    sent-full a.read a.x a.h a.words.now a.lent.now a.sent.now a.share.now
    (record { host = a.session.now; pool = a.slot.now; scratch = a.scratch.now; line = a.line.now; result = a.res.now })
    c.line_size-bytes.ensures c.if-line-bytes.true c.from.ensures

pub returns : goal.returns
returns c =
    let a = c.args in
    let put = c.put_all.ensures in
    sent-stored a.read a.x a.h a.words.now a.lent.now a.sent.now a.share.now
    (record { host = a.session.now; pool = a.slot.now; scratch = a.scratch.now; line = a.line.now; result = a.res.now })
    c.line_size-bytes.ensures c.if-line-bytes.false put.session_after put.slot_after put.scratch_after c.put_line.ensures put.res_after
