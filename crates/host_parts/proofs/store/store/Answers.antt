-- `host_parts::store::store` meets its contract. Assumes nothing.
use mathlib.Core.Path.{sym, ◌∙◌}
use Rattle.host_parts.proofs.PutBack.{stored-accepted, stored-sum, stored_refused}
use Rattle.host_parts.proofs.store.store.Goals as goal

pub returns-in_default : goal.returns-in_default
returns-in_default c =
    let a = c.args in
    stored-accepted a.sums a.read a.answer a.x a.h a.words.now a.lent.now a.sent.now a.share.now
    (record { host = a.session.now; pool = a.slot.now; scratch = a.scratch.now; line = a.line.now; result = a.res.now })
    c.in_default.is c.store_sent.ensures

pub returns-then-is_sum : goal.returns-then-is_sum
returns-then-is_sum c =
    let a = c.args in
    let put = c.put_all.ensures in
    let sum = sym c.is_sum.ensures ∙ c.if-is_sum.true in
    stored-sum a.sums a.read a.answer a.x a.h a.words.now a.lent.now a.sent.now a.share.now
    (record { host = a.session.now; pool = a.slot.now; scratch = a.scratch.now; line = a.line.now; result = a.res.now })
    c.in-Err.is c.from.ensures sum put.session_after put.slot_after put.scratch_after put.res_after

pub returns : goal.returns
returns c =
    let a = c.args in
    let other = sym c.is_sum.ensures ∙ c.if-is_sum.false in
    stored_refused a.sums a.read a.answer a.x a.h a.words.now a.lent.now a.sent.now a.share.now
    (record { host = a.session.now; pool = a.slot.now; scratch = a.scratch.now; line = a.line.now; result = a.res.now })
    c.in-Err.is c.from-2.ensures other
