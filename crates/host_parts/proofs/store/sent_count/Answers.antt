-- `host_parts::store::sent_count` meets its contract. Assumes nothing.
use Rattle.host_parts.proofs.PutBack.{sent-none, sent-out, few_words, sent-some}
use Rattle.judging.proofs.Flags.{fails, holds}
use Rattle.host_parts.proofs.store.sent_count.Goals as goal

pub returns-then-h-eq0 : goal.returns-then-h-eq0
returns-then-h-eq0 c = sent-none c.args.h c.if-h-eq0.true

pub returns-then-not-sides_fit : goal.returns-then-not-sides_fit
returns-then-not-sides_fit c =
    sent-out c.args.h c.if-h-eq0.false (fails c.sides_fit.ensures c.if-not-sides_fit.true)

pub message_size-requires : goal.message_size-requires
message_size-requires c = few_words c.args.h (holds c.sides_fit.ensures c.if-not-sides_fit.false)

pub returns : goal.returns
returns c =
    sent-some c.args.h c.if-h-eq0.false (holds c.sides_fit.ensures c.if-not-sides_fit.false) c.message_size.ensures
