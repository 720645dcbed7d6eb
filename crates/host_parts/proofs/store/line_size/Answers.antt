-- `host_parts::store::line_size` meets its contract. Assumes nothing.
use mathlib.Core.Path.{ap, ◌∙◌}
use lib.ListN.{length}
use Rattle.host_parts.proofs.Looked.{min-least}
use Rattle.host_parts.proofs.PutBack.{line-none, few-sent-words, line-some}
use Rattle.host_parts.proofs.store.line_size.Goals as goal

pub returns-then-h-eq0 : goal.returns-then-h-eq0
returns-then-h-eq0 c = ap length (line-none c.args.h c.args.sent.now c.if-h-eq0.true)

pub slice_bounds-message_length-end : goal.slice_bounds-message_length-end
slice_bounds-message_length-end c = (few-sent-words _ c.args.sent.now c.sent_count.ensures.1 (c.min-n.ensures ∙ min-least _ _)).0

pub message_length-requires : goal.message_length-requires
message_length-requires c = (few-sent-words _ c.args.sent.now c.sent_count.ensures.1 (c.min-n.ensures ∙ min-least _ _)).1

pub returns : goal.returns
returns c =
    let a = c.args in
    let same = line-some a.h a.sent.now c.if-h-eq0.false c.sent_count.ensures.0 (c.min-n.ensures ∙ min-least _ _) in
    c.message_length.ensures ∙ ap length same
