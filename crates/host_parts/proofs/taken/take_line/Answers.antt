-- `host_parts::taken::take_line` meets its contract: loading told the line's numbers. Assumes nothing.
use mathlib.Core.Path.{sym, ◌∙◌}
use Rattle.host_parts.proofs.TakenLaws.{message-wrong, message-other, message-taken}
use Rattle.host_parts.proofs.taken.take_line.Goals as goal

pub returns-in_err-loaded : goal.returns-in_err-loaded
returns-in_err-loaded c = rw c.from_residual.ensures (message-wrong _ c.in_err-loaded.ensures)

pub returns-then-not-kind_known : goal.returns-then-not-kind_known
returns-then-not-kind_known c = message-other c.in_ok-loaded.ensures (sym c.kind_known.ensures ∙ c.if-not-kind_known.true)

pub returns : goal.returns
returns c = message-taken c.in_ok-loaded.ensures (sym c.kind_known.ensures ∙ c.if-not-kind_known.false)
