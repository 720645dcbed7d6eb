-- `host_parts::taken::opening_of` meets its contract. Assumes nothing.
use mathlib.Core.Path.{◌∙◌, sym}
use Rattle.host_parts.proofs.TakenLaws.{opening-kept, other-kind, other-count, opening-reply}
use Rattle.host_parts.proofs.taken.opening_of.Goals as goal

pub returns-then-count-le2048 : goal.returns-then-count-le2048
returns-then-count-le2048 c = opening-kept _ _ c.if-count-le2048.true

pub returns-then-head-ne2 : goal.returns-then-head-ne2
returns-then-head-ne2 c = other-kind _ _ c.if-count-le2048.false c.if-head-ne2.true

pub returns-then-count-sent_count : goal.returns-then-count-sent_count
returns-then-count-sent_count c =
    other-count _ _ c.if-count-le2048.false c.if-head-ne2.false
    (λ e. c.if-count-sent_count.true (e ∙ sym c.sent_count.ensures.0))

pub returns : goal.returns
returns c =
    opening-reply _ _ c.if-count-le2048.false c.if-head-ne2.false
    (c.if-count-sent_count.false ∙ c.sent_count.ensures.0) c.shrunk_of.ensures
