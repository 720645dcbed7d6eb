-- `judging::order::worst` meets its contract. Assumes nothing.
use mathlib.Core.Path.{sym, ◌∙◌}
use Rattle.judging.proofs.Places.{before-by-place}
use Rattle.judging.proofs.order.worst.Goals as goal

pub returns-in_default-b : goal.returns-in_default-b
returns-in_default-b c = rw (c.in-Err.is, c.in_default-b.is)

pub returns-then-lt : goal.returns-then-lt
returns-then-lt c = rw (c.in-Err.is, c.in-Err-b.is, sym (before-by-place c.in-Err-b.s c.in-Err.r), sym c.lt.ensures, c.if-lt.true)

pub returns-else-lt : goal.returns-else-lt
returns-else-lt c = rw (c.in-Err.is, c.in-Err-b.is, sym (before-by-place c.in-Err-b.s c.in-Err.r), sym c.lt.ensures, c.if-lt.false)
