-- `host_parts::own::refused` meets its contract. Assumes nothing.
use mathlib.Core.Path.{sym}
use Rattle.judging.proofs.Places.{before-by-place}
use Rattle.host_parts.proofs.own.refused.Goals as goal

pub returns-in_default : goal.returns-in_default
returns-in_default c = rw c.in_default.is c.from.ensures

pub returns-in_default-answer : goal.returns-in_default-answer
returns-in_default-answer c = rw (c.in-Err.is, c.in_default-answer.is) c.from-in_default-answer.ensures

pub returns-then-lt : goal.returns-then-lt
returns-then-lt c =
    rw (c.in-Err.is, c.in-Err-answer.is, sym (before-by-place c.in-Err-answer.step c.in-Err.r), sym c.lt.ensures, c.if-lt.true)
    c.from-then-lt.ensures

pub returns-else-lt : goal.returns-else-lt
returns-else-lt c =
    rw (c.in-Err.is, c.in-Err-answer.is, sym (before-by-place c.in-Err-answer.step c.in-Err.r), sym c.lt.ensures, c.if-lt.false)
    c.from-else-lt.ensures
