-- `decimal::step` meets its contract: the byte is a digit or not. Assumes nothing.
use borrow.Author.Tests.{lt-ltb, le-ltb}
use Rattle.decimal.specs.Reading.{grow}
use Rattle.decimal.proofs.step.Goals as goal

pub returns-then-b-lt48 : goal.returns-then-b-lt48
unfolding grow
returns-then-b-lt48 c = rw (lt-ltb _ 48 c.if-b-lt48.true)

pub returns-then-b-gt57 : goal.returns-then-b-gt57
unfolding grow
returns-then-b-gt57 c = rw (le-ltb _ 48 c.if-b-lt48.false, lt-ltb 57 _ c.if-b-gt57.true)

pub returns : goal.returns
unfolding grow
returns c = rw (le-ltb _ 48 c.if-b-lt48.false, le-ltb 57 _ c.if-b-gt57.false)
