-- `decimal::put_behind` meets its contract: the first numbers are not stored. Assumes nothing.
use borrow.Author.Tests.{lt-ltb, le-ltb}
use Rattle.decimal.specs.Reading.{set_behind}
use Rattle.decimal.proofs.put_behind.Goals as goal

pub returns-then-n-skip : goal.returns-then-n-skip
unfolding set_behind
returns-then-n-skip c = rw (lt-ltb _ _ c.if-n-skip.true)

pub returns : goal.returns
unfolding set_behind
returns c = rw (le-ltb _ _ c.if-n-skip.false) c.put_word.ensures
