-- `drawing::read` meets its contract: as many words are read as are kept, where all are. Assumes nothing.
use borrow.Author.Rules.{rules}
use Rattle.drawing.proofs.Turns.{all_read}
use Rattle.drawing.proofs.read.Goals as goal

pub returns-then-all_kept : goal.returns-then-all_kept
returns-then-all_kept c = all_read _ _ _ (search rules) (c.all_kept.ensures c.if-all_kept.true)
