-- `words::word_at` meets its contract. Assumes nothing.
use borrow.Author.Rules.{rules}
use Rattle.entry.specs.Bytes.{word_at, word_of}
use Rattle.words.proofs.word_at.Goals as goal

pub returns : goal.returns
unfolding word_at word_of
returns c = search rules
