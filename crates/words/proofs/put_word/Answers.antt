-- `words::put_word` meets its contract: the word's bytes stand over the start. Assumes nothing.
use mathlib.Core.Path.{refl}
use borrow.Author.Rules.{rules}
use Rattle.entry.specs.Bytes.{word_bytes}
use Rattle.vectors.proofs.Written.{front-over}
use Rattle.words.proofs.put_word.Goals as goal

pub returns : goal.returns
unfolding word_bytes
returns c = front-over (word_bytes c.args.w) c.args.out.now _ 4 refl (search rules)
