-- `tape::header::status_is` meets its contract. Assumes nothing.
use Rattle.protocol.specs.Tape.{status_of}
use borrow.Author.Rules.{rules}
use Rattle.tape.proofs.header.status_is.Goals as goal

pub returns : goal.returns
unfolding status_of
returns c = search rules
