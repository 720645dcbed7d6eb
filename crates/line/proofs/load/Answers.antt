-- `line::load` meets its contract: the tally of the numbers tells which. Assumes nothing.
use Rattle.line.proofs.Words.{message-loaded}
use Rattle.line.proofs.load.Goals as goal

pub returns : goal.returns
returns c =
    let load = c.in_ok-load.ensures in
    let count = c.in_ok-count.ensures in
    rw count.1 (message-loaded _ _ _ c.requires load.contents load.answered count.0 c.head_of-head.ensures)
