-- `dealer::check::check_words` meets its contract. Assumes nothing.
use Rattle.judging.proofs.Join.{also}
use Rattle.dealer.specs.Groups.{deal_words}
use Rattle.dealer.proofs.check.check_words.Goals as goal

pub returns : goal.returns
unfolding deal_words
returns c =
    let check-mark = c.check_mark-one in
    let check-mark2 = c.check_mark-two in
    let check-raw = c.check_raw-raw in
    also _ _ c.worst-2.ensures check-mark.ensures (also _ _ c.worst.ensures check-mark2.ensures check-raw.ensures)
