-- `host_later::step::run` meets its contract. Assumes nothing.
use lib.ListN.{length}
use Rattle.protocol.specs.Message.{message_in}
use Rattle.local.specs.Entered.{later_step}
use Rattle.local.proofs.Brought.{run_on}
use Rattle.host_later.proofs.step.run.Goals as goal

pub returns : goal.returns
returns c =
    let a = c.args in
    let h = c.requires in
    run_on (λ s ls j. later_step a.drops a.x s ls (message_in a.a) (length a.out.now) j) a.x a.out.now
    a.slot.now a.scratch.now a.res.now a.words.now a.lent.now a.share.now h.0 h.1 h.2
    c.get_words.ensures c.get_words-2.ensures c.get_words-3.ensures c.perform.ensures
