-- `host_first::slot::run` meets its contract. Assumes nothing.
use lib.ListN.{length}
use Rattle.protocol.specs.Message.{message_in}
use Rattle.local.specs.Settled.{unopened}
use Rattle.entry.specs.Steps.{first_step}
use Rattle.local.proofs.Brought.{run_on}
use Rattle.host_first.proofs.slot.run.Goals as goal

pub returns : goal.returns
returns c =
    let a = c.args in
    let h = c.requires in
    let message = message_in a.a in
    run_on (λ s ls j. first_step a.q.end a.q.terms s ls a.input.now a.raw.now message (length a.out.now) j)
    (unopened a.q.end a.q.terms) a.out.now a.slot.now a.scratch.now a.res.now a.words.now a.lent.now a.share.now
    h.0 h.1 h.2 c.get_words.ensures c.get_words-2.ensures c.get_words-3.ensures c.first_step.ensures
