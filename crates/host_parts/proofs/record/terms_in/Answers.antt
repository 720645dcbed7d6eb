-- `host_parts::record::terms_in` meets its contract. Assumes nothing.
use Rattle.host_parts.proofs.Records.{terms-there}
use Rattle.host_parts.proofs.record.terms_in.Goals as goal

pub returns : goal.returns
returns c =
    let at7 = c in
    terms-there at7.args.session.now at7.requires c.word_at-number.ensures c.word_at-tape.ensures c.word_at-q.ensures
    c.word_at-m.ensures c.word_at-k.ensures c.word_at-p.ensures
