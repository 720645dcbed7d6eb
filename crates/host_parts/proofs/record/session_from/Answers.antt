-- `host_parts::record::session_from` meets its contract. Assumes nothing.
use native.Mathlib.Omega.{arith}
use Rattle.host_parts.proofs.Records.{kept_there, session-there}
use Rattle.host_parts.proofs.record.session_from.Goals as goal

pub returns : goal.returns
returns c =
    let at8 = c in
    let l = at8.args.session.now in
    session-there l at8.requires c.word_at-end.ensures c.terms_in-terms.ensures c.word_at-due.ensures
    (kept_there l at8.requires _ (omega arith) c.get_words.ensures)
