-- `host_parts::store::put_all` meets its contract. Assumes nothing.
use Rattle.host_parts.proofs.PutBack.{all_words}
use Rattle.host_parts.proofs.store.put_all.Goals as goal

pub returns : goal.returns
returns c =
    let a = c.args in record {
      session_after = c.put_session.ensures;
      slot_after = all_words a.words.now a.slot.now c.put_words.ensures;
      scratch_after = all_words a.lent.now a.scratch.now c.put_words-2.ensures;
      res_after = all_words a.share.now a.res.now c.put_words-3.ensures;
    }
