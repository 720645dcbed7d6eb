-- `host_parts::own::check_session` meets its contract. Assumes nothing.
use Rattle.judging.proofs.Join.{also}
use Rattle.host_parts.proofs.own.check_session.Goals as goal

pub returns : goal.returns
returns c =
    also _ _ c.worst-3.ensures c.check_record-size.ensures
    (also _ _ c.worst-2.ensures c.check_whole-one.ensures
    (also _ _ c.worst.ensures c.check_whole-two.ensures c.check_whole-three.ensures))
