-- `host_parts::record::session_in` meets its contract. Assumes nothing.
use borrow.Author.Tests.{eq-eqb, ne_eqb}
use lib.ListN.{length}
use Rattle.entry.specs.Entry.{session_in}
use Rattle.host_parts.proofs.record.session_in.Goals as goal

pub returns-then-session-ne-SIZE : goal.returns-then-session-ne-SIZE
unfolding session_in
returns-then-session-ne-SIZE c = rw (ne_eqb (length c.args.session.now) 1120 c.if-session-ne-SIZE.true) c.no_session.ensures

pub returns : goal.returns
unfolding session_in
returns c = rw (eq-eqb (length c.args.session.now) 1120 c.if-session-ne-SIZE.false) c.session_from.ensures
