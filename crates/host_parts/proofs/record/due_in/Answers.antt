-- `host_parts::record::due_in` meets its contract. Assumes nothing.
use Rattle.host_parts.proofs.Records.{due-there, due-none}
use Rattle.host_parts.proofs.record.due_in.Goals as goal

pub returns-then-session-ne-SIZE : goal.returns-then-session-ne-SIZE
returns-then-session-ne-SIZE c = due-none c.args.session.now c.if-session-ne-SIZE.true

pub returns : goal.returns
returns c = due-there c.args.session.now c.if-session-ne-SIZE.false c.word_at.ensures
