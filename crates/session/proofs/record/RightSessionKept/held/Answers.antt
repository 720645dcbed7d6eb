-- `session::record::RightSessionKept::held` meets its contract. Assumes nothing.
use borrow.Author.Tests.{eq-eqb, ne_eqb}
use Rattle.entry.specs.Record.{right_of}
use Rattle.session.proofs.record.RightSessionKept.held.Goals as goal

pub returns-then-x-eq-RIGHT : goal.returns-then-x-eq-RIGHT
unfolding right_of
returns-then-x-eq-RIGHT c = rw (eq-eqb c.args.x.end 2 c.if-x-eq-RIGHT.true)

pub returns : goal.returns
unfolding right_of
returns c =
    let at4 = c in
    rw (c.no_head-none.ensures, ne_eqb at4.args.x.end 2 c.if-x-eq-RIGHT.false)
