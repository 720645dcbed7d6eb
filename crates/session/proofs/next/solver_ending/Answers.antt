-- `session::next::solver_ending` meets its contract. Assumes nothing.
use borrow.Author.Tests.{eq-eqb, ne_eqb}
use Rattle.protocol.specs.System.{solver_ending}
use Rattle.session.proofs.next.solver_ending.Goals as goal

pub returns-then-t : goal.returns-then-t
unfolding solver_ending
returns-then-t c =
    let t = c.args.s.terms in
    rw (eq-eqb t.p t.m c.if-t.true) c.solver_determinant.ensures

pub returns : goal.returns
unfolding solver_ending
returns c =
    let t = c.args.s.terms in
    rw (ne_eqb t.p t.m c.if-t.false) c.solver_last.ensures
