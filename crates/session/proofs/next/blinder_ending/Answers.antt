-- `session::next::blinder_ending` meets its contract. Assumes nothing.
use borrow.Author.Tests.{eq-eqb, ne_eqb}
use Rattle.entry.specs.Steps.{blinder_ending}
use Rattle.session.proofs.next.blinder_ending.Goals as goal

pub returns-then-t : goal.returns-then-t
unfolding blinder_ending
returns-then-t c =
    let t = c.args.s.terms in
    rw (eq-eqb t.p t.m c.if-t.true) c.blinder_determinant.ensures

pub returns : goal.returns
unfolding blinder_ending
returns c =
    let t = c.args.s.terms in
    rw (ne_eqb t.p t.m c.if-t.false) c.blinder_last.ensures
