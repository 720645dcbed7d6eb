-- `host_first::call::first_with` meets its contract. Assumes nothing.
use mathlib.Core.Path.{sym, ◌∙◌}
use native.Mathlib.Omega.{arith}
use Rattle.entry.specs.Entry.{Lent}
use Rattle.host_first.proofs.Opened.{opened-alone, opened-wrong, opened-sent}
use Rattle.host_first.proofs.call.first_with.Goals as goal

pub returns-then-not-takes_message : goal.returns-then-not-takes_message
returns-then-not-takes_message c =
    let a = c.args in
    let l : Lent = record {
      host = a.session.now;
      pool = a.pool.now;
      scratch = a.scratch.now;
      line = a.line.now;
      result = a.res.now;
    } in
    opened-alone l a.f.at.size a.f.at.index a.f.end a.f.terms a.input.now a.raw.now a.message.now
    (sym c.takes_message.ensures ∙ c.if-not-takes_message.true) c.no_head.ensures c.first_on.ensures

pub returns-in_default : goal.returns-in_default
returns-in_default c =
    let a = c.args in
    let l : Lent = record {
      host = a.session.now;
      pool = a.pool.now;
      scratch = a.scratch.now;
      line = a.line.now;
      result = a.res.now;
    } in
    opened-wrong l a.f.at.size a.f.at.index a.f.end a.f.terms a.input.now a.raw.now a.message.now
    (sym c.takes_message.ensures ∙ c.if-not-takes_message.false) c.in_default.ensures c.from.ensures

pub residues_in-residues-requires : goal.residues_in-residues-requires
residues_in-residues-requires c =
    omega (arith, c.opening_of-opened.ensures.2, c.take_line.auto, c.requires.0)

pub first_on-requires-2 : goal.first_on-requires-2
first_on-requires-2 c =
    (c.requires.1, c.requires.2)

pub returns : goal.returns
returns c =
    let a = c.args in
    let l : Lent = record {
      host = a.session.now;
      pool = a.pool.now;
      scratch = a.scratch.now;
      line = a.line.now;
      result = a.res.now;
    } in
    let opened = c.opening_of-opened in
    opened-sent l a.f.at.size a.f.at.index a.f.end a.f.terms a.input.now a.raw.now a.message.now
    (sym c.takes_message.ensures ∙ c.if-not-takes_message.false) c.in-Some.ensures opened.ensures.0 opened.ensures.1 opened.ensures.3
    (omega (arith, opened.ensures.2, c.take_line.auto, c.requires.0)) c.residues_in-residues.ensures c.first_on-2.ensures
