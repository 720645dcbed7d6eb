-- `host_parts::seen::half_in` meets its contract. Assumes nothing.
use mathlib.Core.Path.{◌∙◌}
use Rattle.host_parts.proofs.Looked.{half-there, half-none}
use Rattle.host_parts.proofs.seen.half_in.Goals as goal

pub returns-then-session-ne-SIZE : goal.returns-then-session-ne-SIZE
returns-then-session-ne-SIZE c =
    let none = half-none c.args.session.now c.if-session-ne-SIZE.true in
    (c.no_half.ensures.0 ∙ none.0, c.no_half.ensures.1 ∙ none.1)

pub returns : goal.returns
returns c =
    half-there c.args.session.now c.if-session-ne-SIZE.false c.word_at.ensures c.terms_in.ensures c.half_by.ensures.0
    c.half_by.ensures.1
