-- `drawing::all_kept` meets its contract: every word is below 2^32, or all are below the limit, or it says no. Assumes nothing.
use mathlib.Core.Path.{sym, ◌∙◌}
use native.Mathlib.Omega.{arith}
use borrow.Author.Rules.{rules}
use Rattle.vectors.proofs.Below.{first_below}
use Rattle.drawing.proofs.Turns.{kept_word}
use Rattle.drawing.proofs.all_kept.Goals as goal

pub returns-then-below-eq4294967296 : goal.returns-then-below-eq4294967296
returns-then-below-eq4294967296 c = λ e j h.
    kept_word c.args.q _ _ c.limit-below.ensures
    (omega (arith, (c.type_inv.words j).fits, c.if-below-eq4294967296.true))

pub returns : goal.returns
returns c = λ e j h.
    let a = c.args in
    kept_word a.q _ _ c.limit-below.ensures
    (first_below _ a.n a.words.now (search rules) (sym c.all_below.ensures ∙ e) j h)
