-- `product::drop::right_drop` meets its contract. Assumes nothing.
use mathlib.Core.Path.{sym}
use mathlib.Core.List.{[]}
use Rattle.algebra.specs.Words.{over}
use Rattle.protocol.specs.Tape.{right, slot_at, slot_words, words_spent}
use Rattle.protocol.specs.Product.{closed_right}
use Rattle.protocol.specs.Drop.{dropped, drop_right}
use Rattle.judging.proofs.Leaving.{refused-leaves, accepted-leaves}
use Rattle.judging.proofs.Fits.{open-placed}
use Rattle.product.proofs.Known.{drop-known}
use Rattle.product.proofs.drop.right_drop.Goals as goal

pub returns-in-Err : goal.returns-in-Err
unfolding drop_right
returns-in-Err c =
    let told = c in
    let a = told.args in
    let s = slot_at a.pool.now a.at.size a.at.index in
    sym (refused-leaves a.s s [] [] [] _ (dropped (closed_right a.s) (words_spent right a.s.terms (slot_words s)) [])
    (sym told.in-Err.ensures))

pub spend_at-requires : goal.spend_at-requires
spend_at-requires c =
    let told = c in
    let a = told.args in
    let s = slot_at a.pool.now a.at.size a.at.index in
    open-placed right a.s.terms s (drop-known _ _ s (sym told.in_default.ensures))

pub returns : goal.returns
unfolding drop_right over
returns c =
    let told = c in
    let a = told.args in
    let s = slot_at a.pool.now a.at.size a.at.index in
    rw (c.spend_at.ensures, c.closed.ensures)
    (sym (accepted-leaves a.s s [] [] [] _ (dropped (closed_right a.s) (words_spent right a.s.terms (slot_words s)) [])
    (sym told.in_default.ensures)))
