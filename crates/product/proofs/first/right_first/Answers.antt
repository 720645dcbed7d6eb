-- `product::first::right_first` meets its contract. Assumes nothing.
use mathlib.Core.Path.{sym}
use mathlib.Core.List.{[]}
use lib.ListN.{length}
use Rattle.protocol.specs.Tape.{right, slot_at}
use Rattle.protocol.specs.Product.{no_right, right_first_effect, right_first}
use Rattle.judging.proofs.Leaving.{refused-leaves, step-leaves}
use Rattle.judging.proofs.Fits.{first-placed as placed}
use Rattle.product.proofs.Known.{first-known}
use Rattle.product.proofs.first.right_first.Goals as goal

pub returns-in-Err : goal.returns-in-Err
unfolding right_first
returns-in-Err c =
    let a = c.args in
    let s = slot_at a.pool.now a.at.size a.at.index in
    rw (c.refused.ensures, c.no_session.ensures)
    (sym (refused-leaves no_right s [] a.out.now [] _ (right_first_effect a.t s a.y.now) (sym c.in-Err.ensures)))

pub take_up_at-requires : goal.take_up_at-requires
take_up_at-requires c =
    let told = c in
    let start = c in
    let a = start.args in
    let s = slot_at a.pool.now a.at.size a.at.index in
    placed right a.t s (first-known a.t s a.y.now (length a.out.now) (sym told.in_default.ensures)).first

pub returns : goal.returns
unfolding right_first right_first_effect
returns c =
    let told = c in
    let a = told.args in
    let s = slot_at a.pool.now a.at.size a.at.index in
    step-leaves no_right s [] a.out.now [] _ (right_first_effect a.t s a.y.now) (sym told.in_default.ensures)
    c.compute-done.ensures c.take_up_at.ensures
