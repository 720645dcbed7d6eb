-- `product::last::right_last` meets its contract. Assumes nothing.
use mathlib.Core.Path.{sym}
use mathlib.Core.List.{[]}
use lib.ListN.{length}
use Rattle.protocol.specs.Tape.{right, slot_at}
use Rattle.protocol.specs.Message.{Message, message_in, message_parts}
use Rattle.protocol.specs.Product.{right_last_effect, right_last_tests, right_last}
use Rattle.judging.proofs.Leaving.{refused-leaves, step-leaves, as-taken}
use Rattle.judging.proofs.Fits.{open-placed}
use Rattle.product.proofs.Known.{last-known}
use Rattle.product.proofs.last.right_last.Goals as goal

pub returns-in-Err : goal.returns-in-Err
unfolding right_last
returns-in-Err c =
    let told = c in
    let a = told.args in
    let s = slot_at a.pool.now a.at.size a.at.index in
    rw c.refused.ensures
    (sym (refused-leaves a.s s [] [] a.share.now _ (right_last_effect a.s s _) (sym told.in-Err.ensures)))

pub compute-done-requires : goal.compute-done-requires
compute-done-requires c =
    let told = c in
    let a = told.args in
    let s = slot_at a.pool.now a.at.size a.at.index in
    let passed = sym told.in_default.ensures in
    let known = last-known a.s s (message_in a.a) (length a.share.now) passed in
    as-taken (λ (m : Message). right_last_tests a.s s m (length a.share.now)) known.message passed

pub spend_at-requires : goal.spend_at-requires
spend_at-requires c =
    let told = c in
    let a = told.args in
    let s = slot_at a.pool.now a.at.size a.at.index in
    let known = last-known a.s s _ _ (sym told.in_default.ensures) in
    open-placed right a.s.terms s known.later.session-open

pub returns : goal.returns
unfolding right_last right_last_effect message_parts
returns c =
    let told = c in
    let a = told.args in
    let s = slot_at a.pool.now a.at.size a.at.index in
    step-leaves a.s s [] [] a.share.now _ (right_last_effect a.s s (message_in a.a))
    (sym told.in_default.ensures)
    c.compute-done.ensures c.spend_at.ensures
