-- `product::left::left_step` meets its contract. Assumes nothing.
use mathlib.Core.Path.{sym}
use mathlib.Core.List.{[]}
use lib.ListN.{length}
use Rattle.protocol.specs.Tape.{left, slot_at}
use Rattle.protocol.specs.Message.{Message, message_in, message_parts}
use Rattle.protocol.specs.Product.{left_effect, left_tests, left_step}
use Rattle.judging.proofs.Leaving.{refused-leaves, step-leaves, as-taken}
use Rattle.judging.proofs.Fits.{first-placed}
use Rattle.product.proofs.Known.{left-known}
use Rattle.product.proofs.left.left_step.Goals as goal

pub returns-in-Err : goal.returns-in-Err
unfolding left_step
returns-in-Err c =
    let told = c in
    let a = told.args in
    let s = slot_at a.pool.now a.at.size a.at.index in
    rw c.refused.ensures
    (sym (refused-leaves tt s [] a.out.now a.share.now _ (left_effect a.t s a.x.now a.words.now _) (sym told.in-Err.ensures)))

pub compute-done-requires : goal.compute-done-requires
compute-done-requires c =
    let told = c in
    let a = told.args in
    let s = slot_at a.pool.now a.at.size a.at.index in
    let passed = sym told.in_default.ensures in
    let known = left-known a.t s a.x.now a.words.now (message_in a.a) (length a.out.now) (length a.share.now) passed in
    as-taken (λ (m : Message). left_tests a.t s a.x.now a.words.now m (length a.out.now) (length a.share.now)) known.message passed

pub spend_at-requires : goal.spend_at-requires
spend_at-requires c =
    let told = c in
    let a = told.args in
    let s = slot_at a.pool.now a.at.size a.at.index in
    first-placed left a.t s (left-known a.t s a.x.now a.words.now _ _ _ (sym told.in_default.ensures)).first

pub returns : goal.returns
unfolding left_step left_effect message_parts
returns c =
    let told = c in
    let a = told.args in
    let s = slot_at a.pool.now a.at.size a.at.index in
    step-leaves tt s [] a.out.now a.share.now _ (left_effect a.t s a.x.now a.words.now (message_in a.a))
    (sym told.in_default.ensures)
    c.compute-done.ensures c.spend_at.ensures
