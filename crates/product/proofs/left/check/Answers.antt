-- `product::left::check` meets its contract. Assumes nothing.
use mathlib.Core.Path.{sym, ◌∙◌}
use Rattle.protocol.specs.Tape.{slot_at}
use Rattle.judging.proofs.Join.{hands_on, goes-past}
use Rattle.product.proofs.Phases.{left-phases, left-modulus}
use Rattle.product.proofs.left.check.Goals as goal

pub returns-in_err-check_before_coins : goal.returns-in_err-check_before_coins
returns-in_err-check_before_coins c =
    let a = c.args in
    hands_on c.from_residual.result _ c.from_residual.ensures.1 c.in_err-check_before_coins.ensures ∙ sym
    (left-phases a.t (slot_at a.pool.now a.at.size a.at.index) a.x.now a.words.now a.a.head a.a.residues.now a.room a.share)

pub check_coins-requires : goal.check_coins-requires
check_coins-requires c =
    let a = c.args in
    left-modulus a.t (slot_at a.pool.now a.at.size a.at.index) a.a.head a.a.residues.now _ (sym c.in_ok-check_before_coins.ensures)

pub returns : goal.returns
returns c =
    let a = c.args in
    (rw c.times.ensures at c.check_coins.ensures) ∙ sym
    (left-phases a.t (slot_at a.pool.now a.at.size a.at.index) a.x.now a.words.now a.a.head a.a.residues.now a.room a.share
    ∙ goes-past c.in_ok-check_before_coins.ensures)
