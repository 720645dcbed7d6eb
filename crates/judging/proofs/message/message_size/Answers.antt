-- `judging::message::message_size` meets its contract. Assumes nothing.
use native.Mathlib.Omega.{arith}
use Rattle.judging.proofs.KindLaws.{both-parts, two-parts}
use borrow.Author.Rules.{rules}
use Rattle.judging.proofs.message.message_size.Goals as goal

pub overflow_add-result : goal.overflow_add-result
overflow_add-result c =
    let a = c.args in
    let e = c.first_part.ensures in
    let f = c.second_part.ensures in
    let b = both-parts a.kind a.t 18446744073709551615 (omega (arith, e)) (omega (arith, c.requires)) in
    search rules

pub returns : goal.returns
returns c =
    let a = c.args in
    omega (arith, c.first_part.ensures, c.second_part.ensures, two-parts a.kind a.t)
