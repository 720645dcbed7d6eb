-- `judging::numbers::check_head` meets its contract. Assumes nothing.
use mathlib.Core.Path.{refl, sym, ◌∙◌}
use Rattle.protocol.specs.Message.{kind_sort}
use Rattle.judging.specs.Groups.{count_tests, number_tests, id_tests}
use Rattle.judging.proofs.Phases.{head-phases, head-sides, head-joined}
use Rattle.judging.proofs.Join.{hands_on, goes-past}
use Rattle.judging.proofs.KindLaws.{few}
use Rattle.judging.proofs.numbers.check_head.Goals as goal

pub returns-in_err-worst : goal.returns-in_err-worst
unfolding number_tests id_tests
returns-in_err-worst c =
    let a = c.args in
    hands_on c.from_residual.result _ c.from_residual.ensures.1
    (head-joined a.a c.in_err-worst.ensures (c.need-last.ensures ∙ rw c.last_fits.ensures)
    (rw c.kind_sides_fit.ensures at c.check_ids-numbers.ensures)) ∙ sym (head-phases a.a a.count)

pub message_size-requires : goal.message_size-requires
unfolding number_tests id_tests
message_size-requires c =
    let a = c.args.a in
    let t = a.terms in
    few (kind_sort a.kind) t.m t.k t.p
    (head-sides a (sym (head-joined a c.in_ok-worst.ensures (c.need-last.ensures ∙ rw c.last_fits.ensures)
    (rw c.kind_sides_fit.ensures at c.check_ids-numbers.ensures))))

pub returns : goal.returns
unfolding count_tests number_tests id_tests
returns c =
    let a = c.args in
    simp (c.need.ensures, c.message_size.ensures) refl ∙ sym
    (head-phases a.a a.count ∙ goes-past (head-joined a.a c.in_ok-worst.ensures (c.need-last.ensures ∙ rw c.last_fits.ensures)
    (rw c.kind_sides_fit.ensures at c.check_ids-numbers.ensures)))
