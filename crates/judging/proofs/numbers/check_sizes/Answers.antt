-- `session::numbers::check_sizes` meets its contract. Assumes nothing.
use mathlib.Core.Path.{sym, ◌∙◌}
use Rattle.judging.specs.Groups.{number_tests, place_tests, id_tests}
use Rattle.judging.proofs.Join.{judged-cons, hands_on, goes-past}
use Rattle.judging.proofs.Phases.{sizes-phases, ids-fit}
use Rattle.tape.specs.Ends.{role, sort}
use Rattle.judging.proofs.numbers.check_sizes.Goals as goal

pub returns-in_err-check_ids : goal.returns-in_err-check_ids
unfolding number_tests id_tests place_tests
returns-in_err-check_ids c =
    let a = c.args in
    hands_on c.from_residual.result _ c.from_residual.ensures.1 (rw c.sides_fit.ensures at c.in_err-check_ids.ensures)
    ∙ sym (sizes-phases (sort a.end) (role a.end) a.t a.pool a.at.size a.at.index)

pub half_size-requires : goal.half_size-requires
unfolding number_tests id_tests
half_size-requires c =
    ids-fit c.args.t _
    (sym (rw c.sides_fit.ensures at c.in_ok-check_ids.ensures))

pub returns : goal.returns
unfolding number_tests id_tests place_tests
returns c =
    let a = c.args in
    simp (
      c.worst.ensures,
      c.need-slot.ensures,
      c.is_slot.ensures,
      c.need-half.ensures,
      c.half_size.ensures,
    )
    (sym (judged-cons _ _ _)) ∙ sym
    (sizes-phases (sort a.end) (role a.end) a.t a.pool a.at.size a.at.index
    ∙ goes-past (rw c.sides_fit.ensures at c.in_ok-check_ids.ensures))
