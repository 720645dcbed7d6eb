-- `session::numbers::check_kind` meets its contract. Assumes nothing.
use mathlib.Core.Path.{◌∙◌}
use mathlib.Core.List.{[], ◌∷◌}
use Rattle.protocol.specs.declared.Refusal.TheVariants.{Form}
use Rattle.protocol.specs.Judge as tests
use Rattle.protocol.specs.Message.{kind_known, kind_sort}
use Rattle.field.specs.Field.{field_tests}
use Rattle.field.proofs.FieldLaws.{tests-judged}
use Rattle.judging.specs.Groups.{kind_tests}
use Rattle.judging.proofs.Join.{also}
use Rattle.judging.proofs.numbers.check_kind.Goals as goal

pub returns : goal.returns
unfolding kind_tests field_tests
returns c =
    let a = c.args.a in
    let field = c.kind_field in
    also (tests.needs Form (kind_known a.kind) ∷ []) (field_tests (kind_sort a.kind) a.terms.q) c.worst.ensures
    (c.need-kind.ensures ∙ rw c.kind_known.ensures)
    (c.check_field-modulus.ensures ∙ tests-judged (kind_sort a.kind) a.terms.q field.result field.ensures)
