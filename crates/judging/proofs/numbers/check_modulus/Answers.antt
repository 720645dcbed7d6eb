-- `session::numbers::check_modulus` meets its contract. Assumes nothing.
use mathlib.Core.Path.{◌∙◌}
use Rattle.field.specs.Field.{field_tests}
use Rattle.field.proofs.FieldLaws.{tests-judged}
use Rattle.tape.specs.Ends.{sort}
use Rattle.judging.specs.Groups.{modulus_tests}
use Rattle.judging.proofs.numbers.check_modulus.Goals as goal

pub returns : goal.returns
unfolding modulus_tests field_tests
returns c =
    let a = c.args in
    c.check_field.ensures ∙ tests-judged (sort a.end) a.q c.end_field.result c.end_field.ensures
