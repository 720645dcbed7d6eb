-- `line::check_form` meets its contract: by the room. Assumes nothing.
use mathlib.Core.Path.{◌∙◌}
use mathlib.Core.List.{[], ◌∷◌}
use Rattle.judging.proofs.Join.{also}
use Rattle.line.proofs.Judged.{form-held, form-short}
use Rattle.line.proofs.check_form.Goals as goal

pub returns-then-room-count : goal.returns-then-room-count
returns-then-room-count c =
    λ s words l. also _ (_ ∷ []) c.worst.ensures c.check_message-own.ensures c.need-short.ensures
    ∙ form-short l _ c.if-room-count.true

pub returns : goal.returns
returns c = λ s words l. (rw c.kind_known.ensures at c.need.ensures) ∙ form-held l _ c.if-room-count.false
