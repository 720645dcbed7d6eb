-- `host_parts::seen::half_words` meets its contract. Assumes nothing.
use Rattle.host_parts.proofs.Looked.{half-whole, half-header}
use mathlib.Core.Path.{sym, ◌∙◌}
use Rattle.host_parts.proofs.seen.half_words.Goals as goal

pub half_size-requires : goal.half_size-requires
half_size-requires c = sym c.sides_fit.ensures ∙ c.if-sides_fit.true

pub returns-then-sides_fit : goal.returns-then-sides_fit
returns-then-sides_fit c = half-whole _ _ (sym c.sides_fit.ensures ∙ c.if-sides_fit.true) c.half_size.ensures

pub returns-else-sides_fit : goal.returns-else-sides_fit
returns-else-sides_fit c = half-header _ _ (sym c.sides_fit.ensures ∙ c.if-sides_fit.false)
