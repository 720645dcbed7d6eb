-- `decimal::end_at` meets its contract: the byte ends the number, or spoils the line. Assumes nothing.
use mathlib.Core.Path.{sym, ◌∙◌}
use native.Mathlib.Omega.{arith}
use Rattle.decimal.proofs.Bytes.{spell-end, spoils}
use Rattle.protocol.specs.declared.Numeral.TheVariants.{Value}
use Rattle.decimal.proofs.end_at.Goals as goal

pub returns-then-s-next : goal.returns-then-s-next
returns-then-s-next c =
    let h = c.requires in
    spoils (Value c.args.value) _ _ h.0 h.1 (λ p. c.if-s-next.true (p ∙ sym c.end_byte.ensures))

pub returns : goal.returns
returns c = (
  spell-end (Value c.args.value) _ _ c.requires.0
      (c.if-s-next.false ∙ c.end_byte.ensures),
  omega arith,
  omega arith,
)
