-- `judging::numbers::end_field` meets its contract: only a system asks for a prime. Assumes nothing.
use Rattle.std.proofs.Common.{inl, inr}
use Rattle.field.proofs.FieldLaws.{new-made, system-made}
use Rattle.judging.proofs.numbers.end_field.Goals as goal

pub returns-in-Left : goal.returns-in-Left
returns-in-Left c = elim c.in-Left.is [
  | inl e ↦ rw e (new-made c.new.result _ c.new.ensures)
  | inr e ↦ rw e (new-made c.new.result _ c.new.ensures)
]

pub returns-in-Blinder : goal.returns-in-Blinder
returns-in-Blinder c = elim c.in-Blinder.is [
  | inl e ↦ rw e (system-made c.of_system.result _ c.of_system.ensures)
  | inr e ↦ rw e (system-made c.of_system.result _ c.of_system.ensures)
]
