-- What the answers tell determines them: `received-same`, `written_same`. Assumes nothing.
use mathlib.Core.Path.{◌≡◌, ap}
use Prim.Native.Nat.{ℕ}
use native.Mathlib.Omega.{arith}
use Rattle.std.specs.Prelude.{Result, Ok, Err}
use Rattle.protocol.specs.declared.Refusal.{Refusal}
use Rattle.protocol.specs.Judge.{Reply}
use Rattle.protocol.proofs.Judge.{same-refusal, not-zero}
use Rattle.line.specs.declared.Arrived.{Arrived}
use Rattle.line.specs.Entries.{received_reply, written_reply}

numbers : {A : Type 0} {a b : Reply A} → a ≡ b → a.number ≡ b.number
numbers e = ap (λ x. x.number) e

values : {A : Type 0} {a b : Reply A} → a ≡ b → a.values ≡ b.values
values e = ap (λ x. x.values) e

pub received-same : (r s : Result Arrived Refusal) → received_reply r ≡ received_reply s → r ≡ s
received-same (Ok a) (Ok b) e = ap Ok (values e)
received-same (Ok a) (Err s) e = absurd (omega (arith, not-zero s, numbers e))
received-same (Err r) (Ok b) e = absurd (omega (arith, not-zero r, numbers e))
received-same (Err r) (Err s) e = ap Err (same-refusal r s (numbers e))

pub written_same : (r s : Result ℕ Refusal) → written_reply r ≡ written_reply s → r ≡ s
written_same (Ok n) (Ok m) e = ap Ok (values e)
written_same (Ok n) (Err s) e = absurd (omega (arith, not-zero s, numbers e))
written_same (Err r) (Ok m) e = absurd (omega (arith, not-zero r, numbers e))
written_same (Err r) (Err s) e = ap Err (same-refusal r s (numbers e))
