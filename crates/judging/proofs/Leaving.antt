-- What a step leaves: everything as it was where it is refused, and its effect where all tests passed.
--   refused-leaves, accepted-leaves   from the verdict on the tests
--   step-leaves                       of a step that was checked, computed, and whose tape then changed
--   as-taken                          tests that a message passed, passed by one with the head that is due
-- Assumes nothing.
use mathlib.Core.Path.{◌≡◌, sym, ap, ◌∙◌}
use mathlib.Core.List.{List}
use Prim.Native.Nat.{ℕ}
use Rattle.algebra.specs.Words.{over}
use Rattle.protocol.specs.declared.Head.{Head}
use Rattle.protocol.specs.declared.Terms.{Terms}
use Rattle.protocol.specs.declared.Refusal.{Refusal}
use Rattle.std.specs.Prelude.{Err}
use Rattle.protocol.specs.Judge.{Test, refused, done, judge}
use Rattle.protocol.specs.Tape.{Slot, pool_with}
use Rattle.protocol.specs.Message.{Message, message_with, no_message}
use Rattle.protocol.specs.Step.{answer_reply, Effect}
use Rattle.protocol.proofs.Tests.{MessageFits}
use Rattle.judging.specs.InOrder.{judged}
use Rattle.judging.proofs.InOrder.{refused-by, accepted-by}
use Rattle.judging.specs.Leaves.{Leaves, leaves, Computed, computed, taken}

-- everything is as it was
abbrev pub kept : {S : Type 0} → Refusal → S → Slot → (scratch sent result : List ℕ) → Leaves S
kept r x s scratch sent result = record {
  answer = answer_reply (Err r);
  session = x;
  head = no_message.head;
  pool = s.pool;
  scratch = scratch;
  sent = sent;
  result = result;
}

module _ {S : Type 0} (x : S) (s : Slot) (scratch sent result : List ℕ) (ts : List Test) (e : Effect S) where
  pub refused-leaves : {r : Refusal} → judged ts ≡ refused r → leaves x s scratch sent result (judge ts e) ≡ kept r x s scratch sent result
  unfolding over
  refused-leaves h = rw (refused-by ts e h)

  pub accepted-leaves : judged ts ≡ done tt → leaves x s scratch sent result (judge ts e) ≡ leaves x s scratch sent result (done e)
  accepted-leaves h = ap (leaves x s scratch sent result) (accepted-by ts e h)

  -- the three parts of a step, put together
  pub step-leaves : {c : Computed S} {pool : List ℕ} → judged ts ≡ done tt → c ≡ computed scratch sent result e → pool ≡ pool_with s e.slot
      → record { answer = c.answer; session = c.session; head = c.head; pool = pool; scratch = c.scratch; sent = c.sent; result = c.result }
      ≡ leaves x s scratch sent result (judge ts e)
  step-leaves h k p = rw (k, p) (sym (accepted-leaves h))

pub as-taken : {kind : ℕ} {t : Terms} {a : Head} {residues : List ℕ} (tests : Message → List Test) → MessageFits kind t (message_with a residues)
    → judged (tests (message_with a residues)) ≡ done tt → judged (tests (taken kind t residues)) ≡ done tt
as-taken {kind} {t} {a} {residues} tests f e = sym (ap (λ (h : Head). judged (tests (message_with h residues))) f.head-is) ∙ e
