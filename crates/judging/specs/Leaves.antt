-- Everything that a step's code leaves, as one term of the definition's outcome: a step's contract is one equation with it.
--   Leaves       all that a step leaves: `leaving` by the code, `leaves` by the definition
--   Computed     the same without the pool, what it computes where its tests passed, before the tape changes: `computing` and `computed`
--   taken        the message that a step takes where its tests passed
-- Assumes nothing.
use Rattle.std.specs.Prelude.{List, ℕ}
use Rattle.algebra.specs.Words.{over}
use Rattle.protocol.specs.declared.Head.{Head}
use Rattle.protocol.specs.declared.Terms.{Terms}
use Rattle.protocol.specs.Answer.{Answer}
use Rattle.protocol.specs.Judge.{Reply}
use Rattle.protocol.specs.Tape.{Slot}
use Rattle.protocol.specs.Message.{Message}
use Rattle.protocol.specs.Step.{answer_reply, Effect, Outcome, answer_after, session_after, pool_after, scratch_after, sent_after, result_after}

pub record Leaves (S : Type 0) : Type 0 where
  -- its number, and the words read
  pub answer : Reply ℕ
  pub session : S
  pub head : Head
  pub pool : List ℕ
  -- the slices lent for P and U0, for the message, and for the share or z; [] where none is lent
  pub scratch : List ℕ
  pub sent : List ℕ
  pub result : List ℕ

-- from what the code answered, and the lent slices as it left them
abbrev pub leaving : {S : Type 0} → Answer → S → Head → (pool scratch sent result : List ℕ) → Leaves S
leaving answer session head pool scratch sent result =
    record { answer = answer_reply answer; session = session; head = head; pool = pool; scratch = scratch; sent = sent; result = result }

-- from the session, the slot and the lent slices as they were
abbrev pub leaves : {S : Type 0} → S → Slot → (scratch sent result : List ℕ) → Outcome S → Leaves S
leaves x s scratch sent result o = record {
  answer = answer_reply (answer_after o);
  session = session_after x o;
  head = (sent_after o).head;
  pool = pool_after s o;
  scratch = over (scratch_after o) scratch;
  sent = over (sent_after o).residues sent;
  result = over (result_after o) result;
}

pub record Computed (S : Type 0) : Type 0 where
  pub answer : Reply ℕ
  pub session : S
  pub head : Head
  pub scratch : List ℕ
  pub sent : List ℕ
  pub result : List ℕ

-- from what the code answered, and the lent slices as it left them
abbrev pub computing : {S : Type 0} → Answer → S → Head → (scratch sent result : List ℕ) → Computed S
computing answer session head scratch sent result =
    record { answer = answer_reply answer; session = session; head = head; scratch = scratch; sent = sent; result = result }

-- from the effect, and the lent slices as they were
abbrev pub computed : {S : Type 0} → (scratch sent result : List ℕ) → Effect S → Computed S
computed scratch sent result e = record {
  answer = answer_reply e.answer;
  session = e.session;
  head = e.sent.head;
  scratch = over e.scratch scratch;
  sent = over e.sent.residues sent;
  result = over e.result result;
}

-- its tests passed, so its head is the one due: a computation is handed the residues alone
abbrev pub taken : (kind : ℕ) → Terms → (residues : List ℕ) → Message
taken kind t residues = record { head = record { kind = kind; terms = t }; residues = residues }
