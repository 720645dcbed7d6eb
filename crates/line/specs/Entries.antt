-- What the entries answer and leave, by what protocol's definitions judge.
--   received_reply, arrived_of, residues_after   of a line that is parsed or read
--   written_reply, bytes_of, bytes_after         of a message that is written
-- Assumes nothing.
use Rattle.std.specs.Prelude.{List, ℕ, length, Result, Ok, Err}
use Rattle.algebra.specs.Words.{over}
use Rattle.protocol.specs.declared.Refusal.{Refusal}
use Rattle.protocol.specs.Judge.{Judged, refused, done, refusal_number, Reply}
use Rattle.protocol.specs.Message.{Message, no_message}
use Rattle.line.specs.declared.Arrived.{Arrived}

-- ---- parse and read

-- all zeros: what a refusal tells
abbrev pub no_arrival : Arrived
no_arrival = record { head = no_message.head; count = 0 }

-- what the answer tells: the refusal's number, 0 where the line is taken, and the values, 0 where it is refused
abbrev pub received_reply : Result Arrived Refusal → Reply Arrived
received_reply (Ok a) = record { number = 0; values = a }
received_reply (Err r) = record { number = refusal_number r; values = no_arrival }

abbrev pub arrived_of : Judged Message → Judged Arrived
arrived_of (refused r) = refused r
arrived_of (done a) = done (record { head = a.head; count = length a.residues })

-- the residues stand over the start of the lent slice; of a refusal nothing is stored
abbrev pub residues_after : Judged Message → List ℕ → List ℕ
residues_after (refused r) out = out
residues_after (done a) out = over a.residues out

-- ---- write

abbrev pub written_reply : Result ℕ Refusal → Reply ℕ
written_reply (Ok n) = record { number = 0; values = n }
written_reply (Err r) = record { number = refusal_number r; values = 0 }

abbrev pub bytes_of : Judged (List ℕ) → Judged ℕ
bytes_of (refused r) = refused r
bytes_of (done l) = done (length l)

abbrev pub bytes_after : Judged (List ℕ) → List ℕ → List ℕ
bytes_after (refused r) out = out
bytes_after (done l) out = over l out
