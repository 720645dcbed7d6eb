-- A later call on bytes, by what the code's parts told.
--   later-long               where its own tests passed the record's length
--   drop-opened              the drop
--   next-opened, next-none   the step that is due: with a message, on a line that is none's
-- Assumes nothing.
use mathlib.Core.Path.{◌≡◌, sym, ap, ◌∙◌}
use mathlib.Core.Bool.{Bool, true, false, cond}
use mathlib.Core.List.{List, [], ◌++◌}
use Prim.Native.Nat.{ℕ, ◌*◌, ◌/◌}
use native.Mathlib.Omega.{arith}
use native.Mathlib.Decide.{dec_le}
use lib.Dec.{leb}
use lib.ListN.{length, take, drop}
use lib.Seq.{take_all}
use borrow.Author.Tests.{eqb-true, le-leb, lt-leb}
use Rattle.protocol.specs.declared.Head.{Head}
use Rattle.protocol.specs.declared.Refusal.TheVariants.{Form}
use Rattle.protocol.specs.Judge.{Judged, refused, done, judge}
use Rattle.protocol.specs.Tape.{slot_at}
use Rattle.protocol.specs.Message.{Message, message_with}
use Rattle.protocol.specs.Line.{parse_message, most_sent}
use Rattle.protocol.proofs.Judge.{passed}
use Rattle.judging.specs.InOrder.{judged}
use Rattle.judging.proofs.Join.{first-passed}
use Rattle.entry.specs.declared.Report.{Report}
use Rattle.entry.specs.Bytes.{words_of}
use Rattle.entry.specs.Entry.{Lent, Left, refusal_report, record_tests, whole_tests, session_in, session_tests, next_on, drop_on}
use Rattle.local.specs.Seen.{seen_count, seen_message, most_reply}
use Rattle.local.specs.Entered.{entered_by, seen_later}
use Rattle.local.proofs.Entries.{next-entered, next-wrong, drop-entered}
use Rattle.host_parts.specs.Taken.{MessageIn}

-- the message that the step is handed
pub sent-seen : {s words : List ℕ} {h : Head} {n : ℕ} (m : MessageIn s words h n) {rs : List ℕ} → length words ≡ 3079
    → rs ≡ take (seen_count n) (drop 7 words) → message_with h rs ≡ seen_message (message_with h m.residues)
unfolding seen_message seen_count
sent-seen {s} {words} {h} {n} m {rs} long e = rw m.count (ap (message_with h) same)
  where
    same : rs ≡ cond (leb n most_sent) m.residues []
    same =
        elim (dec_le n most_sent) [
          | yes k ↦
              let some = le-leb n most_sent k in
              rw some ((rw some at e) ∙ (m.stands n (omega arith) (omega arith) ∙ take_all n m.residues (omega (arith, m.count))))
          | no k ↦ let none = lt-leb n most_sent (omega arith) in rw none (rw none at e)
        ]

module _ (l : Lent) {own : Judged Unit}
    (long : own ≡ judged (record_tests (length l.host) ++ (whole_tests (length l.pool) ++ (whole_tests (length l.scratch) ++ whole_tests (length l.result))))) where
  pub later-long : own ≡ done tt → length l.host ≡ 1120
  unfolding record_tests
  later-long e =
      let rest = whole_tests (length l.pool) ++ (whole_tests (length l.scratch) ++ whole_tests (length l.result)) in
      let size = first-passed (record_tests (length l.host)) rest (sym long ∙ e) in
      eqb-true (length l.host) 1120 (passed (record_tests (length l.host)) size).0.0

  module _ (size index : ℕ) (drops : Bool) where
    abbrev pub called_with : Judged Unit → Message → Left
    called_with v a = entered_by l (index * size) v
        (seen_later drops (session_in l.host) most_reply (slot_at (words_of l.pool) size index) (words_of l.scratch) a (length l.result / 4))

    called : (a : Message) → called_with own a ≡ called_with (judge (session_tests l) tt) a
    unfolding session_tests
    called a = ap (λ (v : Judged Unit). called_with v a) long

  pub drop-opened : (size index : ℕ) {r : Left} (a : Message) → r ≡ called_with size index true own a → r ≡ drop_on l size index
  drop-opened size index a told = told ∙ (called size index true a ∙ drop-entered l size index a)

  pub next-opened : (size index : ℕ) {r : Left} {message taken : List ℕ} {h : Head} {n k : ℕ} {rs : List ℕ} → MessageIn message taken h n
      → length taken ≡ 3079 → k ≡ seen_count n → rs ≡ take k (drop 7 taken) → r ≡ called_with size index false own (message_with h rs)
      → r ≡ next_on l size index message
  next-opened size index {message = message} {taken = taken} {h = h} m room count e told =
      told ∙ (called size index false _ ∙ (ap (called_with size index false (judge (session_tests l) tt)) (sent-seen m room (e ∙ ap (λ (i : ℕ). take i (drop 7 taken)) count))
      ∙ next-entered l size index message (message_with h m.residues) m.reads m.known))

pub next-none : (l : Lent) (size index : ℕ) (message : List ℕ) {r : Report} → parse_message message ≡ refused Form → r ≡ refusal_report Form
    → ◌≡◌ {A = Left} (record { report = r; lent = l }) (next_on l size index message)
next-none l size index message e told = ap (λ (n : Report). record { report = n; lent = l }) told ∙ next-wrong l size index message e
