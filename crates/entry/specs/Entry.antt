-- The entries on bytes (RULES 11.2 to 11.4): the words that the bytes are, the step's own definition on them, and the bytes of what it leaves.
--   Lent, Left                   the bytes lent to an entry, and its report with those bytes afterwards (lent_of, left_of: from slices)
--   record_tests, whole_tests      what an entry tests by itself
--   session_in                    the session in a record's bytes
--   line_of, in_room               the line of what is sent, and room for it
--   left, entered                what stands after an entry, in terms of what stood before
--   first_on, next_on, drop_on      the entries of a session
--   Dealing, deal_on              the dealer's entry
-- Assumes nothing.
use Rattle.std.specs.Prelude.{Bool, cond, true, false, List, [], ◌∷◌, ◌++◌, ℕ, ◌*◌, ◌%◌, ◌/◌, eqb, leb, length}
use Rattle.algebra.specs.Words.{over, written_at}
use Rattle.protocol.specs.declared.Terms.{Terms}
use Rattle.protocol.specs.declared.TapeId.{TapeId}
use Rattle.protocol.specs.declared.Refusal.{Refusal}
use Rattle.protocol.specs.declared.Refusal.TheVariants.{Size}
use Rattle.protocol.specs.Judge.{refusal_number, Test, needs, Judged, refused, done}
use Rattle.protocol.specs.Bounds.{Sort, product, system}
use Rattle.protocol.specs.Tape.{Slot, slot_at}
use Rattle.protocol.specs.Deal.{Request, Dealt, deal}
use Rattle.protocol.specs.Message.{Message, no_message}
use Rattle.protocol.specs.Line.{message_line, parse_message, most_sent}
use Rattle.protocol.specs.LineStep.{and_then}
use Rattle.protocol.specs.Step.{answer_number, answer_read, Outcome}
use Rattle.entry.specs.declared.Session.{Session}
use Rattle.entry.specs.declared.Report.{Report}
use Rattle.entry.specs.Bytes.{words_of, bytes_of}
use Rattle.entry.specs.Record.{LEFT, BLINDER, record_size, no_session, record_words, session_from}
use Rattle.entry.specs.Steps.{also, free_tests, first_step, next_step, drop_step}

-- ---- what every entry is lent, and leaves

-- the bytes lent to an entry; [] where none are
pub record Lent : Type 0 where
  -- the session's record
  pub host : List ℕ
  pub pool : List ℕ
  pub scratch : List ℕ
  pub line : List ℕ
  pub result : List ℕ

pub record Left : Type 0 where
  pub report : Report
  pub lent : Lent

-- the same of the slices by themselves
abbrev pub lent_of : (host pool scratch line result : List ℕ) → Lent
lent_of host pool scratch line result = record { host = host; pool = pool; scratch = scratch; line = line; result = result }

abbrev pub left_of : Report → (host pool scratch line result : List ℕ) → Left
left_of report host pool scratch line result = record { report = report; lent = lent_of host pool scratch line result }

-- the line of what is sent; none where nothing is
unfoldable pub line_of : Message → List ℕ
line_of a = cond (eqb a.head.kind 0) [] (message_line a)

-- a slice too short for the line is refused by 4, where nothing else is
unfoldable pub in_room : {S : Type 0} → (room : ℕ) → Outcome S → Outcome S
in_room room (refused r) = refused r
in_room room (done e) = cond (leb (length (line_of e.sent)) room) (done e) (refused Size)

abbrev pub refusal_report : Refusal → Report
refusal_report r = record { number = refusal_number r; read = 0; bytes = 0 }

-- `at`: where the slot begins, in words. A refusal changes nothing
abbrev pub left : (at : ℕ) → Lent → Outcome Session → Left
left at l (refused r) = record { report = refusal_report r; lent = l }
left at l (done e) = record {
  report = record { number = answer_number e.answer; read = answer_read e.answer; bytes = length (line_of e.sent) };
  lent = record {
    host = over (bytes_of (record_words e.session)) l.host;
    pool = written_at (at * 4) (bytes_of e.slot) l.pool;
    scratch = over (bytes_of e.scratch) l.scratch;
    line = over (line_of e.sent) l.line;
    result = over (bytes_of e.result) l.result;
  };
}

-- ---- what an entry tests by itself

-- a record of `n` bytes
unfoldable pub record_tests : ℕ → List Test
record_tests n = needs Size (eqb n (record_size * 4)) ∷ []

-- so many bytes are whole words
unfoldable pub whole_tests : ℕ → List Test
whole_tests n = needs Size (eqb (n % 4) 0) ∷ []

-- a record of another length holds no session
unfoldable pub session_in : List ℕ → Session
session_in host = cond (eqb (length host) (record_size * 4)) (session_from (words_of host)) no_session

unfoldable pub session_tests : Lent → List Test
session_tests l = record_tests (length l.host) ++ (whole_tests (length l.pool) ++ (whole_tests (length l.scratch) ++ whole_tests (length l.result)))

-- ---- the entries of a session

abbrev pub slot_of : Lent → (size index : ℕ) → Slot
slot_of l size index = slot_at (words_of l.pool) size index

-- a step on the message that a line is
abbrev pub on_line : (Message → Outcome Session) → (message : List ℕ) → Outcome Session
on_line step message = and_then (parse_message message) step

-- left's and the blinder's first steps take a message
unfoldable pub takes_message : (end : ℕ) → Bool
takes_message end = cond (eqb end LEFT) true (eqb end BLINDER)

-- what an entry leaves: its own tests are judged with the step's
unfoldable pub entered : Lent → (at : ℕ) → (own : List Test) → Outcome Session → Left
entered l at own o = left at l (in_room (length l.line) (also own o))

unfoldable pub first_tests : Lent → (input words : ℕ) → List Test
first_tests l input words = session_tests l ++ (whole_tests input ++ (whole_tests words ++ free_tests (session_in l.host)))

unfoldable pub first_on : Lent → (size index end : ℕ) → Terms → (input words message : List ℕ) → Left
first_on l size index end t input words message =
    let step : Message → Outcome Session =
    λ a. first_step end t (slot_of l size index) (words_of l.scratch) (words_of input) (words_of words) a most_sent (length l.result / 4) in
    entered l (index * size) (first_tests l (length input) (length words)) (cond (takes_message end) (on_line step message) (step no_message))

unfoldable pub next_on : Lent → (size index : ℕ) → (message : List ℕ) → Left
next_on l size index message =
    entered l (index * size) (session_tests l)
    (on_line (λ a. next_step (session_in l.host) (slot_of l size index) (words_of l.scratch) a most_sent (length l.result / 4)) message)

-- a drop sends nothing
unfoldable pub drop_on : Lent → (size index : ℕ) → Left
drop_on l size index =
    entered l (index * size) (session_tests l) (drop_step (session_in l.host) (slot_of l size index) (words_of l.scratch))

-- ---- the dealer's entry

-- the sort by its number: 0 product, 1 system
pub record Dealing : Type 0 where
  pub report : Report
  pub first : List ℕ
  pub second : List ℕ

abbrev pub request_of : Sort → (tape q m k p : ℕ) → (words : List ℕ) → Request
request_of sort tape q m k p words = record { sort = sort; tape = record { 0 = tape }; q = q; m = m; k = k; p = p; words = words }

abbrev pub dealing : (first second : List ℕ) → Judged Dealt → Dealing
dealing first second (refused r) = record { report = refusal_report r; first = first; second = second }
dealing first second (done d) =
    record { report = record { number = 0; read = d.read; bytes = 0 }; first = bytes_of d.first; second = bytes_of d.second }

unfoldable pub deal_on : (sort : ℕ) → (first second : List ℕ) → (size index tape q m k p : ℕ) → (words : List ℕ) → Dealing
deal_on sort first second size index tape q m k p words =
    let of : Sort → Judged Dealt = λ s. deal (words_of first) (words_of second) size index (request_of s tape q m k p (words_of words)) in
    dealing first second
    (also (whole_tests (length first) ++ (whole_tests (length second) ++ whole_tests (length words)))
    (cond (eqb sort 0) (of product) (cond (eqb sort 1) (of system) (refused Size))))
