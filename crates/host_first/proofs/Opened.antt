-- A first step on bytes, by what the code's parts told.
--   own-judged, record-long, first-opened    the verdict on its own tests, where they passed the record's length, and the step
--   system-rooms, product-rooms, in-room     the room of its end
--   opening-seen                             the message that it is handed
--   opened-alone, opened-wrong, opened-sent  the entry: without a message, on a line that is none's, with a message
-- Assumes nothing.
use mathlib.Core.Path.{◌≡◌, refl, sym, ap, ap₂, ◌∙◌}
use mathlib.Core.Bool.{true, false}
use mathlib.Core.List.{List, [], ◌∷◌, ◌++◌}
use Prim.Native.Nat.{ℕ, ◌+◌, ◌*◌, ◌/◌, ◌≤◌}
use lib.Dec.{eqb}
use lib.ListN.{length, take, drop}
use borrow.Author.Tests.{eqb-true}
use Rattle.protocol.specs.declared.Terms.{Terms}
use Rattle.protocol.specs.declared.Head.{Head}
use Rattle.protocol.specs.declared.Refusal.TheVariants.{Form, Turn}
use Rattle.protocol.specs.Judge.{needs, Judged, refused, done, judge}
use Rattle.protocol.specs.Tape.{Slot, slot_at}
use Rattle.protocol.specs.Drawing.{words_read}
use Rattle.protocol.specs.Message.{Message, message_with, no_message}
use Rattle.protocol.specs.Line.{parse_message, most_sent}
use Rattle.protocol.proofs.Judge.{passed}
use Rattle.drawing.specs.Sift.{kept_words}
use Rattle.judging.specs.InOrder.{judged}
use Rattle.judging.specs.Lowest.{lower}
use Rattle.judging.proofs.Join.{also, first-passed}
use Rattle.entry.specs.declared.Report.{Report}
use Rattle.entry.specs.Bytes.{words_of}
use Rattle.entry.specs.Steps.{free_tests}
use Rattle.entry.specs.Entry.{Lent, Left, refusal_report, record_tests, whole_tests, session_in, session_tests, first_tests, takes_message, first_on}
use Rattle.local.specs.Seen.{seen_words, opening_head, opening_count, opening_message, coin_count, is_system, lent_room, share_room}
use Rattle.local.specs.Entered.{entered_by, seen_first}
use Rattle.local.proofs.Entries.{first-entered, first_alone, first-wrong}
use Rattle.host_parts.specs.Taken.{MessageIn}

-- ---- a first step's own tests

module _ (l : Lent) (input raw : ℕ) {due : ℕ} {own lengths free : Judged Unit} (is : due ≡ (session_in l.host).due) (worse : own ≡ lower lengths free)
    (long : lengths ≡ judged (record_tests (length l.host) ++ (whole_tests (length l.pool) ++ (whole_tests (length l.scratch) ++ whole_tests (length l.result)))))
    (first : free ≡ judged (whole_tests input ++ (whole_tests raw ++ (needs Turn (eqb due 0) ∷ [])))) where
  pub own-judged : own ≡ judged (first_tests l input raw)
  unfolding first_tests session_tests free_tests
  own-judged =
      also (session_tests l) (whole_tests input ++ (whole_tests raw ++ free_tests (session_in l.host))) worse long
      (first ∙ ap (λ (y : ℕ). judged (whole_tests input ++ (whole_tests raw ++ (needs Turn (eqb y 0) ∷ [])))) is)

  pub record-long : own ≡ done tt → length l.host ≡ 1120
  unfolding first_tests session_tests record_tests
  record-long e =
      let lent = first-passed (session_tests l) (whole_tests input ++ (whole_tests raw ++ free_tests (session_in l.host))) (sym own-judged ∙ e) in
      let size = first-passed (record_tests (length l.host)) (whole_tests (length l.pool) ++ (whole_tests (length l.scratch) ++ whole_tests (length l.result))) lent in
      eqb-true (length l.host) 1120 (passed (record_tests (length l.host)) size).0.0

  pub first-opened : {r : Left} (at end : ℕ) (t : Terms) (lent sent share : ℕ) {read read' : ℕ} (s : Slot) (scratch : List ℕ) {seen seen' words words' : List ℕ}
      (a : Message) (room : ℕ) → r ≡ entered_by l at own (seen_first end t lent sent share read s scratch seen words a room)
      → read ≡ read' → seen ≡ seen' → words ≡ words'
      → r ≡ entered_by l at (judged (first_tests l input raw)) (seen_first end t lent sent share read' s scratch seen' words' a room)
  first-opened at end t lent sent share s scratch a room told e f g = told ∙ (rw (own-judged, e, f, g) refl)

-- ---- the room of an end

pub system-rooms : (end : ℕ) → is_system end ≡ true → (528 ≡ lent_room end) × (0 ≡ share_room end)
unfolding lent_room share_room
system-rooms end e = (rw e refl, rw e refl)

pub product-rooms : (end : ℕ) → is_system end ≡ false → (0 ≡ lent_room end) × (1024 ≡ share_room end)
unfolding lent_room share_room
product-rooms end e = (rw e refl, rw e refl)

pub in-room : (l : Lent) (at : ℕ) (own : Judged Unit) (end : ℕ) (t : Terms) (read : ℕ) (s : Slot) (scratch input words : List ℕ) (a : Message) (room : ℕ)
    {r : Left} {lent sent share : ℕ} → lent ≡ lent_room end → sent ≡ most_sent → share ≡ share_room end
    → r ≡ entered_by l at own (seen_first end t lent sent share read s scratch input words a room)
    → r ≡ entered_by l at own (seen_first end t (lent_room end) most_sent (share_room end) read s scratch input words a room)
in-room l at own end t read s scratch input words a room e f g told = told ∙ (rw (e, f, g) refl)

-- ---- the message

pub opening-seen : {s words : List ℕ} {h : Head} {n : ℕ} (m : MessageIn s words h n) {rs : List ℕ} {k : ℕ} {g : Head} → g ≡ opening_head h n
    → k ≡ opening_count h n → k ≤ n → k + 7 ≤ length words → rs ≡ take k (drop 7 words) → message_with g rs ≡ opening_message (message_with h m.residues)
unfolding opening_message
opening-seen {h = h} {n = n} m {k = k} is-head is-count few room e =
    rw m.count (ap₂ message_with is-head (e ∙ (m.stands k few room ∙ ap (λ (i : ℕ). take i m.residues) is-count)))

-- ---- the entry

module _ (l : Lent) (size index end : ℕ) (t : Terms) (input raw message : List ℕ) where
  abbrev pub opened_by : Message → Left
  opened_by a = entered_by l (index * size) (judge (first_tests l (length input) (length raw)) tt)
      (seen_first end t (lent_room end) most_sent (share_room end) (words_read t.q (coin_count end t) (words_of raw))
      (slot_at (words_of l.pool) size index) (words_of l.scratch) (seen_words (words_of input)) (take (coin_count end t) (kept_words t.q (words_of raw))) a
      (length l.result / 4))

  pub opened-alone : {r : Left} {h : Head} → takes_message end ≡ false → h ≡ no_message.head → r ≡ opened_by (message_with h [])
      → r ≡ first_on l size index end t input raw message
  unfolding opening_message opening_head opening_count
  opened-alone takes e told = told ∙ (ap (λ (g : Head). opened_by (message_with g [])) e ∙ first_alone l size index end t input raw message takes)

  pub opened-wrong : {r : Report} → takes_message end ≡ true → parse_message message ≡ refused Form → r ≡ refusal_report Form
      → ◌≡◌ {A = Left} (record { report = r; lent = l }) (first_on l size index end t input raw message)
  opened-wrong takes e told = ap (λ (n : Report). record { report = n; lent = l }) told ∙ first-wrong l size index end t input raw message takes e

  pub opened-sent : {r : Left} {words : List ℕ} {h : Head} {n : ℕ} {rs : List ℕ} {k : ℕ} {g : Head} → takes_message end ≡ true → MessageIn message words h n
      → g ≡ opening_head h n → k ≡ opening_count h n → k ≤ n → k + 7 ≤ length words → rs ≡ take k (drop 7 words)
      → r ≡ opened_by (message_with g rs) → r ≡ first_on l size index end t input raw message
  opened-sent {h = h} takes m is-head is-count few room e told =
      told ∙ (ap opened_by (opening-seen m is-head is-count few room e) ∙ first-entered l size index end t input raw message (message_with h m.residues) takes m.reads m.known)
