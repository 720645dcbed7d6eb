-- What a call leaves, on what it looks at, is what its entry's definition says.
--   form-first, wrong-entered   nothing comes before a line that is no message's
--   next-entered, drop-entered, first-entered, first_alone   each call
--   first-wrong, next-wrong     on a line that is no message's
-- Assumes nothing.
use mathlib.Core.Path.{◌≡◌, refl, sym, ap, ◌∙◌}
use mathlib.Core.Bool.{Bool, true, false, cond, false≢true}
use mathlib.Core.List.{List}
use Prim.Native.Nat.{ℕ, ◌*◌, ◌/◌}
use lib.ListN.{length, take}
use Rattle.protocol.specs.declared.Terms.{Terms}
use Rattle.protocol.specs.declared.Refusal.TheVariants.{Form, Modulus, Composite, Size, Turn, Mark, Stranger, Residue, Dry, Singular}
use Rattle.protocol.specs.Judge.{place_of, place_in, Test, Judged, refused, done, judge}
use Rattle.protocol.specs.Tape.{Slot}
use Rattle.protocol.specs.Drawing.{words_read}
use Rattle.protocol.specs.Message.{Message, no_message, kind_known}
use Rattle.protocol.specs.Line.{parse_message, most_sent}
use Rattle.protocol.specs.LineStep.{and_then}
use Rattle.protocol.specs.Step.{Outcome}
use Rattle.drawing.specs.Sift.{kept_words}
use Rattle.entry.specs.declared.Session.{Session}
use Rattle.entry.specs.Bytes.{words_of}
use Rattle.entry.specs.Steps.{lower_than, also, first_step, next_step, drop_step}
use Rattle.entry.specs.Entry.{Lent, Left, left, in_room, entered, refusal_report, session_in, session_tests, first_tests, takes_message, on_line, slot_of, first_on, next_on, drop_on}
use Rattle.local.specs.Seen.{least, seen_words, seen_message, opening_message, most_reply, coin_count, lent_room, share_room}
use Rattle.local.specs.Entered.{entered_by, seen_first, later_step, seen_later}
use Rattle.local.proofs.Steps.{first-seen, next-seen, drop-seen}

pub form-first : {A : Type 0} (v : Judged Unit) → lower_than {A = A} v (refused Form) ≡ refused Form
unfolding place_of place_in
form-first (done u) = refl
form-first (refused Form) = refl
form-first (refused Modulus) = refl
form-first (refused Composite) = refl
form-first (refused Size) = refl
form-first (refused Turn) = refl
form-first (refused Mark) = refl
form-first (refused Stranger) = refl
form-first (refused Residue) = refl
form-first (refused Dry) = refl
form-first (refused Singular) = refl

-- a line that is no message's
pub wrong-entered : (l : Lent) (at : ℕ) (own : List Test) → ◌≡◌ {A = Left} (record { report = refusal_report Form; lent = l }) (entered l at own (refused Form))
unfolding entered also in_room
wrong-entered l at own = rw (form-first {A = _} (judge own tt)) refl

-- an entry's own tests, by the code's check
pub by-own : (l : Lent) (at : ℕ) (own : List Test) (v : Judged Unit) (o : Outcome Session) → v ≡ judge own tt → entered_by l at v o ≡ entered l at own o
unfolding entered entered_by also
by-own l at own v o e = rw e refl

-- a line that is a message's
read-line : (step : Message → Outcome Session) (message : List ℕ) (a : Message) → parse_message message ≡ done a → on_line step message ≡ step a
read-line step message a e = rw e refl

module _ (l : Lent) (size index : ℕ) where
  abbrev own-slot : Slot
  own-slot = slot_of l size index

  abbrev lent-words : List ℕ
  lent-words = words_of l.scratch

  abbrev share-room : ℕ
  share-room = length l.result / 4

  -- the step that is due
  next-call : (x : Session) (a : Message) → kind_known a.head.kind ≡ true
      → seen_later false x most_reply own-slot lent-words (seen_message a) share-room ≡ next_step x own-slot lent-words a most_sent share-room
  unfolding seen_later later_step least
  next-call x a known = sym (next-seen x own-slot lent-words a most_sent share-room known)

  pub next-entered : (message : List ℕ) (a : Message) → parse_message message ≡ done a → kind_known a.head.kind ≡ true
      → entered_by l (index * size) (judge (session_tests l) tt) (seen_later false (session_in l.host) most_reply own-slot lent-words (seen_message a) share-room)
      ≡ next_on l size index message
  unfolding next_on
  next-entered message a e known =
      let x = session_in l.host in
      by-own l (index * size) (session_tests l) (judge (session_tests l) tt) _ refl
      ∙ ap (entered l (index * size) (session_tests l))
      (next-call x a known ∙ sym (read-line (λ b. next_step x own-slot lent-words b most_sent share-room) message a e))

  -- the drop
  drop-call : (x : Session) (a : Message) → seen_later true x most_reply own-slot lent-words a share-room ≡ drop_step x own-slot lent-words
  unfolding seen_later later_step
  drop-call x a = sym (drop-seen x own-slot lent-words)

  pub drop-entered : (a : Message)
      → entered_by l (index * size) (judge (session_tests l) tt) (seen_later true (session_in l.host) most_reply own-slot lent-words a share-room)
      ≡ drop_on l size index
  unfolding drop_on
  drop-entered a =
      by-own l (index * size) (session_tests l) (judge (session_tests l) tt) _ refl
      ∙ ap (entered l (index * size) (session_tests l)) (drop-call (session_in l.host) a)

  -- a first step
  module _ (end : ℕ) (t : Terms) (input raw message : List ℕ) where
    abbrev read : ℕ
    read = words_read t.q (coin_count end t) (words_of raw)

    abbrev kept : List ℕ
    kept = take (coin_count end t) (kept_words t.q (words_of raw))

    abbrev first_of : Message → Outcome Session
    first_of b = first_step end t own-slot lent-words (words_of input) (words_of raw) b most_sent share-room

    abbrev own-tests : List Test
    own-tests = first_tests l (length input) (length raw)

    abbrev seen_of : Message → Outcome Session
    seen_of b = seen_first end t (lent_room end) most_sent (share_room end) read own-slot lent-words (seen_words (words_of input)) kept (opening_message b) share-room

    first-call : (a : Message) → (takes_message end ≡ true → kind_known a.head.kind ≡ true) → seen_of a ≡ first_of a
    unfolding seen_first
    first-call a known = sym (first-seen t own-slot lent-words (words_of input) (words_of raw) a most_sent share-room end known)

    abbrev first_left : Message → Left
    first_left a = entered_by l (index * size) (judge own-tests tt) (seen_of a)

    pub first-entered : (a : Message) → takes_message end ≡ true → parse_message message ≡ done a → kind_known a.head.kind ≡ true
        → first_left a ≡ first_on l size index end t input raw message
    unfolding first_on
    first-entered a takes e known =
        by-own l (index * size) own-tests (judge own-tests tt) _ refl
        ∙ ap (entered l (index * size) own-tests) (first-call a (λ i. known) ∙ (sym (read-line first_of message a e) ∙ rw takes refl))

    pub first_alone : takes_message end ≡ false → first_left no_message ≡ first_on l size index end t input raw message
    unfolding first_on
    first_alone takes =
        by-own l (index * size) own-tests (judge own-tests tt) _ refl
        ∙ ap (entered l (index * size) own-tests) (first-call no_message (λ i. absurd (false≢true (sym takes ∙ i))) ∙ rw takes refl)

    pub first-wrong : takes_message end ≡ true → parse_message message ≡ refused Form
        → ◌≡◌ {A = Left} (record { report = refusal_report Form; lent = l }) (first_on l size index end t input raw message)
    unfolding first_on
    first-wrong takes e = wrong-entered l (index * size) own-tests ∙ ap (entered l (index * size) own-tests) (rw (takes, e) refl)

  pub next-wrong : (message : List ℕ) → parse_message message ≡ refused Form
      → ◌≡◌ {A = Left} (record { report = refusal_report Form; lent = l }) (next_on l size index message)
  unfolding next_on
  next-wrong message e = wrong-entered l (index * size) (session_tests l) ∙ ap (entered l (index * size) (session_tests l)) (rw e refl)
