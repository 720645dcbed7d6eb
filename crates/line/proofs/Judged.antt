-- The tests that the code makes are those that protocol judges.
--   message-phases                       a message, judged in two phases
--   holds, no-message                    what loading told
--   parse-wrong, read-wrong              a line that is no message's
--   form-held, form-short, read-phases   the tests of a line that was loaded
--   parse-room, read-room, read-few      a message that passed has room, and one that is read at most 3,072 residues
--   check-refused, check-passed          a check by its result
--   parse-judged, read-judged, refuses, takes   what the entries answer and leave
-- Assumes nothing.
use mathlib.Core.Path.{◌≡◌, refl, sym, ap, ap₂, subst, ◌∙◌}
use mathlib.Core.Bool.{Bool, true, false}
use mathlib.Core.List.{List, [], ◌∷◌, ◌++◌}
use mathlib.Core.Option.{Option as Maybe, some, none}
use Prim.Native.Nat.{ℕ, ◌≤◌, ◌<◌}
use native.Mathlib.Omega.{arith}
use lib.Dec.{leb, ltb}
use lib.ListN.{length, drop, get_or}
use borrow.Author.Tests.{le-leb, lt-leb, le-ltb, lt-ltb}
use Rattle.algebra.specs.Count.{both}
use Rattle.algebra.specs.Words.{over}
use Rattle.protocol.specs.declared.Head.{Head}
use Rattle.protocol.specs.declared.Refusal.{Refusal}
use Rattle.protocol.specs.declared.Refusal.TheVariants.{Form, Size}
use Rattle.protocol.specs.Judge.{Test, needs, given, Judged, refused, done, clear, judge_by, judge, reply_of}
use Rattle.protocol.specs.Bounds.{shape_tests, terms_tests, input_tests, room_tests}
use Rattle.protocol.specs.Message.{Message, kind_known, message_with, message_tests}
use Rattle.protocol.specs.Line.{numbers_of, message_from, parsed_from, read_with, parse_into, read_into, parse_tests, read_tests}
use Rattle.judging.specs.InOrder.{checked, in_order, only, sorted_by, sorted, verdict, judged, after}
use Rattle.judging.specs.Lowest.{lower}
use Rattle.judging.specs.Groups.{kind_tests, number_tests, head_tests, count_tests, message_numbers}
use Rattle.judging.proofs.InOrder.{judge-sorted, refused-by, accepted-by}
use Rattle.judging.proofs.Join.{judged-true, judged-join}
use Rattle.judging.proofs.Steps.{in_two}
use Rattle.std.specs.Prelude.{Option, Some, None, Ok, Err}
use Rattle.line.specs.declared.Arrived.{Arrived}
use Rattle.line.specs.Entries.{no_arrival, received_reply, arrived_of, residues_after}
use Rattle.line.specs.Reading.{Holds, NoMessage, Loads, rest_tests}
use Rattle.line.proofs.Fits.{message-few, has_room}

-- room and residues are tested where head and count passed
pub message-phases : (h : Head) (rs : List ℕ) (size room : ℕ) → judged (message_tests (message_with h rs) ++ room_tests size room)
    ≡ after (judged (message_numbers h (length rs))) (judged (rest_tests h.terms.q rs size room))
unfolding sorted sorted_by only message_tests terms_tests shape_tests input_tests room_tests message_numbers kind_tests number_tests head_tests count_tests rest_tests
message-phases h rs size room = in_two _ (message_numbers h (length rs)) (rest_tests h.terms.q rs size room) refl

-- ---- what loading told

module _ (s words : List ℕ) {r : Option Arrived} (t : Loads s words r) where
  pub holds : {a : Arrived} → r ≡ Some a → Holds s a.head a.count words
  holds e = subst (Loads s words) e t

  pub no-message : r ≡ None → NoMessage s
  no-message e = subst (Loads s words) e t

pub parse-wrong : (room : ℕ) (s : List ℕ) → NoMessage s → parse_into room s ≡ refused Form
unfolding parse_into judge judge_by clear both
parse-wrong room s w = go (numbers_of s) refl
  where
    go : (o : Maybe (List ℕ)) → numbers_of s ≡ o → parsed_from room o ≡ refused Form
    go none e = refl
    go (some xs) e = rw (lt-leb 7 (length xs) (w xs e))

pub read-wrong : (room : ℕ) (s : List ℕ) → NoMessage s → read_into room s ≡ refused Form
unfolding read_into judge judge_by clear both
read-wrong room s w = go (numbers_of s) refl
  where
    go : (o : Maybe (List ℕ)) → numbers_of s ≡ o → read_with room o ≡ refused Form
    go none e = refl
    go (some xs) e = rw (lt-leb 7 (length xs) (w xs e))

-- ---- the tests of a line that was loaded

same-judged : (ts us : List Test) → verdict (sorted ts) ≡ verdict (sorted us) → judged ts ≡ judged us
same-judged ts us e = judge-sorted ts tt ∙ (e ∙ sym (judge-sorted us tt))

module _ (room : ℕ) (xs : List ℕ) (h : 7 ≤ length xs) where
  held : length (drop 7 xs) ≤ room → judged (parse_tests room xs) ≡ judged (needs Form (kind_known (get_or xs 0 0)) ∷ [])
  unfolding given message_tests terms_tests shape_tests input_tests room_tests sorted sorted_by only in_order
  held b =
      same-judged (parse_tests room xs) (needs Form (kind_known (get_or xs 0 0)) ∷ [])
      (rw (le-leb 7 (length xs) h, le-ltb room (length (drop 7 xs)) b, le-leb (length (drop 7 xs)) room b))

  -- the kind is tested once more with all that a message shows by itself
  short : room < length (drop 7 xs) → (known : Bool) → kind_known (get_or xs 0 0) ≡ known
      → judged (parse_tests room xs) ≡ judged (message_numbers (message_from xs).head (length (drop 7 xs)) ++ (needs Size false ∷ []))
  unfolding given message_tests terms_tests shape_tests input_tests room_tests message_numbers kind_tests number_tests head_tests count_tests sorted sorted_by only in_order
  short b true k =
      same-judged (parse_tests room xs) (message_numbers (message_from xs).head (length (drop 7 xs)) ++ (needs Size false ∷ []))
      (rw (le-leb 7 (length xs) h, lt-ltb room (length (drop 7 xs)) b, lt-leb (length (drop 7 xs)) room b, k))
  short b false k =
      same-judged (parse_tests room xs) (message_numbers (message_from xs).head (length (drop 7 xs)) ++ (needs Size false ∷ []))
      (rw (le-leb 7 (length xs) h, lt-ltb room (length (drop 7 xs)) b, k))

module _ {s words : List ℕ} {h : Head} {n : ℕ} (l : Holds s h n words) (room : ℕ) where
  pub form-held : n ≤ room → judged (needs Form (kind_known h.kind) ∷ []) ≡ judged (parse_tests room l.values)
  form-held b =
      ap (λ (x : Head). judged (needs Form (kind_known x.kind) ∷ [])) l.head
      ∙ sym (held room l.values l.seven (omega (arith, l.count)))

  pub form-short : room < n → judged (message_numbers h n ++ (needs Size false ∷ [])) ≡ judged (parse_tests room l.values)
  form-short b =
      ap₂ (λ (x : Head) (m : ℕ). judged (message_numbers x m ++ (needs Size false ∷ []))) l.head (sym l.count)
      ∙ sym (short room l.values l.seven (omega (arith, l.count)) _ refl)

  -- that there are seven numbers has been tested
  past-form : (ts : List Test) → judged (needs Form (leb 7 (length l.values)) ∷ ts) ≡ judged ts
  past-form ts =
      judged-join (needs Form (leb 7 (length l.values)) ∷ []) ts
      ∙ ap (λ (v : Judged Unit). lower v (judged ts)) (sym (judged-true Form (le-leb 7 (length l.values) l.seven)))

  pub read-phases : judged (read_tests room l.values)
      ≡ after (judged (message_numbers h n)) (judged (rest_tests h.terms.q (drop 7 l.values) n room))
  read-phases =
      past-form _
      ∙ (ap (λ (x : Head). judged (message_tests (message_with x (drop 7 l.values)) ++ room_tests (length (drop 7 l.values)) room)) (sym l.head)
      ∙ (message-phases h (drop 7 l.values) (length (drop 7 l.values)) room
      ∙ ap (λ (m : ℕ). after (judged (message_numbers h m)) (judged (rest_tests h.terms.q (drop 7 l.values) m room))) l.count))

  pub parse-room : judged (parse_tests room l.values) ≡ done tt → n ≤ room
  parse-room e =
      let own = given (ltb room (length (drop 7 l.values))) (message_tests (message_from l.values)) in
      let form : List Test = needs Form (leb 7 (length l.values)) ∷ needs Form (kind_known (get_or l.values 0 0)) ∷ own in
      omega (arith, l.count, (has_room form (length (drop 7 l.values)) room e).1)

  pub read-room : judged (read_tests room l.values) ≡ done tt → n ≤ room
  read-room e =
      let own : List Test = needs Form (leb 7 (length l.values)) ∷ message_tests (message_from l.values) in
      omega (arith, l.count, (has_room own (length (drop 7 l.values)) room e).1)

  pub read-few : judged (read_tests room l.values) ≡ done tt → n ≤ 3072
  read-few e =
      let own : List Test = needs Form (leb 7 (length l.values)) ∷ message_tests (message_from l.values) in
      omega (arith, l.count, message-few (message_from l.values) (has_room own (length (drop 7 l.values)) room e).0.1)

  -- ---- what the entries answer and leave

  pub parse-judged : parse_into room s ≡ judge (parse_tests room l.values) (message_from l.values)
  unfolding parse_into
  parse-judged = rw l.reads

  pub read-judged : read_into room s ≡ judge (read_tests room l.values) (message_from l.values)
  unfolding read_into
  read-judged = rw l.reads

module _ {s words : List ℕ} {a : Arrived} (l : Holds s a.head a.count words) (ts : List Test) {o : Judged Message} (is : o ≡ judge ts (message_from l.values))
    (out : List ℕ) where
  pub refuses : {r : Refusal} → refused r ≡ judged ts → (received_reply (Err r) ≡ reply_of no_arrival (arrived_of o)) × (out ≡ residues_after o out)
  refuses e = rw (is ∙ refused-by ts (message_from l.values) (sym e)) (refl, refl)

  pub takes : {left : List ℕ} → done tt ≡ judged ts → left ≡ over (drop 7 l.values) out
      → (received_reply (Ok a) ≡ reply_of no_arrival (arrived_of o)) × (left ≡ residues_after o out)
  takes e f =
      rw (is ∙ accepted-by ts (message_from l.values) (sym e))
      (ap₂ (λ (x : Head) (m : ℕ). received_reply (Ok (record { head = x; count = m }))) l.head (sym l.count), f)
