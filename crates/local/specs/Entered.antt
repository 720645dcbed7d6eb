-- The calls of a session on what they look at, and what their entries leave. Assumes nothing.
--   entered_by              what an entry leaves, by the verdict on its own tests and by its step
--   seen_first              a first step on what its call looks at
--   later_step, seen_later   the step that is due or the drop, and the same on what its call looks at
--   settled                what the code leaves, by the verdict on the entry's own tests
use Rattle.std.specs.Prelude.{Bool, cond, List, ℕ, ◌<◌, length, take, get_or}
use Rattle.protocol.specs.declared.Terms.{Terms}
use Rattle.protocol.specs.declared.Head.{Head}
use Rattle.protocol.specs.Answer.{Answer}
use Rattle.protocol.specs.Judge.{Judged}
use Rattle.protocol.specs.Tape.{Slot}
use Rattle.protocol.specs.Message.{Message}
use Rattle.protocol.specs.Step.{Outcome}
use Rattle.judging.specs.InOrder.{Check}
use Rattle.std.specs.Prelude.{Ok, Err}
use Rattle.entry.specs.declared.Session.{Session}
use Rattle.entry.specs.Steps.{lower_than, first_step, next_step, drop_step}
use Rattle.entry.specs.Entry.{Lent, Left, left, in_room, refusal_report}
use Rattle.local.specs.Seen.{least, seen, behind, most_scratch, most_result, end_role, session_role, session_terms, on_done, entering}
use Rattle.local.specs.Stored.{stored, lower_of}

unfoldable pub entered_by : Lent → (at : ℕ) → (own : Judged Unit) → Outcome Session → Left
entered_by l at own o = left at l (in_room (length l.line) (lower_than own o))

-- with room for `lent` words of the scratch, `sent` residues and `share` words of the result
unfoldable pub seen_first : (end : ℕ) → Terms → (lent sent share read : ℕ) → Slot → (scratch input words : List ℕ) → Message → (result : ℕ) → Outcome Session
seen_first end t lent sent share read s scratch input words a result =
    on_done (entering read (behind (end_role end) t s))
    (first_step end t (seen (end_role end) t s) (take lent scratch) input words a sent (least result share))

unfoldable pub later_step : (drops : Bool) → Session → Slot → (scratch : List ℕ) → Message → (room share : ℕ) → Outcome Session
later_step drops x s scratch a room share = cond drops (drop_step x s scratch) (next_step x s scratch a room share)

unfoldable pub seen_later : (drops : Bool) → Session → (sent : ℕ) → Slot → (scratch : List ℕ) → Message → (result : ℕ) → Outcome Session
seen_later drops x sent s scratch a result =
    on_done (entering 0 (behind (session_role x) (session_terms x) s))
    (later_step drops x (seen (session_role x) (session_terms x) s) (take most_scratch scratch) a sent (least result most_result))

-- bytes are below 256
abbrev pub Below : ℕ → List ℕ → Type 0
Below b l = (i : ℕ) → get_or l i 0 < b

abbrev pub settled : Check → (sums : Bool) (read : ℕ) → Answer → Session → Head → (words scratch sent result : List ℕ) → Lent → Left
settled (Ok u) sums read a x h ws ls rs us l = stored sums read a x h ws ls rs us l
settled (Err r) sums read a x h ws ls rs us l = record { report = refusal_report (lower_of (Err r) a); lent = l }
