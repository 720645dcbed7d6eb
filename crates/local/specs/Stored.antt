-- What the code puts back, of what a step left in local words. Assumes nothing.
--   put_all      the record, the slot, the scratch and the result
--   sent_line    the line of what is sent, whose residues stand at the start of words
--   stored_sent  all of it, of an accepted step
--   stored      all of it, by the step's answer
--   start_words, lower_of, seen_in   a record's first words; the lower of two refusals; the words looked at
use Rattle.std.specs.Prelude.{Bool, cond, List, [], ◌∷◌, ℕ, ◌/◌, leb, ltb, length, take}
use Rattle.algebra.specs.Words.{over}
use Rattle.algebra.specs.Count.{both}
use Rattle.protocol.specs.declared.Head.{Head}
use Rattle.protocol.specs.declared.Terms.{Terms}
use Rattle.protocol.specs.Answer.{Answer}
use Rattle.std.specs.Prelude.{Ok, Err}
use Rattle.protocol.specs.declared.Refusal.{Refusal}
use Rattle.protocol.specs.declared.Refusal.TheVariants.{Form, Size}
use Rattle.protocol.specs.Judge.{place_of}
use Rattle.protocol.specs.Tape.{Role}
use Rattle.protocol.specs.Message.{message_with}
use Rattle.entry.specs.declared.Session.{Session}
use Rattle.entry.specs.Bytes.{bytes_of}
use Rattle.entry.specs.Record.{record_words}
use Rattle.entry.specs.Entry.{Lent, Left, line_of, refusal_report}
use Rattle.judging.specs.InOrder.{Check}
use Rattle.std.specs.Prelude.{Ok}
use Rattle.std.specs.Prelude.{Ok, Err}
use Rattle.local.specs.Settled.{is_singular}
use Rattle.local.specs.Seen.{least, half_size, sent_size}

-- `l.pool` begins where the slot does
abbrev pub put_all : Session → (words scratch line result : List ℕ) → Lent → Lent
put_all x ws ls line us l = record {
  host = over (bytes_of (record_words x)) l.host;
  pool = over (bytes_of ws) l.pool;
  scratch = over (bytes_of ls) l.scratch;
  line = over line l.line;
  result = over (bytes_of us) l.result;
}

unfoldable pub sent_line : Head → (sent : List ℕ) → List ℕ
sent_line h rs = line_of (message_with h (take (sent_size h) rs))

-- of an accepted step
abbrev pub stored_sent : (read : ℕ) → Session → Head → (words scratch sent result : List ℕ) → Lent → Left
stored_sent read x h ws ls rs us l =
    cond (leb (length (sent_line h rs)) (length l.line))
    (record {
      report = record { number = 0; read = read; bytes = length (sent_line h rs) };
      lent = put_all x ws ls (sent_line h rs) us l;
    })
    (record { report = refusal_report Size; lent = l })

-- `sums`: a singular sum is no refusal that changes nothing
abbrev pub stored : (sums : Bool) (read : ℕ) → Answer → Session → Head → (words scratch sent result : List ℕ) → Lent → Left
stored sums read (Ok n) x h ws ls rs us l = stored_sent read x h ws ls rs us l
stored sums read (Err r) x h ws ls rs us l =
    record { report = refusal_report r; lent = cond (both sums (is_singular r)) (put_all x ws ls [] us l) l }

-- a record's words before what is kept
unfoldable pub start_words : Session → List ℕ
start_words x =
    let t = x.terms in
    x.end ∷ t.session.0 ∷ t.tape.0 ∷ t.q ∷ t.m ∷ t.k ∷ t.p ∷ x.due ∷ []

-- the lower of an entry's own refusal and of its step's; `own` is one
abbrev pub lower_of : Check → Answer → Refusal
lower_of (Ok u) a = Form
lower_of (Err r) (Ok n) = r
lower_of (Err r) (Err s) = cond (ltb (place_of s) (place_of r)) s r

-- how many words of a slot are looked at, by the numbers of pool and slot
unfoldable pub seen_in : Role → Terms → (pool size index : ℕ) → ℕ
seen_in role t pool size index = cond (ltb index (pool / size)) (least size (half_size role t)) 0
