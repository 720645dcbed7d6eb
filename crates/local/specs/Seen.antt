-- What a call on bytes looks at, so that it has room in arrays of a fixed length: the laws in proofs/ say that its step on this is its step.
--   least                        the smaller of two numbers
--   seen_size, seen, behind       of its slot the words of its half
--   seen_words, seen_message       an input and a message that are longer than any are empty
--   sent_size                     how many residues a message has, by its head
--   opening_message               a message that a first step is handed; one of kind 2, which is due to none, is short
--   most_scratch .. share_room     room for words of the scratch, the message sent and the result
--   end_role, session_role, session_terms   whose half a call looks at
--   coin_count                    how many residues a first step draws
--   on_done, entering             an outcome with another effect; an effect with a count of words read and with more words in its slot
-- Assumes nothing.
use Rattle.std.specs.Prelude.{Bool, true, cond, List, [], ◌++◌, ℕ, ◌*◌, eqb, leb, length, take, drop}
use Rattle.algebra.specs.Count.{both}
use Rattle.protocol.specs.declared.Terms.{Terms}
use Rattle.protocol.specs.declared.Head.{Head}
use Rattle.protocol.specs.Answer.{Answer}
use Rattle.std.specs.Prelude.{Ok, Err}
use Rattle.protocol.specs.Judge.{Judged, refused, done}
use Rattle.protocol.specs.Step.{Effect}
use Rattle.protocol.specs.Bounds.{product, sides_fit, most_residues}
use Rattle.protocol.specs.Tape.{Slot, slot_at, is_slot, slot_words, header_size, Role, left, right, blinder, solver, sort_of, tape_size}
use Rattle.protocol.specs.Message.{Message, message_with, message_size}
use Rattle.protocol.specs.Line.{most_sent}
use Rattle.protocol.specs.System.{scratch_size}
use Rattle.entry.specs.declared.Session.{Session}
use Rattle.entry.specs.Record.{LEFT, RIGHT, BLINDER, SOLVER, right_of}

unfoldable pub least : ℕ → ℕ → ℕ
least a b = cond (leb a b) a b

-- the words of a half; where its sides don't fit, those of a header
unfoldable pub half_size : Role → Terms → ℕ
half_size role t = cond (sides_fit (sort_of role) t.m t.k t.p) (tape_size role t.m t.k t.p) header_size

-- how many words of a slot are looked at; of a slot that is not in its pool none
unfoldable pub seen_size : Role → Terms → Slot → ℕ
seen_size role t s = cond (is_slot s) (least s.size (half_size role t)) 0

-- a pool of one slot, with these words
unfoldable pub seen : Role → Terms → Slot → Slot
seen role t s = slot_at (take (seen_size role t s) (slot_words s)) (seen_size role t s) 0

-- the words of the slot behind them
unfoldable pub behind : Role → Terms → Slot → List ℕ
behind role t s = drop (seen_size role t s) (slot_words s)

-- no matrix and no vector of an input has more words than these
unfoldable pub seen_words : List ℕ → List ℕ
seen_words l = cond (leb (length l) most_residues) l []

-- how many residues of a message are looked at, by how many it has
unfoldable pub seen_count : ℕ → ℕ
seen_count n = cond (leb n most_sent) n 0

unfoldable pub seen_message : Message → Message
seen_message a = message_with a.head (cond (leb (length a.residues) most_sent) a.residues [])

-- how many residues the message with this head has; none where nothing is sent
unfoldable pub sent_size : Head → ℕ
sent_size h = cond (eqb h.kind 0) 0 (cond (sides_fit product h.terms.m h.terms.k h.terms.p) (message_size h.kind h.terms) 0)

-- ---- the message that a first step is handed: of kind 1 where it is due, and then of at most most_residues residues

-- with n residues, a message of kind 2 as its head has it
unfoldable pub is_reply : Head → ℕ → Bool
is_reply h n = both (eqb h.kind 2) (eqb n (sent_size h))

-- the head with all sides 1: a message of kind 2 has two residues then
unfoldable pub shrunk : Head → Head
shrunk h = record {
  kind = h.kind;
  terms = record { session = h.terms.session; tape = h.terms.tape; q = h.terms.q; m = 1; k = 1; p = 1 };
}

unfoldable pub opening_head : Head → ℕ → Head
opening_head h n = cond (leb n most_residues) h (cond (is_reply h n) (shrunk h) h)

unfoldable pub opening_count : Head → ℕ → ℕ
opening_count h n = cond (leb n most_residues) n (cond (is_reply h n) 2 0)

-- a message that is longer is refused by 4, or by 5 where it is of kind 2, whatever its residues are
unfoldable pub opening_message : Message → Message
opening_message a =
    message_with (opening_head a.head (length a.residues)) (take (opening_count a.head (length a.residues)) a.residues)

-- ---- room

-- a blinder's scratch has no more than these, and a result
abbrev pub most_scratch : ℕ
most_scratch = 528

abbrev pub most_result : ℕ
most_result = 1024

-- no step after the first sends more residues
abbrev pub most_reply : ℕ
most_reply = 272

-- of a first step's ends those of a system have no result, and those of a product no scratch
unfoldable pub is_system : (end : ℕ) → Bool
is_system end = cond (eqb end BLINDER) true (eqb end SOLVER)

unfoldable pub lent_room : (end : ℕ) → ℕ
lent_room end = cond (is_system end) most_scratch 0

unfoldable pub share_room : (end : ℕ) → ℕ
share_room end = cond (is_system end) 0 most_result

-- ---- by the end, and by the record

unfoldable pub end_role : (end : ℕ) → Role
end_role end = cond (eqb end RIGHT) right (cond (eqb end BLINDER) blinder (cond (eqb end SOLVER) solver left))

-- the session that a record holds; of another end it is right's, and none
unfoldable pub session_role : Session → Role
session_role x = cond (eqb x.end SOLVER) solver (cond (eqb x.end BLINDER) blinder right)

unfoldable pub session_terms : Session → Terms
session_terms x = cond (eqb x.end SOLVER) x.terms (cond (eqb x.end BLINDER) x.terms (right_of x).terms)

-- where the sides don't fit, none are drawn
unfoldable pub coin_count : (end : ℕ) → Terms → ℕ
coin_count end t =
    cond (sides_fit (sort_of (end_role end)) t.m t.k t.p)
    (cond (eqb end LEFT) (t.m * t.p) (cond (eqb end BLINDER) (scratch_size t) 0)) 0

-- ---- outcomes

-- an outcome with its effect changed
abbrev pub on_done : {A B : Type 0} → (A → B) → Judged A → Judged B
on_done f (refused r) = refused r
on_done f (done a) = done (f a)

-- an answer with another count of words read
abbrev pub read_as : ℕ → Answer → Answer
read_as n (Ok k) = Ok n
read_as n (Err r) = Err r

-- an effect with n words read, and with more words behind its slot's
abbrev pub entering : {S : Type 0} → ℕ → List ℕ → Effect S → Effect S
entering n rest e = record {
  answer = read_as n e.answer;
  session = e.session;
  slot = e.slot ++ rest;
  scratch = e.scratch;
  sent = e.sent;
  result = e.result;
}
