-- What the code puts back of a step on local words is what the step's outcome says.
--   Behaves            what is known of an outcome: which answers stand for a refusal
--   stored-left        the code's `store`
--   refused-left       an entry's own refusal
--   settled-left       both: the code's `settle`
-- Assumes nothing.
use mathlib.Core.Path.{◌≡◌, refl, sym, ap, ◌∙◌}
use mathlib.Core.Bool.{Bool, true, false, cond, false≢true}
use mathlib.Core.List.{List, [], ◌∷◌, ◌++◌, append-nil}
use Prim.Native.Nat.{ℕ, ◌+◌, ◌*◌, ◌/◌, ◌≤◌, ◌<◌}
use native.Mathlib.Omega.{arith}
use lib.Dec.{leb, ltb}
use lib.ListN.{length, take, drop, get_or, length-append, length-drop}
use lib.Seq.{take_at}
use borrow.Author.Tests.{le-leb, le-ltb}
use Rattle.algebra.specs.Words.{over, written_at}
use Rattle.algebra.specs.Count.{both}
use Rattle.protocol.specs.Answer.{Answer}
use Rattle.std.specs.Prelude.{Ok, Err}
use Rattle.protocol.specs.declared.Head.{Head}
use Rattle.protocol.specs.declared.Refusal.{Refusal}
use Rattle.protocol.specs.declared.Refusal.TheVariants.{Form, Modulus, Composite, Size, Turn, Mark, Stranger, Residue, Dry, Singular}
use Rattle.protocol.specs.Judge.{place_of, Judged, refused, done}
use Rattle.protocol.specs.Tape.{Slot, slot_at, slot_words, pool_with}
use Rattle.protocol.specs.Message.{message_with, no_message}
use Rattle.protocol.specs.Step.{Effect, Outcome, answer_after, session_after, pool_after, scratch_after, sent_after, result_after}
use Rattle.protocol.proofs.Replies.{answer-determines}
use Rattle.judging.specs.Leaves.{Leaves, leaves, leaving}
use Rattle.judging.specs.InOrder.{Check}
use Rattle.std.specs.Prelude.{Ok, Err}
use Rattle.judging.specs.InOrder.{checked}
use Rattle.local.specs.Settled.{is_singular}
use Rattle.entry.specs.declared.Session.{Session}
use Rattle.entry.specs.Bytes.{words_of, bytes_of}
use Rattle.entry.specs.Record.{record_words}
use Rattle.entry.specs.Steps.{lower_than}
use Rattle.entry.specs.Entry.{Lent, Left, left, in_room, line_of, refusal_report}
use Rattle.entry.proofs.Bytes.{Below, bytes-over, bytes-length, words-length, part-back, over-again}
use Rattle.local.specs.Seen.{on_done, read_as, entering, sent_size}
use Rattle.local.proofs.Outcomes.{singular-last}
use Rattle.local.proofs.Proper.{Proper}
use Rattle.local.specs.Stored.{put_all, sent_line, stored_sent, stored, lower_of}
use Rattle.local.specs.Entered.{settled, entered_by}

-- ---- what is known of an outcome

-- `sums`: an answer that a sum is singular is that of a step which was done
pub record Behaves (sums : Bool) (c : Slot) (o : Outcome Session) : Type 0 where
  pub refuses : (r : Refusal) → o ≡ refused r → both sums (is_singular r) ≡ false
  pub answers : (e : Effect Session) (r : Refusal) → o ≡ done e → e.answer ≡ Err r → both sums (is_singular r) ≡ true
  pub proper : (e : Effect Session) → o ≡ done e → Proper c e

-- ---- lists written over others

pub one-pool : (ws us : List ℕ) (n : ℕ) → length ws ≡ n → length us ≡ n → pool_with (slot_at ws n 0) us ≡ us
unfolding pool_with written_at over
one-pool ws us n e f =
    let z : 0 * n ≡ 0 = omega arith in
    rw z (ap (λ (l : List ℕ). us ++ l) (drop_all (length us) ws (omega arith)) ∙ append-nil us)
  where
    drop_all : (k : ℕ) (l : List ℕ) → length l ≤ k → drop k l ≡ []
    drop_all k l h = none (drop k l) (omega (arith, length-drop k l))
      where
        none : (l : List ℕ) → length l ≤ 0 → l ≡ []
        none [] h = refl
        none (x ∷ l) h = absurd (omega arith)

start-over : (ws l : List ℕ) → take (length ws) (over ws l) ≡ ws
unfolding over
start-over ws l = take_at ws (drop (length ws) l) (length ws) refl

-- words that were brought from bytes, put back with others over them
pub put_back : (ws l : List ℕ) (n : ℕ) → Below 256 l → n ≤ length l / 4 → over (bytes_of (over ws (take n (words_of l)))) l ≡ over (bytes_of ws) l
put_back ws l n b h =
    let whole : bytes_of (take n (words_of l)) ≡ take (n * 4) l = part-back l b 0 n (omega (arith, h)) in
    ap (λ (z : List ℕ). over z l) (bytes-over ws (take n (words_of l)) ∙ ap (over (bytes_of ws)) whole) ∙ over-again (n * 4) (bytes_of ws) l

-- nothing is written where there is nothing
over_none : (l : List ℕ) → over [] l ≡ l
unfolding over
over_none l = refl

-- ---- what `store` leaves

-- a step on local words: n of the slot's, k of the scratch's and j of the result's
module _ (l : Lent) (scratch-bytes : Below 256 l.scratch) (result-bytes : Below 256 l.result)
    (n k j : ℕ) (k-fits : k ≤ length l.scratch / 4) (j-fits : j ≤ length l.result / 4) (sent₀ : List ℕ)
    (n-is : length (take n (words_of l.pool)) ≡ n) where
  abbrev slot : Slot
  slot = slot_at (take n (words_of l.pool)) n 0

  abbrev gone : Session → Outcome Session → Leaves Session
  gone x o = leaves x slot (take k (words_of l.scratch)) sent₀ (take j (words_of l.result)) o

  -- what a done step puts back
  put-done : (e : Effect Session) → Proper slot e → (line : List ℕ) → put_all e.session (pool_with slot e.slot) (over e.scratch (take k (words_of l.scratch))) line
      (over e.result (take j (words_of l.result))) l ≡ record {
        host = over (bytes_of (record_words e.session)) l.host;
        pool = written_at (0 * 4) (bytes_of (e.slot ++ [])) l.pool;
        scratch = over (bytes_of e.scratch) l.scratch;
        line = over line l.line;
        result = over (bytes_of e.result) l.result;
      }
  unfolding written_at
  put-done e p line =
      rw (
        one-pool (take n (words_of l.pool)) e.slot n n-is p.slot,
        put_back e.scratch l.scratch k scratch-bytes k-fits,
        put_back e.result l.result j result-bytes j-fits,
        append-nil e.slot,
      ) refl

  -- the line of what is sent
  sent-line : (e : Effect Session) → Proper slot e → sent_line e.sent.head (over e.sent.residues sent₀) ≡ line_of e.sent
  unfolding sent_line
  sent-line e p = ap (λ (z : List ℕ). line_of (message_with e.sent.head z))
      (ap (λ (i : ℕ). take i (over e.sent.residues sent₀)) (sym p.count) ∙ start-over e.sent.residues sent₀)

  module _ (sums : Bool) (read : ℕ) (x : Session) where
    -- from what the code's step answered and left
    abbrev storing : Answer → Leaves Session → Left
    storing a v = stored sums read a v.session v.head v.pool v.scratch v.sent v.result l

    fits-or-not : (e : Effect Session) → Proper slot e → (a : ℕ) → (b : Bool) → leb (length (line_of e.sent)) (length l.line) ≡ b
        → e.answer ≡ Ok a → storing (Ok a) (gone x (done e)) ≡ left 0 l (in_room (length l.line) (done (entering read [] e)))
    unfolding in_room
    fits-or-not e p a true h f = rw (sent-line e p, h, f, put-done e p (line_of e.sent)) refl
    fits-or-not e p a false h f = rw (sent-line e p, h) refl

    -- a sum that is singular sends nothing
    sum_left : (e : Effect Session) → Proper slot e → (r : Refusal) → both sums (is_singular r) ≡ true → e.answer ≡ Err r
        → storing (Err r) (gone x (done e)) ≡ left 0 l (in_room (length l.line) (done (entering read [] e)))
    unfolding in_room line_of
    sum_left e p r b f = rw (b, f, p.refused-sends r f, le-leb 0 (length l.line) (omega arith), put-done e p []) refl

    done-left : (e : Effect Session) → Proper slot e → ((r : Refusal) → e.answer ≡ Err r → both sums (is_singular r) ≡ true) → (a : Answer) → e.answer ≡ a
        → storing a (gone x (done e)) ≡ left 0 l (in_room (length l.line) (done (entering read [] e)))
    done-left e p s (Ok a) f = fits-or-not e p a (leb (length (line_of e.sent)) (length l.line)) refl f
    done-left e p s (Err r) f = sum_left e p r (s r f) f

    outcome-left : (o : Outcome Session) → Behaves sums slot o
        → storing (answer_after o) (gone x o) ≡ left 0 l (in_room (length l.line) (on_done (entering read []) o))
    unfolding in_room
    outcome-left (refused r) b = rw (b.refuses r refl) refl
    outcome-left (done e) b = done-left e (b.proper e refl) (λ r f. b.answers e r refl f) e.answer refl

    pub stored-left : (o : Outcome Session) → Behaves sums slot o → (a : Answer) {session : Session} {head : Head} {pool scratch sent result : List ℕ}
        → leaving a session head pool scratch sent result ≡ gone x o
        → stored sums read a session head pool scratch sent result l ≡ left 0 l (in_room (length l.line) (on_done (entering read []) o))
    stored-left o b a e =
        let same : a ≡ answer_after o = answer-determines a (answer_after o) (ap (λ (v : Leaves Session). v.answer) e) in
        ap (storing a) e ∙ (ap (λ (z : Answer). storing z (gone x o)) same ∙ outcome-left o b)

-- ---- an entry's own refusal

is-singular : (r : Refusal) → is_singular r ≡ true → r ≡ Singular
is-singular Form e = absurd (false≢true e)
is-singular Modulus e = absurd (false≢true e)
is-singular Composite e = absurd (false≢true e)
is-singular Size e = absurd (false≢true e)
is-singular Turn e = absurd (false≢true e)
is-singular Mark e = absurd (false≢true e)
is-singular Stranger e = absurd (false≢true e)
is-singular Residue e = absurd (false≢true e)
is-singular Dry e = absurd (false≢true e)
is-singular Singular e = refl

right_of_lem : (a b : Bool) → both a b ≡ true → b ≡ true
unfolding both
right_of_lem true b e = e
right_of_lem false b e = absurd (false≢true e)

module _ (sums : Bool) (c : Slot) (f : Effect Session → Effect Session) (own : Refusal) where
  answered : (e : Effect Session) → ((r : Refusal) → e.answer ≡ Err r → both sums (is_singular r) ≡ true) → (a : Answer) → e.answer ≡ a
      → lower_of (Err own) a ≡ own
  answered e h (Ok n) g = refl
  answered e h (Err r) g = rw (is-singular r (right_of_lem sums (is_singular r) (h r g)), singular-last own) refl

  pub refused-left : (l : Lent) (o : Outcome Session) → Behaves sums c o → (a : Answer) → a ≡ answer_after o
      → ◌≡◌ {A = Left} (record { report = refusal_report (lower_of (Err own) a); lent = l })
      (entered_by l 0 (refused own) (on_done f o))
  unfolding entered_by in_room
  refused-left l (refused s) b a e = rw e (pick (ltb (place_of s) (place_of own)))
    where
      pick : (t : Bool) → ◌≡◌ {A = Left} (record { report = refusal_report (cond t s own); lent = l })
          (left 0 l (in_room (length l.line) (cond {A = Outcome Session} t (refused s) (refused own))))
      pick true = refl
      pick false = refl
  refused-left l (done d) b a e = rw (e, answered d (λ r g. b.answers d r refl g) d.answer refl) refl

-- ---- both

module _ (l : Lent) (scratch-bytes : Below 256 l.scratch) (result-bytes : Below 256 l.result) (n k j : ℕ) (k-fits : k ≤ length l.scratch / 4)
    (j-fits : j ≤ length l.result / 4) (sent₀ : List ℕ) (n-is : length (take n (words_of l.pool)) ≡ n) (sums : Bool) (read : ℕ) (x : Session) where
  -- what the code's `settle` leaves of a step
  pub settled-left : (own : Check) (o : Outcome Session) → Behaves sums (slot_at (take n (words_of l.pool)) n 0) o
      → (a : Answer) {session : Session} {head : Head} {pool scratch sent result : List ℕ}
      → leaving a session head pool scratch sent result
      ≡ leaves x (slot_at (take n (words_of l.pool)) n 0) (take k (words_of l.scratch)) sent₀ (take j (words_of l.result)) o
      → settled own sums read a session head pool scratch sent result l ≡ entered_by l 0 (checked own) (on_done (entering read []) o)
  unfolding entered_by
  settled-left (Ok u) o b a e =
      stored-left l scratch-bytes result-bytes n k j k-fits j-fits sent₀ n-is sums read x o b a e
  settled-left (Err r) o b a e =
      refused-left sums (slot_at (take n (words_of l.pool)) n 0) (entering read []) r l o b a
      (answer-determines a (answer_after o) (ap (λ (v : Leaves Session). v.answer) e))
