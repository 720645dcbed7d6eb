-- A step with the record of its session: what its code leaves with the step's own session, it leaves with the record.
--   by-judgement                        what holds of each refusal of a judged call, and of its effect, holds of its outcome
--   Told, told-first, told-later        an answer that tells whether the call was done; of a later step: no test is of 10 (NoTen)
--   singular-equal                     a refusal is compared with that of a singular sum
--   recorded-leaves, carried-leaves     the step's contract, with the record
--   over-record                         a call's contract with another record where it is not done
--   NoScratch, NoSent, NoResult         the step writes nothing there
--   any-scratch, any-sent, any-result   its contract without such a slice holds with any: it stays as it is
-- Assumes nothing.
use mathlib.Core.Path.{◌≡◌, refl, sym, ap, ap₂, subst, ◌∙◌}
use mathlib.Core.Bool.{Bool, true, false, cond, false≢true}
use mathlib.Core.List.{List, [], ◌++◌}
use Prim.Native.Nat.{ℕ}
use lib.Dec.{eqb}
use Rattle.algebra.specs.Words.{over}
use Rattle.algebra.proofs.Tests.{and_both}
use Rattle.protocol.specs.declared.Head.{Head}
use Rattle.protocol.specs.Answer.{Answer}
use Rattle.protocol.specs.contracts.RefusalPartialEq.TheImpl.{eq-value}
use Rattle.protocol.specs.declared.Refusal.{Refusal}
use Rattle.protocol.specs.declared.Refusal.TheVariants.{Form, Modulus, Composite, Size, Turn, Mark, Stranger, Residue, Dry, Singular}
use Rattle.protocol.specs.Judge.{refusal_number, Test, clear, Judged, refused, done, judge}
use Rattle.protocol.specs.Tape.{Slot}
use Rattle.protocol.specs.Step.{Effect, Outcome, answer_after, scratch_after, sent_after, result_after}
use Rattle.protocol.proofs.Judge.{passed, lowest, clear-append}
use Rattle.protocol.proofs.Replies.{answer-determines}
use Rattle.judging.specs.Leaves.{Leaves, leaves, leaving}
use Rattle.entry.specs.declared.Session.{Session}
use Rattle.entry.specs.Steps.{recorded}
use Rattle.local.specs.Settled.{is_accepted, is_singular, is_settled}

pub by-judgement : {A : Type 0} (P : Judged A → Type 0) (ts : List Test) (a : A)
    → ((r : Refusal) → clear r ts ≡ false → P (refused r)) → P (done a) → P (judge ts a)
by-judgement {A} P ts a f g = go (judge ts a) refl
  where
    go : (o : Judged A) → judge ts a ≡ o → P o
    go (refused r) e = f r (lowest ts a r e).applies
    go (done b) e = subst P (ap done (passed ts e).1) g

-- ---- by its answer a call was done or not

abbrev pub was_done : {A : Type 0} → Judged A → Bool
was_done (refused r) = false
was_done (done a) = true

pub record Told {S : Type 0} (is : Answer → Bool) (o : Outcome S) : Type 0 where
  pub tells : is (answer_after o) ≡ was_done o

-- 10 is the number of a singular sum alone
pub singular-number : (r : Refusal) → eqb (refusal_number r) 10 ≡ is_singular r
singular-number Form = refl
singular-number Modulus = refl
singular-number Composite = refl
singular-number Size = refl
singular-number Turn = refl
singular-number Mark = refl
singular-number Stranger = refl
singular-number Residue = refl
singular-number Dry = refl
singular-number Singular = refl

-- as code sees it
pub singular-equal : (r : Refusal) → eq-value.it r Singular ≡ is_singular r
singular-equal Form = refl
singular-equal Modulus = refl
singular-equal Composite = refl
singular-equal Size = refl
singular-equal Turn = refl
singular-equal Mark = refl
singular-equal Stranger = refl
singular-equal Residue = refl
singular-equal Dry = refl
singular-equal Singular = refl

-- no test of these is of 10, which the effect of a later step may answer
pub record NoTen (ts : List Test) : Type 0 where
  pub none : clear Singular ts ≡ true

infixl 40 ◌and◌
pub ◌and◌ : {ts us : List Test} → NoTen ts → NoTen us → NoTen (ts ++ us)
◌and◌ {ts} {us} h k = record { none = rw (clear-append Singular ts us) (and_both h.none k.none) }

module _ {S : Type 0} (ts : List Test) (e : Effect S) where
  pub told-first : is_accepted e.answer ≡ true → Told is_accepted (judge ts e)
  told-first h = by-judgement (Told is_accepted) ts e (λ r k. record { tells = refl }) (record { tells = h })

  not-singular : NoTen ts → (r : Refusal) → clear r ts ≡ false → is_singular r ≡ false
  not-singular h Form k = refl
  not-singular h Modulus k = refl
  not-singular h Composite k = refl
  not-singular h Size k = refl
  not-singular h Turn k = refl
  not-singular h Mark k = refl
  not-singular h Stranger k = refl
  not-singular h Residue k = refl
  not-singular h Dry k = refl
  not-singular h Singular k = absurd (false≢true (sym k ∙ h.none))

  pub told-later : NoTen ts → is_settled e.answer ≡ true → Told is_settled (judge ts e)
  told-later h k = by-judgement (Told is_settled) ts e (λ r l. record { tells = not-singular h r l }) (record { tells = k })

-- ---- a step's contract, with the record

module _ {S : Type 0} (f : S → Session) (x : Session) (y : S) (s : Slot) (scratch₀ sent₀ result₀ : List ℕ) where
  with-record : (o : Outcome S) (answer : Answer) {session : S} {head : Head} {pool scratch sent result : List ℕ}
      → leaving answer session head pool scratch sent result ≡ leaves y s scratch₀ sent₀ result₀ o
      → leaving answer (cond (was_done o) (f session) x) head pool scratch sent result ≡ leaves x s scratch₀ sent₀ result₀ (recorded f o)
  with-record (refused r) answer e = ap (λ (l : Leaves S). record {
    answer = l.answer;
    session = x;
    head = l.head;
    pool = l.pool;
    scratch = l.scratch;
    sent = l.sent;
    result = l.result;
  }) e
  with-record (done z) answer e = ap (λ (l : Leaves S). record {
    answer = l.answer;
    session = f l.session;
    head = l.head;
    pool = l.pool;
    scratch = l.scratch;
    sent = l.sent;
    result = l.result;
  }) e

  pub recorded-leaves : {is : Answer → Bool} {o : Outcome S} → Told is o → (answer : Answer) {session : S} {head : Head} {pool scratch sent result : List ℕ}
      → leaving answer session head pool scratch sent result ≡ leaves y s scratch₀ sent₀ result₀ o
      → leaving answer (cond (is answer) (f session) x) head pool scratch sent result ≡ leaves x s scratch₀ sent₀ result₀ (recorded f o)
  recorded-leaves {is} {o} told answer e =
      let same : answer ≡ answer_after o = answer-determines answer (answer_after o) (ap (λ (l : Leaves S). l.answer) e) in
      let was : is answer ≡ was_done o = ap is same ∙ told.tells in
      rw was (with-record o answer e)

-- the same with the record of the session that it answered with, whatever it answered
module _ {S : Type 0} (f : S → Session) (y : S) (s : Slot) (scratch₀ sent₀ result₀ : List ℕ) where
  abbrev with_record : Leaves S → Leaves Session
  with_record l = record {
    answer = l.answer;
    session = f l.session;
    head = l.head;
    pool = l.pool;
    scratch = l.scratch;
    sent = l.sent;
    result = l.result;
  }

  pub carried-leaves : (o : Outcome S) (answer : Answer) {session : S} {head : Head} {pool scratch sent result : List ℕ}
      → leaving answer session head pool scratch sent result ≡ leaves y s scratch₀ sent₀ result₀ o
      → leaving answer (f session) head pool scratch sent result ≡ leaves (f y) s scratch₀ sent₀ result₀ (recorded f o)
  carried-leaves (refused r) answer e = ap with_record e
  carried-leaves (done z) answer e = ap with_record e

-- a call's contract with another record where it is not done
module _ (x y : Session) (s : Slot) (scratch₀ sent₀ result₀ : List ℕ) where
  abbrev with_session : Session → Leaves Session → Leaves Session
  with_session z l = record {
    answer = l.answer;
    session = z;
    head = l.head;
    pool = l.pool;
    scratch = l.scratch;
    sent = l.sent;
    result = l.result;
  }

  over_any : (o : Outcome Session) (answer : Answer) {session : Session} {head : Head} {pool scratch sent result : List ℕ}
      → leaving answer session head pool scratch sent result ≡ leaves y s scratch₀ sent₀ result₀ o
      → leaving answer (cond (was_done o) session x) head pool scratch sent result ≡ leaves x s scratch₀ sent₀ result₀ o
  over_any (refused r) answer e = ap (with_session x) e
  over_any (done z) answer e = e

  pub over-record : {is : Answer → Bool} {o : Outcome Session} → Told is o → (answer : Answer) {session : Session} {head : Head}
      {pool scratch sent result : List ℕ} → leaving answer session head pool scratch sent result ≡ leaves y s scratch₀ sent₀ result₀ o
      → leaving answer (cond (is answer) session x) head pool scratch sent result ≡ leaves x s scratch₀ sent₀ result₀ o
  over-record {is} {o} told answer e =
      let same : answer ≡ answer_after o = answer-determines answer (answer_after o) (ap (λ (l : Leaves Session). l.answer) e) in
      let was : is answer ≡ was_done o = ap is same ∙ told.tells in
      rw was (over_any o answer e)

-- ---- slices that the step is not lent

pub record NoScratch {S : Type 0} (o : Outcome S) : Type 0 where
  pub none : scratch_after o ≡ []

pub record NoSent {S : Type 0} (o : Outcome S) : Type 0 where
  pub none : (sent_after o).residues ≡ []

pub record NoResult {S : Type 0} (o : Outcome S) : Type 0 where
  pub none : result_after o ≡ []

module _ {S : Type 0} (f : S → Session) (ts : List Test) (e : Effect S) where
  pub no-scratch : e.scratch ≡ [] → NoScratch (recorded f (judge ts e))
  no-scratch h = by-judgement (λ o. NoScratch (recorded f o)) ts e (λ r k. record { none = refl }) (record { none = h })

  pub no-sent : e.sent.residues ≡ [] → NoSent (recorded f (judge ts e))
  no-sent h = by-judgement (λ o. NoSent (recorded f o)) ts e (λ r k. record { none = refl }) (record { none = h })

  pub no_result : e.result ≡ [] → NoResult (recorded f (judge ts e))
  no_result h = by-judgement (λ o. NoResult (recorded f o)) ts e (λ r k. record { none = refl }) (record { none = h })

-- nothing written over a list
stays : {ws : List ℕ} (l : List ℕ) → ws ≡ [] → l ≡ over ws l
unfolding over
stays l e = rw e

-- what is left, with another list in one place
module _ {S : Type 0} (k : Leaves S) (l : List ℕ) where
  abbrev pub with_scratch : Leaves S
  with_scratch = record {
    answer = k.answer;
    session = k.session;
    head = k.head;
    pool = k.pool;
    scratch = l;
    sent = k.sent;
    result = k.result;
  }

  abbrev pub with_sent : Leaves S
  with_sent = record {
    answer = k.answer;
    session = k.session;
    head = k.head;
    pool = k.pool;
    scratch = k.scratch;
    sent = l;
    result = k.result;
  }

  abbrev pub with_result : Leaves S
  with_result = record {
    answer = k.answer;
    session = k.session;
    head = k.head;
    pool = k.pool;
    scratch = k.scratch;
    sent = k.sent;
    result = l;
  }

-- `k`: what the code leaves; `l`: the slice that it does not touch
module _ {S : Type 0} {o : Outcome S} (x : S) (s : Slot) {k : Leaves S} where
  pub any-scratch : (sent₀ result₀ l : List ℕ) → NoScratch o → k ≡ leaves x s [] sent₀ result₀ o → with_scratch k l ≡ leaves x s l sent₀ result₀ o
  any-scratch sent₀ result₀ l h e = ap₂ with_scratch e (stays l h.none)

  pub any-sent : (scratch₀ result₀ l : List ℕ) → NoSent o → k ≡ leaves x s scratch₀ [] result₀ o → with_sent k l ≡ leaves x s scratch₀ l result₀ o
  any-sent scratch₀ result₀ l h e = ap₂ with_sent e (stays l h.none)

  pub any-result : (scratch₀ sent₀ l : List ℕ) → NoResult o → k ≡ leaves x s scratch₀ sent₀ [] o → with_result k l ≡ leaves x s scratch₀ sent₀ l o
  any-result scratch₀ sent₀ l h e = ap₂ with_result e (stays l h.none)
