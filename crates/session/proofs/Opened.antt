-- What a call's tests alone tell, and a first step over a record that is open. Assumes nothing.
--   recorded_tells         what a step's tests tell of it, with the record of its session
--   open-leaves            over an open record nothing is done, and the lower refusal is given
--   over-free, over-open   a first step over a record that is not open, and over one that is
use mathlib.Core.Path.{◌≡◌, refl, sym, ◌∙◌}
use mathlib.Core.Bool.{Bool, true, false, cond}
use mathlib.Core.List.{List}
use Prim.Native.Nat.{ℕ}
use lib.Dec.{ltb}
use borrow.Author.Tests.{eq-eqb, ne_eqb}
use Rattle.algebra.specs.Words.{over}
use Rattle.protocol.specs.declared.Terms.{Terms}
use Rattle.protocol.specs.declared.Refusal.{Refusal}
use Rattle.protocol.specs.declared.Refusal.TheVariants.{Turn}
use Rattle.protocol.specs.Judge.{place_of, Test, Judged, refused, done, judge}
use Rattle.protocol.specs.Tape.{Slot}
use Rattle.protocol.specs.Message.{Message, no_message}
use Rattle.protocol.specs.Step.{Effect, Outcome}
use Rattle.protocol.proofs.Judge.{refused≢done}
use Rattle.judging.specs.InOrder.{Check}
use Rattle.std.specs.Prelude.{Ok, Err}
use Rattle.judging.specs.InOrder.{checked, answer_of, judged}
use Rattle.judging.specs.Lowest.{lower}
use Rattle.judging.specs.Leaves.{leaves, leaving}
use Rattle.judging.proofs.InOrder.{refused-by, accepted-by}
use Rattle.judging.proofs.Join.{judged-true, judged-false}
use Rattle.entry.specs.declared.Session.{Session}
use Rattle.entry.specs.Steps.{lower_than, also, recorded, free_tests, first_step, first_over}
use Rattle.local.specs.Settled.{judgement}

judgement-of : {A : Type 0} (ts : List Test) (a : A) → judged ts ≡ judgement (judge ts a)
judgement-of ts a = go (judged ts) refl
  where
    go : (v : Judged Unit) → judged ts ≡ v → v ≡ judgement (judge ts a)
    go (refused r) e = rw (refused-by ts a e)
    go (done u) e = rw (accepted-by ts a e)

-- the same with the record of its session
recorded-judgement : {S : Type 0} (f : S → Session) (o : Outcome S) → judgement o ≡ judgement (recorded f o)
recorded-judgement f (refused r) = refl
recorded-judgement f (done e) = refl

pub recorded_tells : {S : Type 0} (f : S → Session) (ts : List Test) (e : Effect S) {v : Judged Unit} → v ≡ judged ts → v ≡ judgement (recorded f (judge ts e))
recorded_tells f ts e h = h ∙ (judgement-of ts e ∙ recorded-judgement f (judge ts e))

-- ---- a record that is open, which is refused by r

-- the lower of two refusals, of the tests alone and of the call
same-lower : {A : Type 0} (r : Refusal) (o : Judged A) {p : Refusal} → refused p ≡ lower (refused r) (judgement o) → lower_than (refused r) o ≡ refused p
same-lower r (done a) e = cc
same-lower {A} r (refused s) {p} e = go (ltb (place_of s) (place_of r)) e
  where
    go : (b : Bool) → ◌≡◌ {A = Judged Unit} (refused p) (cond b (refused s) (refused r)) → ◌≡◌ {A = Judged A} (cond b (refused s) (refused r)) (refused p)
    go true e = cc
    go false e = cc

never-passes : {A : Type 0} (r : Refusal) (o : Judged A) → done tt ≡ lower (refused r) (judgement o) → ⊥
never-passes r (done a) e = refused≢done (sym e)
never-passes r (refused s) e = go (ltb (place_of s) (place_of r)) e
  where
    go : (b : Bool) → ◌≡◌ {A = Judged Unit} (done tt) (cond b (refused s) (refused r)) → ⊥
    go true e = refused≢done (sym e)
    go false e = refused≢done (sym e)

pub open-leaves : (x : Session) (s : Slot) (scratch sent result : List ℕ) (r : Refusal) (o : Outcome Session) (w : Check)
    → checked w ≡ lower (refused r) (judgement o)
    → leaving (answer_of w) x no_message.head s.pool scratch sent result ≡ leaves x s scratch sent result (lower_than (refused r) o)
unfolding over
open-leaves x s scratch sent result r o (Ok u) e = absurd (never-passes r o e)
open-leaves x s scratch sent result r o (Err p) e = rw (same-lower r o e)

-- ---- a first step over a record

module _ (x : Session) (end : ℕ) (t : Terms) (s : Slot) (scratch input words : List ℕ) (a : Message) (room share : ℕ) where
  pub over-free : x.due ≡ 0 → first_over x end t s scratch input words a room share ≡ first_step end t s scratch input words a room share
  unfolding first_over also free_tests
  over-free e = rw (← judged-true Turn (eq-eqb x.due 0 e))

  pub over-open : (x.due ≡ 0 → ⊥)
      → first_over x end t s scratch input words a room share ≡ lower_than (refused Turn) (first_step end t s scratch input words a room share)
  unfolding first_over also free_tests
  over-open h = rw (← judged-false Turn (ne_eqb x.due 0 h))
