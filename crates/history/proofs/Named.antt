-- The names of sessions: those below the number of accepted first steps have a session that was begun, the others none. It holds of every list of calls,
-- whatever its hosts do; so a first step always finds its session absent.
--   unbegun                   from that number on, no session
--   begun-below, begun-named  below it a session that was begun, and only there
-- Assumes nothing.
use mathlib.Core.Path.{◌≡◌, refl, sym, ap, ◌∙◌, subst}
use mathlib.Core.Logic.{◌≢◌}
use mathlib.Core.Bool.{true}
use mathlib.Core.List.{List, [], ◌∷◌}
use Prim.Native.Nat.{ℕ, ◌≤◌, ◌<◌}
use native.Mathlib.Omega.{arith}
use native.Mathlib.Decide.{ℕ_discrete, dec_lt}
use Rattle.protocol.specs.Judge.{Judged, refused, done}
use Rattle.protocol.specs.Deal.{Dealt, deal}
use Rattle.protocol.specs.Step.{Outcome}
use Rattle.history.specs.Ends.{Session, absent, is_begun, begins, goes_on, run_step}
use Rattle.history.specs.Log.{set_at, Party, opposite, State, Call, dealing, beginning, continuing, Entry, World, begun_in, slot_of, advance_dealing, advance_step, advance, run}
use Rattle.history.proofs.Steps.{begins-sound, continues-sound}
use Rattle.history.proofs.Facts.{set_same, set_other, absent≢}

record Named (st : State) (l : List Entry) : Type 0 where
  pub beyond : (n : ℕ) → begun_in l ≤ n → st.sessions n ≡ absent
  pub below : (n : ℕ) → n < begun_in l → is_begun (st.sessions n) ≡ true

-- a session that a step begins or goes on with, and those beside it
begun-set : (sessions : ℕ → Session) (m : ℕ) (x : Session) → is_begun x ≡ true → (n : ℕ) → (n ≢ m → is_begun (sessions n) ≡ true) → is_begun (set_at m x sessions n) ≡ true
begun-set sessions m x b n h = go (ℕ_discrete n m)
  where
    go : Dec (n ≡ m) → is_begun (set_at m x sessions n) ≡ true
    go (yes q) = subst (λ (n : ℕ). is_begun (set_at m x sessions n) ≡ true) (sym q) (ap is_begun (set_same m x sessions) ∙ b)
    go (no a) = ap is_begun (set_other m x sessions n a) ∙ h a

module _ (size : Party → ℕ) (start : Party → List ℕ) (lent : ℕ → List ℕ) where
  named : (cs : List Call) → Named (run size start lent cs).state (run size start lent cs).log
  named [] = record { beyond = λ n h. refl; below = λ n h. absurd (omega arith) }
  named (c ∷ cs) = go c (named cs)
    where
      o : World
      o = run size start lent cs

      Goal : World → Type 0
      Goal o = Named o.state o.log

      go : (c : Call) → Goal o → Goal (advance size o c)
      go (dealing holder len i r) v = by_result (deal (o.state.pools holder) (o.state.pools (opposite holder)) len i r)
        where
          by_result : (x : Judged Dealt) → Goal (advance_dealing holder len i r o x)
          by_result (refused n) = v
          by_result (done x) = record { beyond = v.beyond; below = v.below }
      go (beginning w i b t k) v = by_result (run_step (begins t k) (o.state.sessions m) (slot_of size o.state.pools w i) (o.state.scratches b)) refl
        where
          m : ℕ
          m = begun_in (run size start lent cs).log

          by_result : (x : Outcome Session) → run_step (begins t k) (o.state.sessions m) (slot_of size o.state.pools w i) (o.state.scratches b) ≡ x
              → Goal (advance_step size w i b m (begins t k) o x)
          by_result (refused r) e = v
          by_result (done f) e =
              let g = begins-sound t k (slot_of size o.state.pools w i) (o.state.scratches b) f e in
              record {
                beyond = λ n h. set_other m f.session o.state.sessions n (λ q. omega (arith, h, q)) ∙ v.beyond n (omega (arith, h));
                below = λ n h. begun-set o.state.sessions m f.session g.is-begun n (λ a. v.below n (omega (arith, h, a)));
              }
      go (continuing w i b m k) v = by_result (run_step (goes_on k) (o.state.sessions m) (slot_of size o.state.pools w i) (o.state.scratches b)) refl
        where
          by_result : (x : Outcome Session) → run_step (goes_on k) (o.state.sessions m) (slot_of size o.state.pools w i) (o.state.scratches b) ≡ x
              → Goal (advance_step size w i b m (goes_on k) o x)
          by_result (refused r) e = v
          by_result (done f) e =
              let g = continues-sound k (o.state.sessions m) (slot_of size o.state.pools w i) (o.state.scratches b) f e in
              record {
                beyond = λ n h. set_other m f.session o.state.sessions n (λ q. absent≢ (ap o.state.sessions (sym q) ∙ v.beyond n h) g.was-begun) ∙ v.beyond n h;
                below = λ n h. begun-set o.state.sessions m f.session g.is-begun n (λ a. v.below n h);
              }

  pub unbegun : (cs : List Call) (n : ℕ) → begun_in (run size start lent cs).log ≤ n → (run size start lent cs).state.sessions n ≡ absent
  unbegun cs = (named cs).beyond

  pub begun-below : (cs : List Call) (n : ℕ) → n < begun_in (run size start lent cs).log → is_begun ((run size start lent cs).state.sessions n) ≡ true
  begun-below cs = (named cs).below

  pub begun-named : (cs : List Call) (n : ℕ) → is_begun ((run size start lent cs).state.sessions n) ≡ true → n < begun_in (run size start lent cs).log
  begun-named cs n b = go (dec_lt n (begun_in (run size start lent cs).log))
    where
      go : Dec (n < begun_in (run size start lent cs).log) → n < begun_in (run size start lent cs).log
      go (yes h) = h
      go (no h) = absent≢ (unbegun cs n (omega (arith, h))) b
