-- DEMAND 3, proved.
--   place-never, place-last   places by the log alone
--   made_by                   an entry of the log is a call of the list
--   demand-3                  the claim
-- Assumes nothing.
use mathlib.Core.Path.{◌≡◌, refl, sym, ap, ◌∙◌, subst}
use mathlib.Core.Logic.{inl, inr, ◌↔◌}
use mathlib.Core.Bool.{true}
use mathlib.Core.List.{List, [], ◌∷◌, ◌++◌}
use mathlib.Core.Option.{none}
use Prim.Native.Nat.{ℕ}
use native.Mathlib.Omega.{arith}
use native.Mathlib.Decide.{ℕ_discrete}
use Rattle.protocol.specs.Judge.{Judged, refused, done}
use Rattle.protocol.specs.declared.Terms.{Terms}
use Rattle.protocol.specs.Tape.{is_slot}
use Rattle.protocol.specs.Deal.{Dealt, deal}
use Rattle.protocol.specs.Step.{Effect, Outcome}
use Rattle.history.specs.Ends.{Session, is_begun, due_in, terms_in, role_in, Step, begins, goes_on, run_step}
use Rattle.history.specs.Log.{choose, Party, opposite, Call, dealing, beginning, continuing, Dealing, Did, Entry, dealt, did, World, begun_in, slot_of, advance_dealing, advance_step, try_step, advance, run, untouched, holds, serving, here, place_after, place, WasDealt, WasDone, Premises}
use Rattle.history.specs.Contents.{place_words}
use Rattle.history.specs.Seen.{view}
use Rattle.history.specs.Claim.{ServedBy, OnHalf, AllOnHalves, Never, server_after, server, current, Ends, CallOf, EntryOf, DEMAND-3}
use Rattle.history.proofs.Facts.{chosen-yes, chosen-no}
use Rattle.history.proofs.Steps.{step-ends}
use Rattle.history.proofs.Kept.{Inv, inside-then, slot_by, Way, fresh, onward, Move}
use Rattle.history.proofs.Along.{along, keeps}
use Rattle.history.proofs.Named.{begun-named, begun-below}
use Rattle.history.proofs.Once.{once, one-turn}
use Rattle.history.proofs.Served.{served}
use Rattle.history.proofs.Lent.{lent-scratches}
use Rattle.history.proofs.Known.{Known}
use Rattle.history.proofs.Stands.{known, stands-secret}

-- ---- places by the log alone

place-never : (l : List Entry) (w : Party) (i : ℕ) → Never i l → place l w i ≡ untouched
place-never [] w i n = refl
place-never (dealt d ∷ l) w i n = chosen-no (ℕ_discrete d.index i) (holds d none) (place l w i) n.0 ∙ place-never l w i n.1
place-never (did e ∷ l) w i n = go (here e.party e.index w i) e.step (place-never l w i n)
  where
    go : (d : Dec ((e.party ≡ w) × (e.index ≡ i))) (k : Step) → place l w i ≡ untouched → place_after d k e.name (place l w i) ≡ untouched
    go (yes _) (begins t k) h = ap (serving e.name) h
    go (yes _) (goes_on k) h = h
    go (no _) k h = h

-- the last dealing at a slot counts
place-last : (newer older : List Entry) (d : Dealing) (w : Party) → Never d.index newer → place (newer ++ dealt d ∷ older) w d.index ≡ holds d (server newer w d.index)
place-last [] older d w n = chosen-yes (ℕ_discrete d.index d.index) (holds d none) (place older w d.index) refl
place-last (dealt d' ∷ l) older d w n = chosen-no (ℕ_discrete d'.index d.index) (holds d' none) (place (l ++ dealt d ∷ older) w d.index) n.0
    ∙ place-last l older d w n.1
place-last (did e ∷ l) older d w n = go (here e.party e.index w d.index) e.step (place-last l older d w n)
  where
    go : (c : Dec ((e.party ≡ w) × (e.index ≡ d.index))) (k : Step) → place (l ++ dealt d ∷ older) w d.index ≡ holds d (server l w d.index)
        → place_after c k e.name (place (l ++ dealt d ∷ older) w d.index) ≡ holds d (server_after c k e.name (server l w d.index))
    go (yes _) (begins t k) h = ap (serving e.name) h
    go (yes _) (goes_on k) h = h
    go (no _) k h = h

was-dealt : (newer older : List Entry) (d : Dealing) → WasDealt d (newer ++ dealt d ∷ older)
was-dealt [] older d = inl refl
was-dealt (dealt d' ∷ l) older d = inr (was-dealt l older d)
was-dealt (did e ∷ l) older d = was-dealt l older d

-- ---- entries and calls

module _ (size : Party → ℕ) (start : Party → List ℕ) (lent : ℕ → List ℕ) where
  abbrev Found : List Call → List Entry → Entry → Type 0
  Found cs older x = (later : List Call) × (c : Call) × (earlier : List Call) × (cs ≡ later ++ c ∷ earlier) × ((run size start lent earlier).log ≡ older)
      × EntryOf size x c (run size start lent earlier)

  longer : (c : Call) (cs : List Call) (older : List Entry) (x : Entry) → Found cs older x → Found (c ∷ cs) older x
  longer c cs older x f = (c ∷ f.0, f.1, f.2, ap (λ (l : List Call). c ∷ l) f.3, f.4, f.5)

  no-entry : (n older : List Entry) (x : Entry) → [] ≡ n ++ x ∷ older → ⊥
  no-entry [] older x f = let z : ◌≡◌ {A = ℕ} 0 1 = cc in omega arith
  no-entry (y ∷ n) older x f = let z : ◌≡◌ {A = ℕ} 0 1 = cc in omega arith

  -- the newest entry is the call's own
  newest : (c : Call) (cs : List Call) (older n : List Entry) (x y : Entry) → y ∷ (run size start lent cs).log ≡ n ++ x ∷ older → EntryOf size y c (run size start lent cs)
      → ((n : List Entry) → (run size start lent cs).log ≡ n ++ x ∷ older → Found cs older x) → Found (c ∷ cs) older x
  newest c cs older [] x y f e ih = ([], c, cs, refl, tail-is f, subst (λ (z : Entry). EntryOf size z c (run size start lent cs)) (head-is f) e)
    where
      head-is : y ∷ (run size start lent cs).log ≡ x ∷ older → y ≡ x
      head-is h = cc

      tail-is : y ∷ (run size start lent cs).log ≡ x ∷ older → (run size start lent cs).log ≡ older
      tail-is h = cc
  newest c cs older (z ∷ n) x y f e ih = longer c cs older x (ih n (tail-is f))
    where
      tail-is : y ∷ (run size start lent cs).log ≡ z ∷ (n ++ x ∷ older) → (run size start lent cs).log ≡ n ++ x ∷ older
      tail-is h = cc

  made_by : (cs : List Call) (newer older : List Entry) (x : Entry) → (run size start lent cs).log ≡ newer ++ x ∷ older → Found cs older x
  made_by [] newer older x = λ f. absurd (no-entry newer older x f)
  made_by (c ∷ cs) newer older x = go c (λ n f. made_by cs n older x f)
    where
      o : World
      o = run size start lent cs

      Earlier : Type 0
      Earlier = (n : List Entry) → o.log ≡ n ++ x ∷ older → Found cs older x

      entry : (w : Party) (i b n : ℕ) (k : Step) → Effect Session → Did
      entry w i b n k a = record { party = w; index = i; scratch = b; name = n; step = k; on = (run size start lent cs).state; effect = a }

      by-step : (w : Party) (i b n : ℕ) (k : Step) (c : Call) → ((a : Effect Session) → CallOf (run size start lent cs).log (entry w i b n k a) k c) → Earlier
          → (try_step size w i b n k o).log ≡ newer ++ x ∷ older → Found (c ∷ cs) older x
      by-step w i b n k c made ih = by_result (run_step k (o.state.sessions n) (slot_of size o.state.pools w i) (o.state.scratches b)) refl
        where
          by_result : (a : Outcome Session) → run_step k (o.state.sessions n) (slot_of size o.state.pools w i) (o.state.scratches b) ≡ a
              → (advance_step size w i b n k o a).log ≡ newer ++ x ∷ older → Found (c ∷ cs) older x
          by_result (refused r) e f = longer c cs older x (ih newer f)
          by_result (done a) e f = newest c cs older newer x (did (entry w i b n k a)) f (made a, refl, e) ih

      go : (c : Call) → Earlier → (advance size o c).log ≡ newer ++ x ∷ older → Found (c ∷ cs) older x
      go (dealing holder len i r) ih = by_result (deal (o.state.pools holder) (o.state.pools (opposite holder)) len i r) refl
        where
          by_result : (a : Judged Dealt) → deal (o.state.pools holder) (o.state.pools (opposite holder)) len i r ≡ a
              → (advance_dealing holder len i r o a).log ≡ newer ++ x ∷ older → Found (dealing holder len i r ∷ cs) older x
          by_result (refused n) e f = longer (dealing holder len i r) cs older x (ih newer f)
          by_result (done a) e f = newest (dealing holder len i r) cs older newer x
              (dealt (record { holder = holder; size = len; index = i; request = r; on = o.state })) f (refl, refl, a, e) ih
      go (beginning w i b t k) ih = by-step w i b (begun_in (run size start lent cs).log) (begins t k) (beginning w i b t k) (λ a. (refl, refl)) ih
      go (continuing w i b n k) ih = by-step w i b n (goes_on k) (continuing w i b n k) (λ a. refl) ih

  -- ---- every step is on its half

  on-half : (l : List Entry) (e : Did) → Premises size (did e ∷ l) → Move size start l e → OnHalf l e
  on-half l e p mv = record {
    dealing = mv.dealing;
    server = mv.server;
    stands = mv.stands;
    role-is = p.1.0.own-half mv.dealing mv.server mv.stands;
    served-by = go mv.way;
  }
    where
      go : Way size start e mv.server → ServedBy e e.step mv.server
      go (fresh t k s u a g) = subst (λ (k : Step). ServedBy e k mv.server) (sym s) u
      go (onward k s u g) = subst (λ (k : Step). ServedBy e k mv.server) (sym s) u

-- ---- ends

-- of the newest step, and of those before it
ends_more : (l : List Entry) (e : Did) → (due_in e.effect.session ≡ 0) ↔ Ends e.step → ((x : Did) → WasDone x l → (due_in x.effect.session ≡ 0) ↔ Ends x.step)
    → (x : Did) → WasDone x (did e ∷ l) → (due_in x.effect.session ≡ 0) ↔ Ends x.step
ends_more l e h o x (inl q) = subst (λ (x : Did). (due_in x.effect.session ≡ 0) ↔ Ends x.step) q h
ends_more l e h o x (inr d) = o x d

-- ---- all of it

pub demand-3 : DEMAND-3
demand-3 size start lent empty cs p = record {
  never = λ w i inside n. v.shown w i inside ∙ ap (place_words size start o.state.sessions w i) (place-never o.log w i n);
  tails = v.tails;
  last = λ w newer older d e n.
      v.shown w d.index (inside w newer older d e)
      ∙ ap (place_words size start o.state.sessions w d.index) (ap (λ (l : List Entry). place l w d.index) e ∙ place-last newer older d w n);
  sessions = (along size start empty lent (λ st l. (n : ℕ) → st.sessions n ≡ current l n) (λ n. refl) (λ l d x v q h o. o)
      (λ l e v q mv o n. ap (choose (ℕ_discrete e.name n) e.effect.session) (o n)) cs p).1;
  ends = (along size start empty lent (λ st l. (e : Did) → WasDone e l → (due_in e.effect.session ≡ 0) ↔ Ends e.step) (λ e h. absurd h) (λ l d x v q h o. o)
      (λ l e v q mv o. ends_more l e (step-ends e.step (e.on.sessions e.name) (slot_by size start e) (e.on.scratches e.scratch) e.effect mv.acted) o) cs p).1;
  named = λ n. (begun-named size start lent cs n, begun-below size start lent cs n);
  made_by = made_by size start lent cs;
  scratches = (lent-scratches size start lent empty cs p).shown;
  open-tenant = (lent-scratches size start lent empty cs p).keeps-it;
  on-halves = (along size start empty lent (λ st l. AllOnHalves l) tt (λ l d x v q h o. o) (λ l e v q mv o. (on-half size start lent l e q mv, o)) cs p).1;
  one-session = λ n n' b b' t r.
      (served size start empty lent cs p).one n n' b b' (ap (λ (t : Terms). t.tape.0) (sym (seen n b).terms-are) ∙ t ∙ ap (λ (t : Terms). t.tape.0) (seen n' b').terms-are)
      (sym (seen n b).role-is ∙ r ∙ (seen n' b').role-is);
  once = once size start empty lent cs p;
  one-turn = one-turn size start empty lent cs p;
  secret = stands-secret size start empty lent cs p;
}
  where
    o : World
    o = run size start lent cs

    v : Inv size start (run size start lent cs).state (run size start lent cs).log
    v = keeps size start empty lent cs p

    -- a dealing was at a place of both pools
    inside : (w : Party) (newer older : List Entry) (d : Dealing) → (run size start lent cs).log ≡ newer ++ dealt d ∷ older → is_slot (slot_of size start w d.index) ≡ true
    inside w newer older d e =
        let g = v.fine d (subst (WasDealt d) (sym e) (was-dealt newer older d)) in
        inside-then size start d.on.pools w d.index (g.on-size w) (g.inside w)

    seen : (n : ℕ) → is_begun ((run size start lent cs).state.sessions n) ≡ true
        → Known (role_in ((run size start lent cs).state.sessions n)) (terms_in ((run size start lent cs).state.sessions n)) (view (run size start lent cs).log n)
    seen = known size start empty lent cs p
