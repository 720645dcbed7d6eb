-- Judging is making the sorted tests in order, group by group.
-- `judge-sorted`, `judged-in-groups`, `judged-in-two`: for check functions. `refused-by`, `accepted-by`: for the step that a check decides.
-- `verdict-all`: tests that passed hold. Assumes nothing.
use mathlib.Core.Path.{◌≡◌, refl, sym, ap, ap₂, ◌∙◌}
use mathlib.Core.Bool.{Bool, true, false, cond}
use mathlib.Core.List.{List, [], ◌∷◌, ◌++◌, append-nil}
use Prim.Native.Nat.{ℕ}
use native.Mathlib.Omega.{arith}
use lib.Dec.{eqb}
use Rattle.algebra.specs.Count.{both}
use Rattle.protocol.specs.declared.Refusal.{Refusal}
use Rattle.protocol.specs.Judge.{refusal_number, refusals, Test, needs, clear, Judged, refused, done, judge_by, judge}
use Rattle.protocol.proofs.Judge.{accepts, passed, All, refused≢done}
use Rattle.judging.specs.InOrder.{in_order, verdict, only, sorted_by, sorted, judged, after, in_groups, concat}

only-clear : {A : Type 0} (r : Refusal) (ts us : List Test) (a : A) → cond (clear r ts) (in_order us a) (refused r) ≡ in_order (only r ts ++ us) a
unfolding clear only in_order both
only-clear r [] us a = refl
only-clear {A} r (needs s h ∷ ts) us a = go (eqb (refusal_number r) (refusal_number s)) h (only-clear r ts us a)
  where
    go : (e h : Bool) → cond (clear r ts) (in_order us a) (refused r) ≡ in_order (only r ts ++ us) a
        → cond (both (cond e h true) (clear r ts)) (in_order us a) (refused r) ≡ in_order (cond e (needs r h ∷ only r ts) (only r ts) ++ us) a
    go true true e = e
    go true false e = refl
    go false h e = e

sorted-by : {A : Type 0} (rs : List Refusal) (ts : List Test) (a : A) → judge_by rs ts a ≡ in_order (sorted_by rs ts) a
unfolding judge_by sorted_by in_order
sorted-by [] ts a = refl
sorted-by (r ∷ rs) ts a = rw (sorted-by rs ts a) (only-clear r ts (sorted_by rs ts) a)

-- RULES 8.1, as code may keep it: by the sorted tests, the first that fails is given
pub judge-sorted : {A : Type 0} (ts : List Test) (a : A) → judge ts a ≡ in_order (sorted ts) a
unfolding judge sorted
judge-sorted ts a = sorted-by refusals ts a

-- ---- group by group

module _ {A : Type 0} where
  -- a group's refusal is that of all
  pub stops : (g us : List Test) (a : A) {r : Refusal} → verdict g ≡ refused r → in_order (g ++ us) a ≡ refused r
  unfolding in_order
  stops [] us a {r} e = absurd (let z : ◌≡◌ {A = ℕ} 0 1 = cc in omega arith)
  stops (needs s h ∷ g) us a {r} e = go h e (λ f. stops g us a f)
    where
      go : (h : Bool) → cond h (verdict g) (refused s) ≡ refused r → (verdict g ≡ refused r → in_order (g ++ us) a ≡ refused r)
          → cond h (in_order (g ++ us) a) (refused s) ≡ refused r
      go true e rec = rec e
      go false e rec = cc

  -- past a group that passed, the others decide
  pub goes_on : (g us : List Test) (a : A) → verdict g ≡ done tt → in_order (g ++ us) a ≡ in_order us a
  unfolding in_order
  goes_on [] us a e = refl
  goes_on (needs s h ∷ g) us a e = go h e (λ f. goes_on g us a f)
    where
      go : (h : Bool) → cond h (verdict g) (refused s) ≡ done tt → (verdict g ≡ done tt → in_order (g ++ us) a ≡ in_order us a)
          → cond h (in_order (g ++ us) a) (refused s) ≡ in_order us a
      go true e rec = rec e
      go false e rec = absurd (let z : ◌≡◌ {A = ℕ} 0 1 = cc in omega arith)

  -- one judgement of the tests serves any effect
  pub refused-by : (ts : List Test) (a : A) {r : Refusal} → judged ts ≡ refused r → judge ts a ≡ refused r
  refused-by ts a {r} e =
      let all : in_order (sorted ts ++ []) a ≡ refused r = stops (sorted ts) [] a (sym (judge-sorted ts tt) ∙ e) in
      judge-sorted ts a ∙ (rw append-nil at all)

  pub accepted-by : (ts : List Test) (a : A) → judged ts ≡ done tt → judge ts a ≡ done a
  accepted-by ts a e = accepts ts a (passed ts e).0

pub verdict-then : (g us : List Test) → verdict (g ++ us) ≡ after (verdict g) (verdict us)
verdict-then g us = go (verdict g) refl
  where
    go : (v : Judged Unit) → verdict g ≡ v → verdict (g ++ us) ≡ after v (verdict us)
    go (refused r) e = stops g us tt e
    go (done u) e = goes_on g us tt e

pub in-groups : (gs : List (List Test)) → verdict (concat gs) ≡ in_groups gs
unfolding concat in_order
in-groups [] = refl
in-groups (g ∷ gs) = verdict-then g (concat gs) ∙ ap (after (verdict g)) (in-groups gs)

-- the law that a check function's proof cites: its groups, in its order, are the sorted tests. `sorts` is `refl` where both are written out
pub judged-in-groups : (ts : List Test) (gs : List (List Test)) → sorted ts ≡ concat gs → judged ts ≡ in_groups gs
judged-in-groups ts gs sorts = judge-sorted ts tt ∙ ap verdict sorts ∙ in-groups gs

-- the same where one function makes the first groups and another the rest
pub judged-in-two : (ts : List Test) (gs hs : List (List Test)) → sorted ts ≡ concat gs ++ concat hs → judged ts ≡ after (in_groups gs) (in_groups hs)
judged-in-two ts gs hs sorts =
    judge-sorted ts tt ∙ ap verdict sorts ∙ verdict-then (concat gs) (concat hs) ∙ ap₂ after (in-groups gs) (in-groups hs)

-- tests that passed hold
pub verdict-all : (g : List Test) → verdict g ≡ done tt → All g
unfolding in_order
verdict-all [] e = tt
verdict-all (needs s h ∷ g) e = go h e (λ f. verdict-all g f)
  where
    go : (h : Bool) → cond h (verdict g) (refused s) ≡ done tt → (verdict g ≡ done tt → All g) → (h ≡ true) × All g
    go true e rec = (refl, rec e)
    go false e rec = absurd (refused≢done e)

-- after the last group nothing is left to test
pub after_last : (v : Judged Unit) → v ≡ after v (done tt)
after_last (refused r) = refl
after_last (done u) = refl
