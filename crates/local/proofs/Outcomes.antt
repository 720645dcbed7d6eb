-- Outcomes of calls.
--   judge-map           an outcome with its effect changed
--   also-judge          further tests and a call's own are judged as one list
--   early               two lists of tests that agree up to a refusal that applies to both are judged alike
--   both-alike          the same tests behind two lists that are judged alike
--   singular-last       no refusal comes behind a singular sum; then-alike: a test of it behind two lists
--   either-done         either of two calls
--   alike               two calls whose tests are judged alike, and whose effects agree where they pass
-- Assumes nothing.
use mathlib.Core.Path.{◌≡◌, refl, sym, ap, ◌∙◌}
use mathlib.Core.Bool.{Bool, true, false, cond, false≢true}
use mathlib.Core.List.{List, [], ◌∷◌, ◌++◌}
use Prim.Native.Nat.{ℕ, ◌≤◌, ◌<◌}
use native.Mathlib.Omega.{arith}
use native.Mathlib.Decide.{dec_lt}
use lib.Dec.{ltb}
use Rattle.algebra.specs.Count.{both}
use Rattle.protocol.specs.declared.Refusal.{Refusal}
use Rattle.protocol.specs.declared.Refusal.TheVariants.{Form, Modulus, Composite, Size, Turn, Mark, Stranger, Residue, Dry, Singular}
use Rattle.protocol.specs.Judge.{place_of, place_in, refusals, Test, needs, clear, Judged, refused, done, judge, judge_by}
use Rattle.protocol.proofs.Judge.{Lowest, lowest, stops, passed, all-clear, same_place}
use Rattle.judging.specs.InOrder.{judged}
use Rattle.judging.specs.Lowest.{lower}
use Rattle.judging.proofs.Join.{judged-join}
use Rattle.entry.specs.Steps.{lower_than, also}
pub use Rattle.local.specs.Seen.{on_done, read_as, entering}

map-by : {A B : Type 0} (f : A → B) (rs : List Refusal) (ts : List Test) (a : A) → judge_by rs ts (f a) ≡ on_done f (judge_by rs ts a)
unfolding judge_by
map-by f [] ts a = refl
map-by {A} {B} f (r ∷ rs) ts a = go (clear r ts) (map-by f rs ts a)
  where
    go : (b : Bool) → judge_by rs ts (f a) ≡ on_done f (judge_by rs ts a) → cond b (judge_by rs ts (f a)) (refused r) ≡ on_done f (cond b (judge_by rs ts a) (refused r))
    go true e = e
    go false e = refl

pub judge-map : {A B : Type 0} (f : A → B) (ts : List Test) (a : A) → judge ts (f a) ≡ on_done f (judge ts a)
unfolding judge
judge-map f ts a = map-by f refusals ts a

-- a call by the verdict on its tests
pub by-verdict : {A : Type 0} (ts : List Test) (a : A) → judge ts a ≡ on_done (λ (u : Unit). a) (judged ts)
by-verdict ts a = judge-map (λ (u : Unit). a) ts tt

-- ---- further tests

pick-done : {A B : Type 0} (f : A → B) (b : Bool) (v w : Judged A) → cond b (on_done f v) (on_done f w) ≡ on_done f (cond b v w)
pick-done f true v w = refl
pick-done f false v w = refl

lower-done : {A : Type 0} (f : Unit → A) (v w : Judged Unit) → lower_than v (on_done f w) ≡ on_done f (lower v w)
lower-done f (done u) (done v) = refl
lower-done f (done u) (refused s) = refl
lower-done f (refused r) (done v) = refl
lower-done f (refused r) (refused s) = pick-done f (ltb (place_of s) (place_of r)) (refused s) (refused r)

pub also-judge : {A : Type 0} (ts us : List Test) (a : A) → also ts (judge us a) ≡ judge (ts ++ us) a
unfolding also
also-judge ts us a =
    ap (lower_than (judged ts)) (by-verdict us a)
    ∙ (lower-done (λ (u : Unit). a) (judged ts) (judged us)
    ∙ (ap (on_done (λ (u : Unit). a)) (sym (judged-join ts us)) ∙ sym (by-verdict (ts ++ us) a)))

pub also-map : {A B : Type 0} (f : A → B) (ts : List Test) (o : Judged A) → also ts (on_done f o) ≡ on_done f (also ts o)
unfolding also
also-map {A} {B} f ts o = go (judged ts) o
  where
    go : (v : Judged Unit) (o : Judged A) → lower_than v (on_done f o) ≡ on_done f (lower_than v o)
    go (done u) o = refl
    go (refused r) (done a) = refl
    go (refused r) (refused s) = pick-done f (ltb (place_of s) (place_of r)) (refused s) (refused r)

-- ---- lists that are judged alike

not-both : {b : Bool} → b ≡ true → b ≡ false → ⊥
not-both e f = false≢true (sym f ∙ e)

module _ (ts us : List Test) (r : Refusal) (same : (s : Refusal) → place_of s < place_of r → clear s ts ≡ clear s us)
    (fails : clear r ts ≡ false) (fails-too : clear r us ≡ false) where
  lowest-too : (s : Refusal) → Lowest s ts → Lowest s us
  lowest-too s l =
      elim (dec_lt (place_of r) (place_of s)) [
        | yes h ↦ absurd (not-both (l.lower r h) fails)
        | no h ↦ (elim (dec_lt (place_of s) (place_of r)) [
          | yes i ↦ record { applies = sym (same s i) ∙ l.applies; lower = λ x k. sym (same x (omega arith)) ∙ l.lower x k }
          | no i ↦ record {
            applies = ap (λ (x : Refusal). clear x us) (same_place s r (omega arith)) ∙ fails-too;
            lower = λ x k. sym (same x (omega arith)) ∙ l.lower x k;
          }
        ])
      ]

  pub early : judged ts ≡ judged us
  early = go (judged ts) refl
    where
      go : (v : Judged Unit) → judged ts ≡ v → v ≡ judged us
      go (done u) e = absurd (not-both (all-clear ts (passed ts e).0 r) fails)
      go (refused s) e = sym (stops us tt s (lowest-too s (lowest ts tt s e)))

-- behind two lists that are judged alike
pub both-alike : (ts us vs : List Test) → judged ts ≡ judged us → judged (ts ++ vs) ≡ judged (us ++ vs)
both-alike ts us vs e = judged-join ts vs ∙ (ap (λ (v : Judged Unit). lower v (judged vs)) e ∙ sym (judged-join us vs))

pub singular-last : (r : Refusal) → ltb (place_of Singular) (place_of r) ≡ false
unfolding place_of place_in
singular-last Form = refl
singular-last Modulus = refl
singular-last Composite = refl
singular-last Size = refl
singular-last Turn = refl
singular-last Mark = refl
singular-last Stranger = refl
singular-last Residue = refl
singular-last Dry = refl
singular-last Singular = refl

lower-singular : (r : Refusal) (b : Bool) → lower (refused r) (judged (needs Singular b ∷ [])) ≡ refused r
unfolding judge judge_by clear both
lower-singular r true = refl
lower-singular r false = rw (singular-last r) refl

still-refused : (ts : List Test) (b : Bool) (r : Refusal) → judged ts ≡ refused r → judged (ts ++ (needs Singular b ∷ [])) ≡ refused r
still-refused ts b r e = judged-join ts (needs Singular b ∷ []) ∙ rw e (lower-singular r b)

-- a test of 10 counts only where the others pass
pub then-alike : (ts us : List Test) (b c : Bool) → judged ts ≡ judged us → (judged ts ≡ done tt → b ≡ c)
    → judged (ts ++ (needs Singular b ∷ [])) ≡ judged (us ++ (needs Singular c ∷ []))
then-alike ts us b c e h = go (judged ts) refl
  where
    go : (v : Judged Unit) → judged ts ≡ v → judged (ts ++ (needs Singular b ∷ [])) ≡ judged (us ++ (needs Singular c ∷ []))
    go (done u) d = both-alike ts us (needs Singular b ∷ []) e ∙ ap (λ (z : Bool). judged (us ++ (needs Singular z ∷ []))) (h d)
    go (refused r) d = still-refused ts b r d ∙ sym (still-refused us c r (sym e ∙ d))

-- either of two calls
pub either-done : {A B : Type 0} (b : Bool) (f : B → A) (o u : Judged A) (p v : Judged B) → o ≡ on_done f p → u ≡ on_done f v
    → cond b o u ≡ on_done f (cond b p v)
either-done true f o u p v e h = e
either-done false f o u p v e h = h

-- two calls
pub alike : {A B : Type 0} (f : B → A) (ts us : List Test) (a : A) (b : B) → judged ts ≡ judged us → (judged ts ≡ done tt → a ≡ f b)
    → judge ts a ≡ on_done f (judge us b)
alike {A} {B} f ts us a b e h = go (judged us) refl
  where
    go : (v : Judged Unit) → judged us ≡ v → judge ts a ≡ on_done f (judge us b)
    go (refused r) z = by-verdict ts a ∙ (ap (on_done (λ (u : Unit). a)) (e ∙ z) ∙ sym (ap (on_done f) (by-verdict us b ∙ ap (on_done (λ (u : Unit). b)) z)))
    go (done u) z =
        by-verdict ts a
        ∙ (ap (on_done (λ (u : Unit). a)) (e ∙ z) ∙ (ap done (h (e ∙ z)) ∙ sym (ap (on_done f) (by-verdict us b ∙ ap (on_done (λ (u : Unit). b)) z))))
