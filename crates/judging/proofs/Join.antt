-- Judging two groups of tests is taking the lower of their refusals; tests whose refusals rise from phase to phase may be made phase by phase.
--   judged-true, judged-false  one test
--   judged-join    judged (ts ++ us) is the lower of both
--   judged-cons    the same test by test
--   also           the same of what check functions answered
--   first-passed   the first of two groups passed where both did
--   judged-phases  where the sorted tests are the phases' sorted tests, one after the other
--   last-phase     tests that come last may be made where the others passed
--   hands_on, goes-past  what a caller of a check function concludes
-- Assumes nothing.
use mathlib.Core.Path.{◌≡◌, refl, sym, ap, ap₂, ◌∙◌}
use mathlib.Core.Bool.{Bool, true, false, false≢true}
use mathlib.Core.List.{List, [], ◌∷◌, ◌++◌}
use Prim.Native.Nat.{◌<◌, ◌≤◌}
use native.Mathlib.Omega.{arith}
use native.Mathlib.Decide.{dec_lt}
use borrow.Author.Tests.{lt-ltb, le-ltb}
use Rattle.algebra.specs.Count.{both}
use Rattle.protocol.specs.declared.Refusal.{Refusal}
use Rattle.protocol.specs.Judge.{place_of, Test, needs, clear, Judged, refused, done}
use Rattle.protocol.proofs.Judge.{accepts, passed, all_append, all_split, lowest, stops, Lowest, clear-append, all-clear, one-fails}
use Rattle.judging.specs.InOrder.{Check}
use Rattle.std.specs.Prelude.{IsErrAnd}
use Rattle.std.proofs.lemmas.Result.{err_from_is_err_and}
use Rattle.judging.specs.InOrder.{checked, in_order, verdict, sorted, judged, after}
use Rattle.judging.proofs.InOrder.{judge-sorted, verdict-then}
use Rattle.judging.specs.Lowest.{lower, in_phases}

-- ---- one test

pub judged-true : (r : Refusal) {h : Bool} → h ≡ true → done tt ≡ judged (needs r h ∷ [])
judged-true r {h} e = sym (accepts (needs r h ∷ []) tt (e, tt))

pub judged-false : (r : Refusal) {h : Bool} → h ≡ false → refused r ≡ judged (needs r h ∷ [])
judged-false r {h} e = rw e (sym (one-fails r tt))

-- ---- two groups

both-done : (ts us : List Test) → judged ts ≡ done tt → judged us ≡ done tt → judged (ts ++ us) ≡ done tt
both-done ts us e f = accepts (ts ++ us) tt (all_append ts us (passed ts e).0 (passed us f).0)

-- r is the lowest of both where it is the lowest of the one and the other has none lower
first-lowest : (ts us : List Test) (r : Refusal) → Lowest r ts → ((s : Refusal) → place_of s < place_of r → clear s us ≡ true)
    → judged (ts ++ us) ≡ refused r
unfolding both
first-lowest ts us r l h =
    stops (ts ++ us) tt r (record {
      applies = rw (clear-append r ts us, l.applies) refl;
      lower = λ s k. rw (clear-append s ts us, l.lower s k) (h s k);
    })

second-lowest : (ts us : List Test) (r : Refusal) → Lowest r us → ((s : Refusal) → place_of s < place_of r → clear s ts ≡ true)
    → clear r ts ≡ true → judged (ts ++ us) ≡ refused r
unfolding both
second-lowest ts us r l h e =
    stops (ts ++ us) tt r (record {
      applies = rw (clear-append r ts us, e) l.applies;
      lower = λ s k. rw (clear-append s ts us, h s k) (l.lower s k);
    })

pub judged-join : (ts us : List Test) → judged (ts ++ us) ≡ lower (judged ts) (judged us)
judged-join ts us = go (judged ts) (judged us) refl refl
  where
    go : (v w : Judged Unit) → judged ts ≡ v → judged us ≡ w → judged (ts ++ us) ≡ lower v w
    go (done u) (done v) e f = both-done ts us e f
    go (done u) (refused s) e f =
        second-lowest ts us s (lowest us tt s f) (λ x k. all-clear ts (passed ts e).0 x) (all-clear ts (passed ts e).0 s)
    go (refused r) (done u) e f = first-lowest ts us r (lowest ts tt r e) (λ x k. all-clear us (passed us f).0 x)
    go (refused r) (refused s) e f = pick (dec_lt (place_of s) (place_of r))
      where
        pick : Dec (place_of s < place_of r) → judged (ts ++ us) ≡ lower (refused r) (refused s)
        pick (yes l) =
            rw (lt-ltb _ _ l)
            (second-lowest ts us s (lowest us tt s f) (λ x k. (lowest ts tt r e).lower x (omega arith)) ((lowest ts tt r e).lower s l))
        pick (no l) =
            let h : place_of r ≤ place_of s = omega arith in
            rw (le-ltb (place_of s) (place_of r) h)
            (first-lowest ts us r (lowest ts tt r e) (λ x k. (lowest us tt s f).lower x (omega arith)))

-- test by test: for `simp`, which stops at the last one
pub judged-cons : (t u : Test) (ts : List Test) → judged (t ∷ u ∷ ts) ≡ lower (judged (t ∷ [])) (judged (u ∷ ts))
judged-cons t u ts = judged-join (t ∷ []) (u ∷ ts)

-- two checks of which the code took the worse: a chain of tests is a term of `also`s
pub also : (ts us : List Test) {x v w : Judged Unit} → x ≡ lower v w → v ≡ judged ts → w ≡ judged us → x ≡ judged (ts ++ us)
also ts us e f g = e ∙ (rw (f, g) (sym (judged-join ts us)))

pub first-passed : (ts us : List Test) → judged (ts ++ us) ≡ done tt → judged ts ≡ done tt
first-passed ts us e = accepts ts tt (all_split ts us (passed (ts ++ us) e).0).0

-- ---- phases

abbrev pub sorted_phases : List (List Test) → List Test
sorted_phases [] = []
sorted_phases (p ∷ ps) = sorted p ++ sorted_phases ps

phases : (ps : List (List Test)) → verdict (sorted_phases ps) ≡ in_phases ps
unfolding in_order
phases [] = refl
phases (p ∷ ps) = verdict-then (sorted p) (sorted_phases ps) ∙ ap₂ after (sym (judge-sorted p tt)) (phases ps)

pub judged-phases : (ts : List Test) (ps : List (List Test)) → sorted ts ≡ sorted_phases ps → judged ts ≡ in_phases ps
judged-phases ts ps e = judge-sorted ts tt ∙ ap verdict e ∙ phases ps

-- tests of which none comes before r, made where those that do not come after it passed
pub last-phase : (r : Refusal) (ts us : List Test) → ((s : Refusal) → place_of r < place_of s → clear s ts ≡ true) → ((s : Refusal) → place_of s < place_of r → clear s us ≡ true)
    → judged (ts ++ us) ≡ after (judged ts) (judged us)
last-phase r ts us h k = judged-join ts us ∙ go (judged ts) refl
  where
    -- what is refused among ts does not come after r, and so not after any of us
    go : (v : Judged Unit) → judged ts ≡ v → lower v (judged us) ≡ after v (judged us)
    go (done u) e = refl
    go (refused s) e = pick (judged us) refl
      where
        not-later : place_of s ≤ place_of r
        not-later =
            elim (dec_lt (place_of r) (place_of s)) [
              | yes l ↦ absurd (false≢true (sym (lowest ts tt s e).applies ∙ h s l))
              | no l ↦ omega arith
            ]

        pick : (w : Judged Unit) → judged us ≡ w → lower (refused s) w ≡ refused s
        pick (done u) f = refl
        pick (refused x) f =
            let least : place_of r ≤ place_of x = elim (dec_lt (place_of x) (place_of r)) [
              | yes l ↦ absurd (false≢true (sym (lowest us tt x f).applies ∙ k x l))
              | no l ↦ omega arith
            ] in
            rw (le-ltb (place_of x) (place_of s) (omega (arith, not-later)))

-- ---- an inner answer, handed on or passed

pub hands_on : (x : Check) {r : Refusal} {v : Judged Unit} (w : Judged Unit) → IsErrAnd x (λ s. s ≡ r) → refused r ≡ v → checked x ≡ after v w
hands_on x {r} {v} w gives e = let p = err_from_is_err_and x gives in rw (p.1, p.2, sym e) refl

pub goes-past : {v w : Judged Unit} → done tt ≡ v → after v w ≡ w
goes-past {v} {w} e = rw (sym e) refl
