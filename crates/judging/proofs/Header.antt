-- Tests of one refusal, made together: of a tape's header, and of a message's head.
--   tape-as-two, same-as-one
-- Assumes nothing.
use mathlib.Core.Path.{◌≡◌, refl, sym, ap, ◌∙◌}
use mathlib.Core.Bool.{Bool, true, false, cond}
use mathlib.Core.List.{List, [], ◌∷◌}
use Prim.Native.Nat.{ℕ}
use lib.Dec.{eqb}
use Rattle.algebra.specs.Count.{both}
use Rattle.protocol.specs.declared.Terms.{Terms}
use Rattle.protocol.specs.declared.Head.{Head}
use Rattle.protocol.specs.declared.Refusal.TheVariants.{Mark, Stranger}
use Rattle.protocol.specs.Judge.{refusals, is_same, needs, clear, judge}
use Rattle.protocol.specs.Tape.{Role, status_of, tape_tests}
use Rattle.protocol.proofs.Judge.{same-judge}
use Rattle.tape.specs.Bears.{numbers_are, bears}
use Rattle.judging.specs.InOrder.{judged}
use Rattle.judging.specs.Groups.{same_tests, same_terms}

-- tests of one refusal, one after the other: `all` joins their facts
merge : (e a b : Bool) {x : Bool} → x ≡ cond e b true → both (cond e a true) x ≡ cond e (both a b) true
unfolding both
merge true true b h = h
merge true false b h = refl
merge false a b h = h

last : (e b : Bool) → both (cond e b true) true ≡ cond e b true
unfolding both
last true true = refl
last true false = refl
last false b = refl

pub tape-as-two : (role : Role) (status : ℕ) (t : Terms) (ws : List ℕ)
    → judged (tape_tests role status t ws) ≡ judged (needs Mark (eqb (status_of ws) status) ∷ needs Stranger (bears role t ws) ∷ [])
unfolding judge tape_tests bears numbers_are clear
tape-as-two role status t ws =
    same-judge refusals _ _ tt (λ r.
    let e = is_same r Stranger in
    ap (both (cond (is_same r Mark) (eqb (status_of ws) status) true))
    (merge e _ _ (merge e _ _ (merge e _ _ (merge e _ _ (merge e _ _ (last e _))))) ∙ sym (last e _)))

pub same-as-one : (a : Head) (t : Terms) → judged (same_tests a t) ≡ judged (needs Stranger (same_terms a.terms t) ∷ [])
unfolding judge same_tests same_terms clear
same-as-one a t =
    same-judge refusals _ _ tt (λ r.
    let e = is_same r Stranger in
    merge e _ _ (merge e _ _ (merge e _ _ (merge e _ _ (merge e _ _ (last e _))))) ∙ sym (last e _))
