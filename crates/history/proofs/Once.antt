-- Each step of a session was accepted once at most, and so was one at each turn.
--   Turned, turned-some       a label whose turn is past once a step with it was accepted
--   Once, move-once           a turn that is past stays past, whatever labels a step has
--   once, one-turn            the labels of the claim: the step's kind, and the message kind that was due
-- Assumes nothing.
use mathlib.Core.Path.{◌≡◌, refl, sym, ap, ◌∙◌, subst, subst₂}
use mathlib.Core.Logic.{◌⊎◌, inl, inr}
use mathlib.Core.Bool.{true}
use mathlib.Core.List.{List, ◌∷◌}
use mathlib.Core.Option.{Option, some, none}
use Prim.Native.Nat.{ℕ, zero, suc, ◌≤◌, ◌<◌}
use native.Mathlib.Omega.{arith}
use native.Mathlib.Decide.{ℕ_discrete, dec_lt}
use Rattle.history.specs.Ends.{is_begun, due_in, terms_in, Step, StepKind, kind-eq, Turn, opens, awaits, drops, row, kind_of}
use Rattle.history.specs.Log.{choose, both?, Party, State, Call, Did, Entry, did, run, Premises}
use Rattle.history.specs.Claim.{times_by, times_of, times, Empty}
use Rattle.history.proofs.Accepted.{first_row, later_row, later_next, InTurn}
use Rattle.history.proofs.Facts.{set_same, set_other, absent≢}
use Rattle.history.proofs.Kept.{Inv, state_after, Way, fresh, onward, Move}
use Rattle.history.proofs.Along.{along}

-- ---- turns

-- the turn t is past where a later message is due; a drop has no turn of its own, and is past where none is due
abbrev After : Option ℕ → (due : ℕ) → Type 0
After none due = ⊥
After (some t) due = t < due

-- a step at this turn: it wasn't past in the open session, and is past after it
abbrev Turned : Option ℕ → (due due' : ℕ) → Type 0
Turned t due due' = (After t due → ⊥) × ((due' ≡ 0) ⊎ After t due')

stays_after : (t : Option ℕ) (due due' : ℕ) → due < due' → After t due → After t due'
stays_after none due due' h a = a
stays_after (some t) due due' h a = omega (arith, h, a)

turned-some : (t due due' : ℕ) → due ≡ t → (due' ≡ 0) ⊎ (due < due') → Turned (some t) due due'
turned-some t due due' e (inl z) = (λ a. omega (arith, a, e), inl z)
turned-some t due due' e (inr z) = (λ a. omega (arith, a, e), inr (omega (arith, z, e)))

turned-first : (due due' : ℕ) → due ≡ 0 → Turned (some due) due due'
turned-first due zero e = turned-some due due 0 refl (inl refl)
turned-first due (suc due') e = turned-some due due (suc due') refl (inr (omega (arith, e)))

-- ---- steps with labels

module _ (size : Party → ℕ) (start : Party → List ℕ) where
  abbrev due : Did → ℕ
  due e = due_in (e.on.sessions e.name)

  module _ {A : Type 0} (same : (a b : A) → Dec (a ≡ b)) (label : Did → A) (turn : A → Option ℕ)
      (turned : (l : List Entry) (e : Did) → Move size start l e → Turned (turn (label e)) (due e) (due_in e.effect.session)) where
    abbrev count : ℕ → A → List Entry → ℕ
    count n a l = times_by same label n a l

    abbrev Past : State → ℕ → A → Type 0
    Past st n a = (is_begun (st.sessions n) ≡ true) × ((due_in (st.sessions n) ≡ 0) ⊎ After (turn a) (due_in (st.sessions n)))

    record Once (st : State) (l : List Entry) : Type 0 where
      pub at_most : (n : ℕ) (a : A) → count n a l ≤ 1
      pub past : (n : ℕ) (a : A) → 0 < count n a l → Past st n a

    move-once : (l : List Entry) (e : Did) → Inv size start e.on l → Premises size (did e ∷ l) → Move size start l e → Once e.on l
        → Once (state_after size start e) (did e ∷ l)
    move-once l e v p mv o = record { at_most = most; past = after }
      where
        never : 0 < count e.name (label e) l → ⊥
        never t = go mv.way (o.past e.name (label e) t)
          where
            go : Way size start e mv.server → Past e.on e.name (label e) → ⊥
            go (fresh t k s q a b) c = absent≢ a c.0
            go (onward k s q g) c = elim c.1 [ inl z ↦ omega (arith, z, g.session-open.is_open) | inr z ↦ (turned l e mv).0 z ]

        most : (n : ℕ) (a : A) → count n a (did e ∷ l) ≤ 1
        most n d = go (ℕ_discrete e.name n) (same (label e) d)
          where
            go : (a : Dec (e.name ≡ n)) (b : Dec (label e ≡ d)) → choose (both? a b) (suc (count n d l)) (count n d l) ≤ 1
            go (yes a) (yes b) = subst₂ (λ (n : ℕ) (d : A). suc (count n d l) ≤ 1) a b
                (elim (dec_lt 0 (count e.name (label e) l)) [ yes t ↦ absurd (never t) | no n ↦ omega arith ])
            go (yes a) (no b) = o.at_most n d
            go (no a) b = o.at_most n d

        -- the session of the step, after it: a turn that was past stays past, and that of the step is past
        is-now : (state_after size start e).sessions e.name ≡ e.effect.session
        is-now = set_same e.name e.effect.session e.on.sessions

        stays : (d : A) → (0 < count e.name d l) ⊎ (label e ≡ d) → Past (state_after size start e) e.name d
        stays d h = rw is-now (mv.agrees.is-begun, go mv.way h)
          where
            go : Way size start e mv.server → (0 < count e.name d l) ⊎ (label e ≡ d) → (due_in e.effect.session ≡ 0) ⊎ After (turn d) (due_in e.effect.session)
            go w (inr c) = subst (λ (d : A). (due_in e.effect.session ≡ 0) ⊎ After (turn d) (due_in e.effect.session)) c (turned l e mv).1
            go (fresh t k s q a b) (inl c) = absent≢ a (o.past e.name d c).0
            go (onward k s q g) (inl c) = elim (o.past e.name d c).1 [
              | inl z ↦ absurd (omega (arith, z, g.session-open.is_open))
              | inr y ↦ elim g.moved [ inl z ↦ inl z | inr z ↦ inr (stays_after (turn d) (due e) (due_in e.effect.session) z y) ]
            ]

        after : (n : ℕ) (a : A) → 0 < count n a (did e ∷ l) → Past (state_after size start e) n a
        after n d = go (ℕ_discrete e.name n) (same (label e) d)
          where
            go : (a : Dec (e.name ≡ n)) (b : Dec (label e ≡ d)) → 0 < choose (both? a b) (suc (count n d l)) (count n d l) → Past (state_after size start e) n d
            go (yes a) (yes b) t = subst (λ (n : ℕ). Past (state_after size start e) n d) a (stays d (inr b))
            go (yes a) (no b) t = subst (λ (n : ℕ). 0 < count n d l → Past (state_after size start e) n d) a (λ t. stays d (inl t)) t
            go (no a) b t = rw (set_other e.name e.effect.session e.on.sessions n (λ q. a (sym q))) (o.past n d t)

    labelled : Empty size start → (lent : ℕ → List ℕ) (cs : List Call) → Premises size (run size start lent cs).log → (n : ℕ) (a : A) → count n a (run size start lent cs).log ≤ 1
    labelled empty lent cs p =
        (along size start empty lent Once (record { at_most = λ n d. omega arith; past = λ n d t. absurd (omega arith) })
        (λ l d x v q h o. record { at_most = o.at_most; past = o.past }) move-once cs p).1.at_most

  -- ---- by the message kind that was due

  due-turned : (l : List Entry) (e : Did) → Move size start l e → Turned (some (due e)) (due e) (due_in e.effect.session)
  due-turned l e mv = go mv.way
    where
      go : Way size start e mv.server → Turned (some (due e)) (due e) (due_in e.effect.session)
      go (fresh t k s q a b) = turned-first (due e) (due_in e.effect.session) (ap due_in a)
      go (onward k s q g) = turned-some (due e) (due e) (due_in e.effect.session) refl g.moved

  pub one-turn : Empty size start → (lent : ℕ → List ℕ) (cs : List Call) → Premises size (run size start lent cs).log → (n d : ℕ) → times n d (run size start lent cs).log ≤ 1
  one-turn = labelled ℕ_discrete due some due-turned

  -- ---- by the step

  abbrev turn_by : Turn → (takes : ℕ) → Option ℕ
  turn_by opens takes = some 0
  turn_by awaits takes = some takes
  turn_by drops takes = none

  abbrev turn_of : StepKind → Option ℕ
  turn_of k = turn_by (row k).turn (row k).takes

  first-turned : (turn : Turn) (takes d d' : ℕ) → turn ≡ opens → d ≡ 0 → Turned (turn_by turn takes) d d'
  first-turned turn takes d d' e z = subst₂ (λ (t : Turn) (n : ℕ). Turned (turn_by t takes) n d') (sym e) (sym z) (turned-first 0 d' refl)

  later-turned : (turn : Turn) (takes next d d' : ℕ) → InTurn turn takes next d → d' ≡ next → (d' ≡ 0) ⊎ (d < d') → Turned (turn_by turn takes) d d'
  later-turned opens takes next d d' t e m = absurd t
  later-turned awaits takes next d d' t e m = turned-some takes d d' t.0 m
  later-turned drops takes next d d' t e m = (λ a. a, inl (e ∙ t))

  step-turned : (l : List Entry) (e : Did) → Move size start l e → Turned (turn_of (kind_of e.step)) (due e) (due_in e.effect.session)
  step-turned l e mv = go mv.way
    where
      Goal : Step → Type 0
      Goal k = Turned (turn_of (kind_of k)) (due_in (e.on.sessions e.name)) (due_in e.effect.session)

      go : Way size start e mv.server → Goal e.step
      go (fresh t k s q a b) =
          subst Goal (sym s) (first-turned (first_row k).turn (first_row k).takes (due e) (due_in e.effect.session) b.turn_is (ap due_in a))
      go (onward k s q g) =
          subst Goal (sym s)
          (later-turned (later_row k).turn (later_row k).takes (later_next k (terms_in (e.on.sessions e.name))) (due e) (due_in e.effect.session)
          g.in-turn g.due-is g.moved)

  pub once : Empty size start → (lent : ℕ → List ℕ) (cs : List Call) → Premises size (run size start lent cs).log → (n : ℕ) (k : StepKind)
      → times_of n k (run size start lent cs).log ≤ 1
  once = labelled kind-eq (λ e. kind_of e.step) turn_of step-turned
