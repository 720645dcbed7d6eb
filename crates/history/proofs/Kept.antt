-- The invariant: the pools hold what the log says, and every open session has its half. It is kept by every accepted call.
--   Agrees, Home              a session and its half
--   Inv                       the invariant
--   Move, move-keeps          a step on a half, whatever its kind
--   deal-keeps                a dealing
-- Assumes nothing.
use mathlib.Core.Path.{◌≡◌, refl, sym, ap, ◌∙◌, subst, subst₂, subst₃}
use mathlib.Core.Logic.{◌≢◌, ◌⊎◌, inl, inr}
use mathlib.Core.Bool.{true}
use mathlib.Core.List.{List, ◌∷◌}
use mathlib.Core.Option.{Option, some, none}
use Prim.Native.Nat.{ℕ, zero, suc, ◌+◌, ◌*◌, ◌/◌, ◌≤◌, ◌<◌}
use native.Mathlib.Omega.{arith}
use native.Mathlib.Decide.{ℕ_discrete}
use lib.ListN.{length, drop}
use Rattle.algebra.specs.Matrix.{zeros}
use Rattle.algebra.specs.Count.{join}
use Rattle.algebra.proofs.Lists.{length-tabulate}
use Rattle.algebra.proofs.Parts.{fits-join}
use Rattle.protocol.specs.declared.Terms.{Terms}
use Rattle.protocol.specs.Judge.{done}
use Rattle.protocol.specs.Tape.{header_size, Slot, is_slot, slot_words, pool_with, status_of, EMPTY, READY, IN-USE, SPENT, Role, body_size, tape_size, words_in_use, words_spent}
use Rattle.protocol.specs.Deal.{is_free, Dealt, deal}
use Rattle.protocol.proofs.Slots.{slot-length}
use Rattle.history.specs.Ends.{Session, absent, is_begun, due_in, terms_in, role_in, First, Later, begins, goes_on, run_step}
use Rattle.history.specs.Log.{choose, set_at, Party, party-eq, opposite, State, Dealing, Did, Entry, dealt, did, slot_of, after_dealing, after_step, half_role, Place, untouched, holds, serving, here, place_after, place, WasDealt, number_of, Distinct, Stated}
use Rattle.history.specs.Contents.{half, tape_on, served_words, half_words, place_words}
use Rattle.history.proofs.Words.{length-pool, same-slot, other-slot, tail-stays, tape-status, length-tape, tape-marked, tape-spent}
use Rattle.history.proofs.Accepted.{leave_first, leave_later, Begins, Continues}
use Rattle.history.proofs.Facts.{chosen-yes, chosen-no, set_same, set_other, none≢, absent≢, same-dealing, same-server, same_some, elsewhere, begun-here, gone-on, place-known, one-half}
use Rattle.history.proofs.Dealt.{Fine, dealt-fine, dealt-pools}

-- ---- a session and its half

pub record Agrees (x : Session) (w : Party) (d : Dealing) : Type 0 where
  pub is-begun : is_begun x ≡ true
  pub role-is : role_in x ≡ half_role w d
  pub tape-is : (terms_in x).tape.0 ≡ number_of d
  pub q-is : (terms_in x).q ≡ d.request.q
  pub m-is : (terms_in x).m ≡ d.request.m
  pub k-is : (terms_in x).k ≡ d.request.k
  pub p-is : (terms_in x).p ≡ d.request.p

-- only role and terms count
pub agrees_on : {x x' : Session} {w : Party} {d : Dealing} → is_begun x' ≡ true → role_in x' ≡ role_in x → terms_in x' ≡ terms_in x → Agrees x w d → Agrees x' w d
agrees_on b r t a = record {
  is-begun = b;
  role-is = r ∙ a.role-is;
  tape-is = ap (λ (t : Terms). t.tape.0) t ∙ a.tape-is;
  q-is = ap (λ (t : Terms). t.q) t ∙ a.q-is;
  m-is = ap (λ (t : Terms). t.m) t ∙ a.m-is;
  k-is = ap (λ (t : Terms). t.k) t ∙ a.k-is;
  p-is = ap (λ (t : Terms). t.p) t ∙ a.p-is;
}

-- the half that a session is on
pub record Home (l : List Entry) (n : ℕ) : Type 0 where
  pub party : Party
  pub index : ℕ
  pub dealing : Dealing
  pub stands : place l party index ≡ holds dealing (some n)

-- ---- marks tell a place's life

number≢ : {A : Type 0} (a b : ℕ) → a ≢ b → a ≡ b → A
number≢ a b n e = absurd (n e)

served-status : (w : Party) (d : Dealing) (due : ℕ) (before : List ℕ) → (status_of (served_words w d due before) ≡ SPENT) ⊎ (status_of (served_words w d due before) ≡ IN-USE)
served-status w d zero before = inl (tape-status _ _ d before)
served-status w d (suc _) before = inr (tape-status _ _ d before)

pub open-status : (w : Party) (d : Dealing) (due : ℕ) (before : List ℕ) → 0 < due → status_of (served_words w d due before) ≡ IN-USE
open-status w d zero before h = absurd (omega arith)
open-status w d (suc _) before h = tape-status _ _ d before

pub used-open : (w : Party) (d : Dealing) (due : ℕ) (before : List ℕ) → status_of (served_words w d due before) ≡ IN-USE → 0 < due
used-open w d zero before h = absurd (let z : SPENT ≡ IN-USE = sym (tape-status _ _ d before) ∙ h in omega (arith, z))
used-open w d (suc _) before h = omega arith

module _ (size : Party → ℕ) (start : Party → List ℕ) where
  module _ (sessions : ℕ → Session) (w : Party) (i : ℕ) (empty : status_of (slot_words (slot_of size start w i)) ≡ EMPTY) where
    pub ready-place : (c : Place) → status_of (place_words size start sessions w i c) ≡ READY → (d : Dealing) × (c ≡ holds d none)
    ready-place untouched h = absurd (omega (arith, empty, h))
    ready-place (holds d none) h = (d, refl)
    ready-place (holds d (some n)) h = absurd (elim (served-status w d (due_in (sessions n)) (slot_words (slot_of size d.on.pools w i))) [
      | inl z ↦ omega
          (arith, z, h)
      | inr z ↦ omega (arith, z, h)
    ])

    pub used-place : (c : Place) → status_of (place_words size start sessions w i c) ≡ IN-USE → (d : Dealing) × (n : ℕ) × (c ≡ holds d (some n))
    used-place untouched h = absurd (omega (arith, empty, h))
    used-place (holds d none) h = absurd (let z : READY ≡ IN-USE = sym (tape-status _ _ d (slot_words (slot_of size d.on.pools w i))) ∙ h in omega (arith, z))
    used-place (holds d (some n)) h = (d, n, refl)

  -- a place that this session doesn't serve looks the same whatever becomes of the session
  unaffected : (sessions : ℕ → Session) (n : ℕ) (x : Session) (w : Party) (i : ℕ) (c : Place) → ((d : Dealing) → c ≡ holds d (some n) → ⊥)
      → place_words size start (set_at n x sessions) w i c ≡ place_words size start sessions w i c
  unaffected sessions n x w i untouched h = refl
  unaffected sessions n x w i (holds d none) h = refl
  unaffected sessions n x w i (holds d (some n')) h =
      ap (λ (y : Session). served_words w d (due_in y) (slot_words (slot_of size d.on.pools w i))) (set_other n x sessions n' (λ q. h d (ap (λ (n : ℕ). holds d (some n)) q)))

  -- ---- the invariant

  pub record Inv (st : State) (l : List Entry) : Type 0 where
    pub sizes : (w : Party) → length (st.pools w) ≡ length (start w)
    pub shown : (w : Party) (i : ℕ) → is_slot (slot_of size start w i) ≡ true → slot_words (slot_of size st.pools w i) ≡ place_words size start st.sessions w i (place l w i)
    pub tails : (w : Party) → drop (length (start w) / size w * size w) (st.pools w) ≡ drop (length (start w) / size w * size w) (start w)
    pub fine : (d : Dealing) → WasDealt d l → Fine size start d
    pub taken : (w : Party) (i : ℕ) (d : Dealing) (n : ℕ) → place l w i ≡ holds d (some n) → Agrees (st.sessions n) w d
    pub home : (n : ℕ) → 0 < due_in (st.sessions n) → Home l n

  inside-now : {st : State} {l : List Entry} → Inv st l → (w : Party) (i : ℕ) → is_slot (slot_of size start w i) ≡ true → is_slot (slot_of size st.pools w i) ≡ true
  unfolding is_slot
  inside-now v w i h = rw (v.sizes w) h

  pub inside-then : (pools : Party → List ℕ) (w : Party) (i : ℕ) → length (pools w) ≡ length (start w) → is_slot (slot_of size pools w i) ≡ true
      → is_slot (slot_of size start w i) ≡ true
  unfolding is_slot
  inside-then pools w i e h = rw (← e) h

  pub inside-start : {st : State} {l : List Entry} → Inv st l → (w : Party) (i : ℕ) → is_slot (slot_of size st.pools w i) ≡ true → is_slot (slot_of size start w i) ≡ true
  inside-start {st} v w i h = inside-then st.pools w i (v.sizes w) h

  -- every life of a tape fills its slot
  module _ (d : Dealing) (g : Fine size start d) (w : Party) where
    abbrev before : List ℕ
    before = slot_words (slot_of size d.on.pools w d.index)

    abbrev role : Role
    role = half_role w d

    pub half_length : length (join (half w d)) ≡ body_size role d.request.m d.request.k d.request.p
    unfolding body_size
    half_length = (fits-join (g.fits w)).size

    room : header_size + body_size role d.request.m d.request.k d.request.p ≤ length before
    unfolding tape_size
    room = omega (arith, g.room w, slot-length (slot_of size d.on.pools w d.index) (g.inside w))

    before-length : length before ≡ size w
    before-length = slot-length (slot_of size d.on.pools w d.index) (g.inside w)

    pub ready-length : (status : ℕ) → length (tape_on status (join (half w d)) d before) ≡ size w
    ready-length status = length-tape _ _ d _ (omega (arith, room, half_length)) ∙ before-length

    pub served-length : (due : ℕ) → length (served_words w d due before) ≡ size w
    served-length zero =
        length-tape _ _ d _ (omega (arith, room, length-zeros)) ∙ before-length
      where
        length-zeros : length (zeros (body_size role d.request.m d.request.k d.request.p)) ≡ body_size role d.request.m d.request.k d.request.p
        length-zeros = unfold zeros in length-tabulate _ (λ i. 0)
    served-length (suc _) = ready-length IN-USE

    same_body : (t : Terms) → t.m ≡ d.request.m → t.k ≡ d.request.k → t.p ≡ d.request.p → length (join (half w d)) ≡ body_size role t.m t.k t.p
    same_body t em ek ep = rw (em, ek, ep) half_length

    spent-is : (s : Slot) (status : ℕ) (t : Terms) → t.m ≡ d.request.m → t.k ≡ d.request.k → t.p ≡ d.request.p
        → slot_words s ≡ tape_on status (join (half w d)) d before → words_spent role t (slot_words s) ≡ served_words w d 0 before
    unfolding words_spent
    spent-is s status t em ek ep e = rw (e, em, ek, ep) (tape-spent _ _ d _ _ half_length)

    -- what a first step leaves on a ready half, and a later one on a half in use
    pub first-leaves : (s : Slot) (t : Terms) (due : ℕ) → t.m ≡ d.request.m → t.k ≡ d.request.k → t.p ≡ d.request.p
        → slot_words s ≡ tape_on READY (join (half w d)) d before → leave_first due role t s ≡ served_words w d due before
    unfolding words_in_use
    first-leaves s t zero em ek ep e = spent-is s READY t em ek ep e
    first-leaves s t (suc _) em ek ep e = rw e (tape-marked _ _ d _ IN-USE)

    pub later-leaves : (s : Slot) (t : Terms) (due : ℕ) → t.m ≡ d.request.m → t.k ≡ d.request.k → t.p ≡ d.request.p
        → slot_words s ≡ tape_on IN-USE (join (half w d)) d before → leave_later due role t s ≡ served_words w d due before
    later-leaves s t zero em ek ep e = spent-is s IN-USE t em ek ep e
    later-leaves s t (suc _) em ek ep e = e

  -- ---- a step on a half, whatever its kind

  abbrev pub slot_by : Did → Slot
  slot_by e = slot_of size e.on.pools e.party e.index

  abbrev pub state_after : Did → State
  state_after e = after_step size e.party e.index e.scratch e.name e.effect e.on

  -- it begins a session on a half that none served, or goes on with the one that the half serves
  pub data Way (e : Did) (o : Option ℕ) : Type 0 where
    fresh : (t : Terms) (k : First) → e.step ≡ begins t k → o ≡ none → e.on.sessions e.name ≡ absent → Begins t k (slot_by e) e.effect → Way e o
    onward : (k : Later) → e.step ≡ goes_on k → o ≡ some e.name → Continues k (e.on.sessions e.name) (slot_by e) e.effect → Way e o

  pub record Move (l : List Entry) (e : Did) : Type 0 where
    pub dealing : Dealing
    pub server : Option ℕ
    pub stands : place l e.party e.index ≡ holds dealing server
    pub inside : is_slot (slot_of size start e.party e.index) ≡ true
    pub agrees : Agrees e.effect.session e.party dealing
    pub way : Way e server
    pub acted : run_step e.step (e.on.sessions e.name) (slot_by e) (e.on.scratches e.scratch) ≡ done e.effect

  module _ (l : List Entry) (e : Did) (v : Inv e.on l) (distinct : Distinct l) (mv : Move l e) where
    abbrev d₀ : Dealing
    d₀ = mv.dealing

    known : WasDealt d₀ l × (d₀.index ≡ e.index)
    known = place-known l e.party e.index mv.stands

    good : Fine size start d₀
    good = v.fine d₀ known.0

    abbrev was : List ℕ
    was = slot_words (slot_of size d₀.on.pools e.party e.index)

    at-index : slot_words (slot_of size d₀.on.pools e.party d₀.index) ≡ was
    at-index = ap (λ (i : ℕ). slot_words (slot_of size d₀.on.pools e.party i)) known.1

    -- the slot's words before the step
    pub words-before : slot_words (slot_by e) ≡ half_words e.on.sessions e.party d₀ mv.server was
    words-before = v.shown e.party e.index mv.inside ∙ ap (place_words size start e.on.sessions e.party e.index) mv.stands

    pub ready-before : mv.server ≡ none → slot_words (slot_by e) ≡ tape_on READY (join (half e.party d₀)) d₀ was
    ready-before h = words-before ∙ ap (λ (o : Option ℕ). half_words e.on.sessions e.party d₀ o was) h

    pub used-before : mv.server ≡ some e.name → 0 < due_in (e.on.sessions e.name) → slot_words (slot_by e) ≡ tape_on IN-USE (join (half e.party d₀)) d₀ was
    used-before h o = words-before ∙ ap (λ (o : Option ℕ). half_words e.on.sessions e.party d₀ o was) h ∙ go (due_in (e.on.sessions e.name)) o
      where
        go : (due : ℕ) → 0 < due → served_words e.party d₀ due was ≡ tape_on IN-USE (join (half e.party d₀)) d₀ was
        go zero p = absurd (omega arith)
        go (suc _) p = refl

    -- and after it
    words-after : e.effect.slot ≡ served_words e.party d₀ (due_in e.effect.session) was
    words-after = go mv.way
      where
        due : ℕ
        due = due_in e.effect.session

        at : served_words e.party d₀ due (slot_words (slot_of size d₀.on.pools e.party d₀.index)) ≡ served_words e.party d₀ due was
        at = ap (served_words e.party d₀ due) at-index

        go : Way e mv.server → e.effect.slot ≡ served_words e.party d₀ due was
        go (fresh t k s o a b) =
            let em : t.m ≡ d₀.request.m = ap (λ (t : Terms). t.m) (sym b.terms-are) ∙ mv.agrees.m-is in
            let ek : t.k ≡ d₀.request.k = ap (λ (t : Terms). t.k) (sym b.terms-are) ∙ mv.agrees.k-is in
            let ep : t.p ≡ d₀.request.p = ap (λ (t : Terms). t.p) (sym b.terms-are) ∙ mv.agrees.p-is in
            b.wrote
            ∙ ap (λ (r : Role). leave_first due r t (slot_by e)) (sym b.role-is ∙ mv.agrees.role-is)
            ∙ first-leaves d₀ good e.party (slot_by e) t due em ek ep (ready-before o ∙ ap (tape_on READY (join (half e.party d₀)) d₀) (sym at-index))
            ∙ at
        go (onward k s o c) =
            let t = terms_in (e.on.sessions e.name) in
            let em : t.m ≡ d₀.request.m = ap (λ (t : Terms). t.m) (sym c.terms-are) ∙ mv.agrees.m-is in
            let ek : t.k ≡ d₀.request.k = ap (λ (t : Terms). t.k) (sym c.terms-are) ∙ mv.agrees.k-is in
            let ep : t.p ≡ d₀.request.p = ap (λ (t : Terms). t.p) (sym c.terms-are) ∙ mv.agrees.p-is in
            c.wrote
            ∙ ap (λ (r : Role). leave_later due r t (slot_by e)) (sym c.role-is ∙ mv.agrees.role-is)
            ∙ later-leaves d₀ good e.party (slot_by e) t due em ek ep
            (used-before o c.session-open.is_open ∙ ap (tape_on IN-USE (join (half e.party d₀)) d₀) (sym at-index))
            ∙ at

    whole : length e.effect.slot ≡ size e.party
    whole = ap length (words-after ∙ ap (served_words e.party d₀ (due_in e.effect.session)) (sym at-index)) ∙ served-length d₀ good e.party (due_in e.effect.session)

    inside-here : is_slot (slot_by e) ≡ true
    inside-here = inside-now v e.party e.index mv.inside

    -- no other half serves this session, and this half no other session
    pub only : (w : Party) (i : ℕ) (d : Dealing) → place l w i ≡ holds d (some e.name) → (e.party ≡ w) × (e.index ≡ i)
    only w i d f = go mv.way
      where
        b : Agrees (e.on.sessions e.name) w d
        b = v.taken w i d e.name f

        go : Way e mv.server → (e.party ≡ w) × (e.index ≡ i)
        go (fresh t k s o a x) = absent≢ a b.is-begun
        go (onward k s o c) =
            let here-too = mv.stands ∙ ap (holds d₀) o in
            let a = v.taken e.party e.index d₀ e.name here-too in
            one-half l distinct e.party w e.index i here-too f (sym a.tape-is ∙ b.tape-is) (sym a.role-is ∙ b.role-is)

    mine : (n : ℕ) → mv.server ≡ some n → n ≡ e.name
    mine n h = go mv.way
      where
        go : Way e mv.server → n ≡ e.name
        go (fresh t k s o a x) = none≢ (sym o ∙ h)
        go (onward k s o c) = same_some (sym h ∙ o)

    -- the places after it
    pub place-now : place (did e ∷ l) e.party e.index ≡ holds d₀ (some e.name)
    place-now = go mv.way
      where
        h : Dec ((e.party ≡ e.party) × (e.index ≡ e.index))
        h = here e.party e.index e.party e.index

        go : Way e mv.server → place_after h e.step e.name (place l e.party e.index) ≡ holds d₀ (some e.name)
        go (fresh t k s o a x) = begun-here h e.step e.name (place l e.party e.index) s (refl, refl) ∙ ap (serving e.name) mv.stands
        go (onward k s o c) = gone-on h e.step e.name (place l e.party e.index) s ∙ mv.stands ∙ ap (holds d₀) o

    pub place-else : (w : Party) (i : ℕ) → ¬ ((e.party ≡ w) × (e.index ≡ i)) → place (did e ∷ l) w i ≡ place l w i
    place-else w i n = elsewhere (here e.party e.index w i) e.step e.name (place l w i) n

    move-sizes : (w : Party) → length ((state_after e).pools w) ≡ length (start w)
    move-sizes w = go (party-eq e.party w)
      where
        go : (c : Dec (e.party ≡ w)) → length (choose c (pool_with (slot_by e) e.effect.slot) (e.on.pools w)) ≡ length (start w)
        go (yes p) = length-pool (e.on.pools e.party) (size e.party) e.index e.effect.slot inside-here whole ∙ v.sizes e.party
            ∙ ap (λ (w : Party). length (start w)) p
        go (no _) = v.sizes w

    move-shown : (w : Party) (i : ℕ) → is_slot (slot_of size start w i) ≡ true
        → slot_words (slot_of size (state_after e).pools w i) ≡ place_words size start (state_after e).sessions w i (place (did e ∷ l) w i)
    move-shown w i inside = go (here e.party e.index w i)
      where
        after : ℕ → Session
        after = (state_after e).sessions

        this : slot_words (slot_of size (state_after e).pools e.party e.index) ≡ place_words size start after e.party e.index (place (did e ∷ l) e.party e.index)
        this =
            ap (λ (p : List ℕ). slot_words (record { pool = p; size = size e.party; index = e.index }))
            (chosen-yes (party-eq e.party e.party) (pool_with (slot_by e) e.effect.slot) (e.on.pools e.party) refl)
            ∙ same-slot (e.on.pools e.party) (size e.party) e.index e.effect.slot inside-here whole
            ∙ words-after
            ∙ ap (λ (x : Session). served_words e.party d₀ (due_in x) was) (sym (set_same e.name e.effect.session e.on.sessions))
            ∙ ap (place_words size start after e.party e.index) (sym place-now)

        pool-else : ¬ ((e.party ≡ w) × (e.index ≡ i)) → (c : Dec (e.party ≡ w))
            → slot_words (record { pool = choose c (pool_with (slot_by e) e.effect.slot) (e.on.pools w); size = size w; index = i }) ≡ slot_words (slot_of size e.on.pools w i)
        pool-else n (yes p) =
            ap (λ (w : Party). slot_words (record { pool = pool_with (slot_by e) e.effect.slot; size = size w; index = i })) (sym p)
            ∙ other-slot (e.on.pools e.party) (size e.party) e.index e.effect.slot inside-here whole i (λ q. n (p, sym q))
            ∙ ap (λ (w : Party). slot_words (slot_of size e.on.pools w i)) p
        pool-else n (no _) = refl

        go : Dec ((e.party ≡ w) × (e.index ≡ i)) → slot_words (slot_of size (state_after e).pools w i) ≡ place_words size start after w i (place (did e ∷ l) w i)
        go (yes p) = subst₂ (λ (w : Party) (i : ℕ). slot_words (slot_of size (state_after e).pools w i) ≡ place_words size start after w i (place (did e ∷ l) w i)) p.0 p.1 this
        go (no n) =
            pool-else n (party-eq e.party w)
            ∙ v.shown w i inside
            ∙ sym (unaffected e.on.sessions e.name e.effect.session w i (place l w i) (λ d f. n (only w i d f)))
            ∙ ap (place_words size start after w i) (sym (place-else w i n))

    move-tails : (w : Party) → drop (length (start w) / size w * size w) ((state_after e).pools w) ≡ drop (length (start w) / size w * size w) (start w)
    move-tails w = go (party-eq e.party w)
      where
        this : drop (length (start e.party) / size e.party * size e.party) (pool_with (slot_by e) e.effect.slot) ≡ drop
            (length (start e.party) / size e.party * size e.party) (start e.party)
        this =
            ap (λ (n : ℕ). drop (n / size e.party * size e.party) (pool_with (slot_by e) e.effect.slot)) (sym (v.sizes e.party))
            ∙ tail-stays (e.on.pools e.party) (size e.party) e.index e.effect.slot inside-here whole
            ∙ ap (λ (n : ℕ). drop (n / size e.party * size e.party) (e.on.pools e.party)) (v.sizes e.party)
            ∙ v.tails e.party

        go : (c : Dec (e.party ≡ w)) → drop (length (start w) / size w * size w) (choose c (pool_with (slot_by e) e.effect.slot) (e.on.pools w)) ≡ drop
            (length (start w) / size w * size w) (start w)
        go (yes p) = subst (λ (w : Party). drop (length (start w) / size w * size w) (pool_with (slot_by e) e.effect.slot) ≡ drop
            (length (start w) / size w * size w) (start w)) p this
        go (no _) = v.tails w

    move_taken : (w : Party) (i : ℕ) (d : Dealing) (n : ℕ) → place (did e ∷ l) w i ≡ holds d (some n) → Agrees ((state_after e).sessions n) w d
    move_taken w i d n f = go (here e.party e.index w i)
      where
        go : Dec ((e.party ≡ w) × (e.index ≡ i)) → Agrees ((state_after e).sessions n) w d
        go (yes p) =
            let same : holds d₀ (some e.name) ≡ holds d (some n) =
            sym place-now ∙ subst₂ (λ (w : Party) (i : ℕ). place (did e ∷ l) e.party e.index ≡ place (did e ∷ l) w i) p.0 p.1 refl ∙ f
            in
            let x : e.effect.session ≡ (state_after e).sessions n =
            sym (set_same e.name e.effect.session e.on.sessions) ∙ ap (state_after e).sessions (same_some (same-server same))
            in
            subst₃ (λ (x : Session) (w : Party) (d : Dealing). Agrees x w d) x p.0 (same-dealing same) mv.agrees
        go (no h) =
            let was : place l w i ≡ holds d (some n) = sym (place-else w i h) ∙ f in
            let apart : n ≢ e.name = λ q. h (only w i d (was ∙ ap (λ (n : ℕ). holds d (some n)) q)) in
            rw (set_other e.name e.effect.session e.on.sessions n apart) (v.taken w i d n was)

    move-home : (n : ℕ) → 0 < due_in ((state_after e).sessions n) → Home (did e ∷ l) n
    move-home n o = go (ℕ_discrete n e.name)
      where
        go : Dec (n ≡ e.name) → Home (did e ∷ l) n
        go (yes q) = record { party = e.party; index = e.index; dealing = d₀; stands = place-now ∙ ap (λ (n : ℕ). holds d₀ (some n)) (sym q) }
        go (no h) =
            let was = v.home n (rw (set_other e.name e.effect.session e.on.sessions n h) at o) in
            record {
              party = was.party;
              index = was.index;
              dealing = was.dealing;
              stands = place-else was.party was.index (λ p. h (mine n (same-server
                  (sym mv.stands ∙ subst₂ (λ (w : Party) (i : ℕ). place l e.party e.index ≡ place l w i) p.0 p.1 refl ∙ was.stands))))
                  ∙ was.stands;
            }

    pub move-keeps : Inv (state_after e) (did e ∷ l)
    move-keeps = record { sizes = move-sizes; shown = move-shown; tails = move-tails; fine = v.fine; taken = move_taken; home = move-home }

  -- ---- a dealing

  module _ (l : List Entry) (d : Dealing) (v : Inv d.on l) (x : Dealt)
      (h : deal (d.on.pools d.holder) (d.on.pools (opposite d.holder)) d.size d.index d.request ≡ done x) (stated : Stated size d) where
    abbrev dealt_state : State
    dealt_state = after_dealing d.holder x d.on

    fine-now : Fine size start d
    fine-now = dealt-fine size start d x h stated v.sizes

    abbrev over-it : Party → List ℕ
    over-it w = tape_on READY (join (half w d)) d (slot_words (slot_of size d.on.pools w d.index))

    pools-are : (w : Party) → dealt_state.pools w ≡ pool_with (slot_of size d.on.pools w d.index) (over-it w)
    pools-are = dealt-pools size start d x h stated

    long : (w : Party) → length (over-it w) ≡ size w
    long w = ready-length d fine-now w READY

    deal-shown : (w : Party) (i : ℕ) → is_slot (slot_of size start w i) ≡ true
        → slot_words (slot_of size dealt_state.pools w i) ≡ place_words size start d.on.sessions w i (place (dealt d ∷ l) w i)
    deal-shown w i inside =
        ap (λ (p : List ℕ). slot_words (record { pool = p; size = size w; index = i })) (pools-are w) ∙ go (ℕ_discrete d.index i)
      where
        go : (c : Dec (d.index ≡ i)) → slot_words (record { pool = pool_with (slot_of size d.on.pools w d.index) (over-it w); size = size w; index = i })
            ≡ place_words size start d.on.sessions w i (choose c (holds d none) (place l w i))
        go (yes q) =
            subst (λ (i : ℕ). slot_words (record { pool = pool_with (slot_of size d.on.pools w d.index) (over-it w); size = size w; index = i })
            ≡ place_words size start d.on.sessions w i (holds d none)) q
            (same-slot (d.on.pools w) (size w) d.index (over-it w) (fine-now.inside w) (long w))
        go (no n) = other-slot (d.on.pools w) (size w) d.index (over-it w) (fine-now.inside w) (long w) i (λ q. n (sym q)) ∙ v.shown w i inside

    deal-tails : (w : Party) → drop (length (start w) / size w * size w) (dealt_state.pools w) ≡ drop (length (start w) / size w * size w) (start w)
    deal-tails w =
        ap (λ (p : List ℕ). drop (length (start w) / size w * size w) p) (pools-are w)
        ∙ ap (λ (n : ℕ). drop (n / size w * size w) (pool_with (slot_of size d.on.pools w d.index) (over-it w))) (sym (v.sizes w))
        ∙ tail-stays (d.on.pools w) (size w) d.index (over-it w) (fine-now.inside w) (long w)
        ∙ ap (λ (n : ℕ). drop (n / size w * size w) (d.on.pools w)) (v.sizes w)
        ∙ v.tails w

    deal-fine : (d' : Dealing) → (d ≡ d') ⊎ WasDealt d' l → Fine size start d'
    deal-fine d' (inl q) = rw q at fine-now
    deal-fine d' (inr n) = v.fine d' n

    deal-taken : (w : Party) (i : ℕ) (d' : Dealing) (n : ℕ) → place (dealt d ∷ l) w i ≡ holds d' (some n) → Agrees (d.on.sessions n) w d'
    deal-taken w i d' n f = go (ℕ_discrete d.index i) f
      where
        go : (c : Dec (d.index ≡ i)) → choose c (holds d none) (place l w i) ≡ holds d' (some n) → Agrees (d.on.sessions n) w d'
        go (yes q) g = none≢ (same-server g)
        go (no _) g = v.taken w i d' n g

    -- the half of an open session isn't dealt over
    unused : (n : ℕ) → 0 < due_in (d.on.sessions n) → (w : Party) (d' : Dealing) → place l w d.index ≡ holds d' (some n) → ⊥
    unfolding is_free
    unused n o w d' f =
        let inside : is_slot (slot_of size start w d.index) ≡ true = inside-then d.on.pools w d.index (v.sizes w) (fine-now.inside w) in
        let marked : status_of (slot_words (slot_of size d.on.pools w d.index)) ≡ IN-USE =
        ap status_of (v.shown w d.index inside ∙ ap (place_words size start d.on.sessions w d.index) f) ∙ open-status w d' (due_in (d.on.sessions n)) _ o
        in
        let z : is_free IN-USE ≡ true = rw marked at (fine-now.free w) in
        let y : ◌≡◌ {A = ℕ} 0 1 = cc in
        omega arith

    deal-home : (n : ℕ) → 0 < due_in (d.on.sessions n) → Home (dealt d ∷ l) n
    deal-home n o =
        let was = v.home n o in
        record {
          party = was.party;
          index = was.index;
          dealing = was.dealing;
          stands = chosen-no (ℕ_discrete d.index was.index) (holds d none) (place l was.party was.index)
              (λ q. unused n o was.party was.dealing (ap (place l was.party) q ∙ was.stands)) ∙ was.stands;
        }

    pub deal-keeps : Inv dealt_state (dealt d ∷ l)
    deal-keeps = record {
      sizes = λ w. ap length (pools-are w) ∙ length-pool (d.on.pools w) (size w) d.index (over-it w) (fine-now.inside w) (long w) ∙ v.sizes w;
      shown = deal-shown;
      tails = deal-tails;
      fine = deal-fine;
      taken = deal-taken;
      home = deal-home;
    }
