-- Every session's view, after every list of calls, is one of its stages.
--   Views, views
--   along-views   the induction over calls, with the views at hand
-- Assumes nothing.
use mathlib.Core.Path.{◌≡◌, refl, sym, ap, ap₂, ◌∙◌, subst, subst₂}
use mathlib.Core.Logic.{◌≢◌}
use mathlib.Core.Bool.{true}
use mathlib.Core.List.{List, [], ◌∷◌}
use mathlib.Core.Option.{Option, some, none}
use Prim.Native.Nat.{ℕ, ◌<◌}
use native.Mathlib.Omega.{arith}
use native.Mathlib.Decide.{ℕ_discrete}
use Rattle.algebra.specs.Count.{part, total}
use Rattle.algebra.specs.Elimination.{regular}
use Rattle.algebra.proofs.Parts.{Fits}
use Rattle.protocol.specs.declared.Terms.{Terms}
use Rattle.protocol.specs.Judge.{done}
use Rattle.protocol.specs.Tape.{slot_words, Role, blinder, layout, matrices}
use Rattle.protocol.specs.Step.{Effect}
use Rattle.algebra.specs.Words.{over}
use Rattle.algebra.specs.Matrix.{Residues}
use Rattle.protocol.proofs.Residues.{parts-over}
use Rattle.protocol.specs.Deal.{Dealt}
use Rattle.protocol.specs.System.{scratch_parts, scratch_layout}
use Rattle.history.specs.Ends.{Session, absent, due_in, terms_in, role_in, First, opening, Later, Step, begins, goes_on, role_first, role_of, run_step, run_first, run_later, is_begun}
use Rattle.history.specs.Log.{choose, Party, State, Call, Dealing, Did, Entry, dealt, did, after_dealing, run, holds, here, place, lent_to, OwnScratchBy, Premises, fresh as fresh-state}
use Rattle.history.specs.Contents.{half, tenant_of, tenant_after, tenant, kept_by, coins_in, terms_by, scratch_words}
use Rattle.protocol.specs.View.{View, coin_layout}
use Rattle.history.specs.Seen.{view_first, view_later, half_at, view_after, view}
use Rattle.history.proofs.Accepted.{Begins, Continues, first_row, later_row}
use Rattle.history.proofs.Facts.{set_same, set_other, none≢, absent≢, same-server, same-dealing, same_some, place-known}
use Rattle.history.proofs.Dealt.{Fine}
use Rattle.history.proofs.Kept.{Agrees, Inv, slot_by, state_after, Way, fresh, onward, Move, ready-before, used-before, only, place-now, place-else}
use Rattle.history.specs.Claim.{Empty}
use Rattle.history.proofs.Along.{along}
use Rattle.history.proofs.Lent.{Lent, quiet, is-blinder?, move-lent, kept-open}
use Rattle.history.proofs.Words.{tape-matrices}
use Rattle.history.proofs.Known.{SeenBy, Gave, seen-known}
use Rattle.history.proofs.Steps.{first-seen, later-seen}

pub record Views (st : State) (l : List Entry) : Type 0 where
  -- a scratch's tenant keeps the coins of its view there
  pub tied : (b : ℕ) (x : Did) → tenant l b ≡ some x → (view l x.name).coins ≡ coins_in x.step
  -- the half in a view is the one that serves the session
  pub halves : (w : Party) (i : ℕ) (d : Dealing) (n : ℕ) → place l w i ≡ holds d (some n) → (view l n).half ≡ half w d
  pub seen : (n : ℕ) → SeenBy (st.sessions n) (view l n)

-- ---- views by the log alone

view-else : {P : Type 0} (h : Dec P) (l : List Entry) (e : Did) (k : Step) (v : View) → ¬ P → view_after h l e k v ≡ v
view-else (yes p) l e k v n = absurd (n p)
view-else (no _) l e k v n = refl

view_first_lem : {P : Type 0} (h : Dec P) (l : List Entry) (e : Did) (k : Step) (v : View) {t : Terms} {f : First} → k ≡ begins t f → P
    → view_after h l e k v ≡ view_first t f (half_at e.party (place l e.party e.index)) e.effect
view_first_lem {P} h l e k v {t} {f} q p =
    subst (λ (k : Step). view_after h l e k v ≡ view_first t f (half_at e.party (place l e.party e.index)) e.effect) (sym q) (go h)
  where
    go : (h : Dec P) → view_after h l e (begins t f) v ≡ view_first t f (half_at e.party (place l e.party e.index)) e.effect
    go (yes _) = refl
    go (no n) = absurd (n p)

pub view-later : {P : Type 0} (h : Dec P) (l : List Entry) (e : Did) (k : Step) (v : View) {f : Later} → k ≡ goes_on f → P → view_after h l e k v ≡ view_later v f e.effect
view-later {P} h l e k v {f} q p = subst (λ (k : Step). view_after h l e k v ≡ view_later v f e.effect) (sym q) (go h)
  where
    go : (h : Dec P) → view_after h l e (goes_on f) v ≡ view_later v f e.effect
    go (yes _) = refl
    go (no n) = absurd (n p)

-- a later step changes neither half nor coins
later-half : {P : Type 0} (h : Dec P) (l : List Entry) (e : Did) (k : Step) (v : View) {f : Later} → k ≡ goes_on f
    → ((view_after h l e k v).half ≡ v.half) × ((view_after h l e k v).coins ≡ v.coins)
later-half (yes _) l e (begins t f) v q = absurd (let z : ◌≡◌ {A = ℕ} 0 1 = cc in omega arith)
later-half (yes _) l e (goes_on f) v q = (refl, refl)
later-half (no _) l e k v q = (refl, refl)

-- a tenant is this step, a blinder's first, or was there before
data Came (e : Did) (o : Option Did) (x : Did) : Type 0 where
  this : e ≡ x → (t : Terms) (f : First) → e.step ≡ begins t f → role_first f ≡ blinder → Came e o x
  before : o ≡ some x → Came e o x

came-first : (e : Did) (t : Terms) (f : First) (o : Option Did) (x : Did) → e.step ≡ begins t f → tenant_of (role_first f) e o ≡ some x
    → Dec (role_first f ≡ blinder) → Came e o x
came-first e t f o x s h (yes r) = this (same_some (sym (ap (λ (r : Role). tenant_of r e o) r) ∙ h)) t f s r
came-first e t f o x s h (no n) = before (sym (quiet (role_first f) n e o) ∙ h)

came : {P : Type 0} (h : Dec P) (e : Did) (k : Step) (o : Option Did) (x : Did) → e.step ≡ k → tenant_after h e k o ≡ some x → Came e o x
came (yes _) e (begins t f) o x s h = came-first e t f o x s h (is-blinder? (role_first f))
came (yes _) e (goes_on k) o x s h = before h
came (no _) e k o x s h = before h

blinder-coins : (t : Terms) (f : First) (ls : List (List ℕ)) (g : Effect Session) → role_first f ≡ blinder → (view_first t f ls g).coins ≡ coins_in (begins t f)
blinder-coins t f ls g r = ap (λ (r : Role). kept_by r ((opening f).coins t)) (sym r)

-- what a blinder drew
blinder-coins-fit : (x : Session) (v : View) → SeenBy x v → is_begun x ≡ true → role_in x ≡ blinder
    → Residues (terms_in x).q (total (scratch_layout (terms_in x))) v.coins
blinder-coins-fit x v s b r = subst (λ (r : Role). Residues (terms_in x).q (total (coin_layout r (terms_in x))) v.coins) r (seen-known x v s b).coins-residues

-- the half that a session agrees with fits its terms
agrees-fits : {size : Party → ℕ} {start : Party → List ℕ} (x : Session) (w : Party) (d : Dealing) → Fine size start d → Agrees x w d
    → Fits (terms_in x).q (layout (role_in x) (terms_in x).m (terms_in x).k (terms_in x).p) (half w d)
agrees-fits x w d g a = rw (a.role-is, a.q-is, a.m-is, a.k-is, a.p-is) (g.fits w)

module _ (size : Party → ℕ) (start : Party → List ℕ) (lent : ℕ → List ℕ) where
  module _ (l : List Entry) (e : Did) (v : Inv size start e.on l) (p : Premises size (did e ∷ l)) (mv : Move size start l e) (o : Lent lent e.on l)
      (vs : Views e.on l) where
    abbrev pub here-view : View
    here-view = view (did e ∷ l) e.name

    abbrev pub decided : Dec (e.name ≡ e.name)
    decided = ℕ_discrete e.name e.name

    pub view-other : (n : ℕ) → n ≢ e.name → view (did e ∷ l) n ≡ view l n
    view-other n h = view-else (ℕ_discrete e.name n) l e e.step (view l n) (λ q. h (sym q))

    -- the half, fitting the terms of the session after the step
    fit : Fits (terms_in e.effect.session).q (layout (role_in e.effect.session) (terms_in e.effect.session).m (terms_in e.effect.session).k
        (terms_in e.effect.session).p) (half e.party mv.dealing)
    fit = agrees-fits e.effect.session e.party mv.dealing (v.fine mv.dealing (place-known l e.party e.index mv.stands).0) mv.agrees

    -- ---- a first step

    module _ (t : Terms) (k : First) (s : e.step ≡ begins t k) (u : mv.server ≡ none) (a : e.on.sessions e.name ≡ absent)
        (g : Begins t k (slot_by size start e) e.effect) where
      half-here : half_at e.party (place l e.party e.index) ≡ half e.party mv.dealing
      half-here = ap (half_at e.party) mv.stands

      pub new-view : here-view ≡ view_first t k (half e.party mv.dealing) e.effect
      new-view = view_first_lem decided l e e.step (view l e.name) s refl ∙ ap (λ (ls : List (List ℕ)). view_first t k ls e.effect) half-here

      fit-first : Fits t.q (layout (role_first k) t.m t.k t.p) (half e.party mv.dealing)
      fit-first = subst₂ (λ (r : Role) (t : Terms). Fits t.q (layout r t.m t.k t.p) (half e.party mv.dealing)) g.role-is g.terms-are fit

      mats : matrices (role_first k) t (slot_words (slot_by size start e)) ≡ half e.party mv.dealing
      mats = ap (matrices (role_first k) t) (ready-before size start l e v p.0 mv u) ∙ tape-matrices (role_first k) t _ mv.dealing (half e.party mv.dealing) _ fit-first

      mask : role_first k ≡ blinder → regular t.q t.m (part 2 (half e.party mv.dealing)) ≡ true
      mask r =
          let fine = v.fine mv.dealing (place-known l e.party e.index mv.stands).0 in
          rw (← g.terms-are, mv.agrees.q-is, mv.agrees.m-is) (fine.mask e.party (sym mv.agrees.role-is ∙ g.role-is ∙ r))

      acts : run_first t k (slot_by size start e) (e.on.scratches e.scratch) ≡ done e.effect
      acts = subst (λ (k : Step). run_step k (e.on.sessions e.name) (slot_by size start e) (e.on.scratches e.scratch) ≡ done e.effect) s mv.acted

      first-tied : (b : ℕ) (x : Did) → tenant (did e ∷ l) b ≡ some x → (view (did e ∷ l) x.name).coins ≡ coins_in x.step
      first-tied b x h = go (came (ℕ_discrete e.scratch b) e e.step (tenant l b) x refl h)
        where
          go : Came e (tenant l b) x → (view (did e ∷ l) x.name).coins ≡ coins_in x.step
          go (this q t' f s' r) =
              subst (λ (x : Did). (view (did e ∷ l) x.name).coins ≡ coins_in x.step) q
              (ap (λ (z : View). z.coins) (view_first_lem decided l e e.step (view l e.name) s' refl)
              ∙ blinder-coins t' f (half_at e.party (place l e.party e.index)) e.effect r ∙ sym (ap coins_in s'))
          go (before q) =
              let n : x.name ≢ e.name = λ z. absent≢ (ap e.on.sessions z ∙ a) (o.is-tenant b x q).is-begun in
              ap (λ (z : View). z.coins) (view-other x.name n) ∙ vs.tied b x q

      pub first-both : SeenBy e.effect.session (view_first t k (half e.party mv.dealing) e.effect)
          × Gave (first_row k) t e.effect.result (view_first t k (half e.party mv.dealing) e.effect)
      first-both = first-seen t k (slot_by size start e) (e.on.scratches e.scratch) e.effect (half e.party mv.dealing) acts mats mask

      first-seen-here : SeenBy ((state_after size start e).sessions e.name) here-view
      first-seen-here = subst₂ SeenBy (sym (set_same e.name e.effect.session e.on.sessions)) (sym new-view) first-both.0

      pub first-half : here-view.half ≡ half e.party mv.dealing
      first-half = ap (λ (z : View). z.half) new-view

    -- ---- a later step

    module _ (k : Later) (s : e.step ≡ goes_on k) (u : mv.server ≡ some e.name) (g : Continues k (e.on.sessions e.name) (slot_by size start e) e.effect) where
      abbrev pub x₀ : Session
      x₀ = e.on.sessions e.name

      stood : place l e.party e.index ≡ holds mv.dealing (some e.name)
      stood = mv.stands ∙ ap (holds mv.dealing) u

      was-half : (view l e.name).half ≡ half e.party mv.dealing
      was-half = vs.halves e.party e.index mv.dealing e.name stood

      pub mats-later : matrices (role_in x₀) (terms_in x₀) (slot_words (slot_by size start e)) ≡ (view l e.name).half
      mats-later =
          ap (matrices (role_in x₀) (terms_in x₀)) (used-before size start l e v p.0 mv u g.session-open.is_open)
          ∙ tape-matrices (role_in x₀) (terms_in x₀) _ mv.dealing (half e.party mv.dealing) _
          (subst₂ (λ (r : Role) (t : Terms). Fits t.q (layout r t.m t.k t.p) (half e.party mv.dealing)) g.role-is g.terms-are fit)
          ∙ sym was-half

      -- P and U0 stand in the blinder's scratch
      coins-stand : role_in x₀ ≡ blinder → scratch_parts (terms_in x₀) (e.on.scratches e.scratch) ≡ scratch_parts (terms_in x₀) (view l e.name).coins
      unfolding scratch_parts
      coins-stand r =
          let x = o.keeps-it e.name g.session-open.is_open r in
          let fair : lent_to l e.name ≡ e.scratch = subst (λ (z : Step). OwnScratchBy l e z) s p.1.0.own-scratch (ap role_of s ∙ sym g.role-was ∙ r) in
          let at : tenant l e.scratch ≡ some x.0 = ap (tenant l) (sym fair) ∙ x.1 in
          let due : 0 < due_in (e.on.sessions x.0.name) = subst (λ (n : ℕ). 0 < due_in (e.on.sessions n)) (sym x.2) g.session-open.is_open in
          let coins : (view l e.name).coins ≡ coins_in x.0.step = ap (λ (n : ℕ). (view l n).coins) (sym x.2) ∙ vs.tied e.scratch x.0 at in
          let words : e.on.scratches e.scratch ≡ over (coins_in x.0.step) (x.0.on.scratches e.scratch) =
          o.shown e.scratch ∙ ap (scratch_words lent e.on.sessions e.scratch) at
          ∙ ap (λ (z : List ℕ). over z (x.0.on.scratches e.scratch)) (kept-open (due_in (e.on.sessions x.0.name)) (terms_by x.0.step) (coins_in x.0.step) due)
          in
          ap (scratch_parts (terms_in x₀)) words
          ∙ parts-over (scratch_layout (terms_in x₀)) (x.0.on.scratches e.scratch)
          (subst (Residues (terms_in x₀).q (total (scratch_layout (terms_in x₀)))) coins
          (blinder-coins-fit x₀ (view l e.name) (vs.seen e.name) g.was-begun r))
          ∙ ap (scratch_parts (terms_in x₀)) (sym coins)

      pub later-acts : run_later k x₀ (slot_by size start e) (e.on.scratches e.scratch) ≡ done e.effect
      later-acts = subst (λ (k : Step). run_step k x₀ (slot_by size start e) (e.on.scratches e.scratch) ≡ done e.effect) s mv.acted

      pub later-both : SeenBy e.effect.session (view_later (view l e.name) k e.effect)
          × Gave (later_row k) (terms_in x₀) e.effect.result (view_later (view l e.name) k e.effect)
      later-both =
          later-seen k x₀ (view l e.name) (slot_by size start e) (e.on.scratches e.scratch) e.effect
          (vs.seen e.name) later-acts mats-later coins-stand

      later-seen-here : SeenBy ((state_after size start e).sessions e.name) here-view
      later-seen-here =
          subst₂ SeenBy (sym (set_same e.name e.effect.session e.on.sessions)) (sym (view-later decided l e e.step (view l e.name) s refl))
          later-both.0

      later-tied : (b : ℕ) (x : Did) → tenant (did e ∷ l) b ≡ some x → (view (did e ∷ l) x.name).coins ≡ coins_in x.step
      later-tied b x h = go (came (ℕ_discrete e.scratch b) e e.step (tenant l b) x refl h)
        where
          go : Came e (tenant l b) x → (view (did e ∷ l) x.name).coins ≡ coins_in x.step
          go (this q t' f s' r) = absurd (let z : ◌≡◌ {A = Step} (begins t' f) (goes_on k) = sym s' ∙ s in let y : ◌≡◌ {A = ℕ} 0 1 = cc in omega arith)
          go (before q) = (later-half (ℕ_discrete e.name x.name) l e e.step (view l x.name) s).1 ∙ vs.tied b x q

      pub later-half-here : here-view.half ≡ half e.party mv.dealing
      later-half-here = (later-half decided l e e.step (view l e.name) s).0 ∙ was-half

    -- ---- both

    pub move-views : Views (state_after size start e) (did e ∷ l)
    move-views = record { tied = tied_by mv.way; halves = halves-now; seen = seen-now }
      where
        tied_by : Way size start e mv.server → (b : ℕ) (x : Did) → tenant (did e ∷ l) b ≡ some x → (view (did e ∷ l) x.name).coins ≡ coins_in x.step
        tied_by (fresh t k s u a g) = first-tied t k s u a g
        tied_by (onward k s u g) = later-tied k s u g

        half-by : Way size start e mv.server → here-view.half ≡ half e.party mv.dealing
        half-by (fresh t k s u a g) = first-half t k s u a g
        half-by (onward k s u g) = later-half-here k s u g

        seen_by : Way size start e mv.server → SeenBy ((state_after size start e).sessions e.name) here-view
        seen_by (fresh t k s u a g) = first-seen-here t k s u a g
        seen_by (onward k s u g) = later-seen-here k s u g

        halves-now : (w : Party) (i : ℕ) (d : Dealing) (n : ℕ) → place (did e ∷ l) w i ≡ holds d (some n) → (view (did e ∷ l) n).half ≡ half w d
        halves-now w i d n f = go (here e.party e.index w i)
          where
            go : Dec ((e.party ≡ w) × (e.index ≡ i)) → (view (did e ∷ l) n).half ≡ half w d
            go (yes q) =
                let same : holds mv.dealing (some e.name) ≡ holds d (some n) =
                sym (place-now size start l e v p.0 mv) ∙ subst₂ (λ (w : Party) (i : ℕ). place (did e ∷ l) e.party e.index ≡ place (did e ∷ l) w i) q.0 q.1 refl ∙ f
                in
                ap (λ (n : ℕ). (view (did e ∷ l) n).half) (sym (same_some (same-server same))) ∙ half-by mv.way ∙ ap₂ half q.0 (same-dealing same)
            go (no h) =
                let was : place l w i ≡ holds d (some n) = sym (place-else size start l e v p.0 mv w i h) ∙ f in
                let apart : n ≢ e.name = λ q. h (only size start l e v p.0 mv w i d (was ∙ ap (λ (n : ℕ). holds d (some n)) q)) in
                ap (λ (z : View). z.half) (view-other n apart) ∙ vs.halves w i d n was

        seen-now : (n : ℕ) → SeenBy ((state_after size start e).sessions n) (view (did e ∷ l) n)
        seen-now n = go (ℕ_discrete n e.name)
          where
            go : Dec (n ≡ e.name) → SeenBy ((state_after size start e).sessions n) (view (did e ∷ l) n)
            go (yes q) = subst (λ (n : ℕ). SeenBy ((state_after size start e).sessions n) (view (did e ∷ l) n)) (sym q) (seen_by mv.way)
            go (no h) = subst₂ SeenBy (sym (set_other e.name e.effect.session e.on.sessions n h)) (sym (view-other n h)) (vs.seen n)

  pub deal-views : (l : List Entry) (d : Dealing) (x : Dealt) → Views d.on l → Views (after_dealing d.holder x d.on) (dealt d ∷ l)
  deal-views l d x vs = record { tied = vs.tied; halves = halves-now; seen = vs.seen }
    where
      halves-now : (w : Party) (i : ℕ) (d' : Dealing) (n : ℕ) → place (dealt d ∷ l) w i ≡ holds d' (some n) → (view l n).half ≡ half w d'
      halves-now w i d' n f = go (ℕ_discrete d.index i) f
        where
          go : (c : Dec (d.index ≡ i)) → choose c (holds d none) (place l w i) ≡ holds d' (some n) → (view l n).half ≡ half w d'
          go (yes _) g = none≢ (same-server g)
          go (no _) g = vs.halves w i d' n g

  pub deal-lent : (l : List Entry) (d : Dealing) (x : Dealt) → Lent lent d.on l → Lent lent (after_dealing d.holder x d.on) (dealt d ∷ l)
  deal-lent l d x o = record {
    shown = o.shown;
    is-tenant = λ b e i. let k = o.is-tenant b e i in record {
      lent_is = k.lent_is;
      is-begun = k.is-begun;
      role-is = k.role-is;
      terms-are =
          k.terms-are;
      coins-are = k.coins-are;
    };
    keeps-it = o.keeps-it;
  }

  pub views-start : Lent lent (fresh-state start lent) [] × Views (fresh-state start lent) []
  views-start = (
    record { shown = λ b. refl; is-tenant = λ b e h. none≢ h; keeps-it = λ n d r. absurd (omega arith) },
    record { tied = λ b x h. none≢ h; halves = λ w i d n h. absurd (let z : ◌≡◌ {A = ℕ} 0 1 = cc in omega arith); seen = λ n. tt },
  )

  -- what every dealing and every move keeps, where the scratches and the views stand as they should, holds after every list
  module _ (empty : Empty size start) (P : State → List Entry → Type 0) (base : P (fresh-state start lent) [])
      (deal-step : (l : List Entry) (d : Dealing) (x : Dealt) → P d.on l → P (after_dealing d.holder x d.on) (dealt d ∷ l))
      (move_step : (l : List Entry) (e : Did) → Inv size start e.on l → Premises size (did e ∷ l) → Move size start l e → Lent lent e.on l → Views e.on l → P e.on l
      → P (state_after size start e) (did e ∷ l)) where
    pub along-views : (cs : List Call) → Premises size (run size start lent cs).log → P (run size start lent cs).state (run size start lent cs).log
    along-views cs p =
        (along size start empty lent (λ st l. (Lent lent st l × Views st l) × P st l) (views-start, base)
        (λ l d x v q h o. ((deal-lent l d x o.0.0, deal-views l d x o.0.1), deal-step l d x o.1))
        (λ l e v q mv o. ((move-lent size start lent l e q mv o.0.0, move-views l e v q mv o.0.0 o.0.1), move_step l e v q mv o.0.0 o.0.1 o.1)) cs p).1.1

  pub views : Empty size start → (cs : List Call) → Premises size (run size start lent cs).log → Views (run size start lent cs).state (run size start lent cs).log
  views empty cs p =
      (along size start empty lent (λ st l. Lent lent st l × Views st l) views-start (λ l d x v q h o. (deal-lent l d x o.0, deal-views l d x o.1))
      (λ l e v q mv o. (move-lent size start lent l e q mv o.0, move-views l e v q mv o.0 o.1)) cs p).1.1
