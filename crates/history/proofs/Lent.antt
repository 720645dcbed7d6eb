-- The scratches lent to blinders: P and U0 stand there while their session is open, and zeros from its end on.
--   Tenant, Lent              the last blinder's session on a scratch, and what the scratch holds
--   move-lent, lent-scratches
-- Assumes nothing.
use mathlib.Core.Path.{◌≡◌, refl, sym, ap, ap₂, ◌∙◌, subst, subst₂}
use mathlib.Core.Logic.{◌≢◌, ◌⊎◌, inl, inr}
use mathlib.Core.Bool.{true}
use mathlib.Core.List.{List, [], ◌∷◌}
use mathlib.Core.Option.{Option, some, none}
use Prim.Native.Nat.{ℕ, zero, suc, ◌<◌}
use native.Mathlib.Omega.{arith}
use native.Mathlib.Decide.{ℕ_discrete}
use lib.ListN.{length}
use Rattle.algebra.specs.Matrix.{zeros}
use Rattle.algebra.specs.Count.{total}
use Rattle.algebra.proofs.Lists.{length-tabulate}
use Rattle.protocol.specs.declared.Terms.{Terms}
use Rattle.protocol.specs.Tape.{Role, left, right, blinder, solver}
use Rattle.algebra.specs.Words.{over}
use Rattle.protocol.specs.System.{scratch_size, scratch_layout}
use Rattle.protocol.specs.View.{coin_layout}
use Rattle.history.specs.Ends.{Session, absent, is_begun, due_in, terms_in, role_in, First, opening, Later, Step, begins, goes_on, role_first, role_of}
use Rattle.history.specs.Log.{choose, Party, State, Call, Did, Entry, did, run, lent_after, lent_to, OwnScratchBy, Premises}
use Rattle.history.specs.Contents.{tenant_of, tenant_after, tenant, kept_by, coins_by, coins_in, kept_words, terms_by, scratch_words}
use Rattle.history.proofs.Words.{over-over, over_nothing}
use Rattle.history.proofs.Accepted.{first_next, Begins, Continues, wipe_scratch}
use Rattle.history.proofs.Facts.{set_same, set_other, none≢, absent≢, same_some}
use Rattle.history.proofs.Kept.{slot_by, state_after, Way, fresh, onward, Move}
use Rattle.history.specs.Claim.{Empty}
use Rattle.history.proofs.Along.{along}

-- what is known of the last blinder's first step on a scratch
pub record Tenant (st : State) (l : List Entry) (b : ℕ) (e : Did) : Type 0 where
  pub lent_is : lent_to l e.name ≡ b
  pub is-begun : is_begun (st.sessions e.name) ≡ true
  pub role-is : role_in (st.sessions e.name) ≡ blinder
  pub terms-are : terms_in (st.sessions e.name) ≡ terms_by e.step
  pub coins-are : length (coins_in e.step) ≡ scratch_size (terms_by e.step)

pub record Lent (lent : ℕ → List ℕ) (st : State) (l : List Entry) : Type 0 where
  pub shown : (b : ℕ) → st.scratches b ≡ scratch_words lent st.sessions b (tenant l b)
  pub is-tenant : (b : ℕ) (e : Did) → tenant l b ≡ some e → Tenant st l b e
  -- an open blinder's session is the tenant of the scratch that it was lent
  pub keeps-it : (n : ℕ) → 0 < due_in (st.sessions n) → role_in (st.sessions n) ≡ blinder → (e : Did) × (tenant l (lent_to l n) ≡ some e) × (e.name ≡ n)

-- ---- one scratch

-- only whether the tenant's session is open counts
kept_same : (d d' : ℕ) (t : Terms) (coins : List ℕ) → (d ≡ d') ⊎ ((0 < d) × (0 < d')) → kept_words d t coins ≡ kept_words d' t coins
kept_same d d' t coins (inl e) = ap (λ (d : ℕ). kept_words d t coins) e
kept_same zero d' t coins (inr h) = absurd (omega (arith, h.0))
kept_same (suc d) zero t coins (inr h) = absurd (omega (arith, h.1))
kept_same (suc d) (suc d') t coins (inr h) = refl

pub kept-open : (d : ℕ) (t : Terms) (coins : List ℕ) → 0 < d → kept_words d t coins ≡ coins
kept-open zero t coins h = absurd (omega arith)
kept-open (suc d) t coins h = refl

words_same : (lent : ℕ → List ℕ) (sessions sessions' : ℕ → Session) (b : ℕ) (o : Option Did)
    → ((e : Did) → o ≡ some e → (due_in (sessions e.name) ≡ due_in (sessions' e.name)) ⊎ ((0 < due_in (sessions e.name)) × (0 < due_in (sessions' e.name))))
    → scratch_words lent sessions b o ≡ scratch_words lent sessions' b o
words_same lent sessions sessions' b none h = refl
words_same lent sessions sessions' b (some e) h =
    ap (λ (z : List ℕ). over z (e.on.scratches b)) (kept_same (due_in (sessions e.name)) (due_in (sessions' e.name)) (terms_by e.step) (coins_in e.step) (h e refl))

lent_other : {P : Type 0} (h : Dec P) (k : Step) (b b' : ℕ) → ¬ P → lent_after h k b b' ≡ b'
lent_other (yes p) k b b' n = absurd (n p)
lent_other (no _) k b b' n = refl

lent-first : {P : Type 0} (h : Dec P) (k : Step) (b b' : ℕ) {t : Terms} {f : First} → k ≡ begins t f → P → lent_after h k b b' ≡ b
lent-first (yes _) (begins t f) b b' e p = refl
lent-first (yes _) (goes_on f) b b' e p = absurd (let z : ◌≡◌ {A = ℕ} 0 1 = cc in omega arith)
lent-first (no n) k b b' e p = absurd (n p)

lent-later : {P : Type 0} (h : Dec P) (k : Step) (b b' : ℕ) {f : Later} → k ≡ goes_on f → lent_after h k b b' ≡ b'
lent-later (yes _) (begins t f) b b' e = absurd (let z : ◌≡◌ {A = ℕ} 0 1 = cc in omega arith)
lent-later (yes _) (goes_on f) b b' e = refl
lent-later (no n) k b b' e = refl

tenant-other : {P : Type 0} (h : Dec P) (e : Did) (k : Step) (o : Option Did) → ¬ P → tenant_after h e k o ≡ o
tenant-other (yes p) e k o n = absurd (n p)
tenant-other (no _) e k o n = refl

tenant-later : {P : Type 0} (h : Dec P) (e : Did) (k : Step) (o : Option Did) {f : Later} → k ≡ goes_on f → tenant_after h e k o ≡ o
tenant-later (yes _) e (begins t f) o q = absurd (let z : ◌≡◌ {A = ℕ} 0 1 = cc in omega arith)
tenant-later (yes _) e (goes_on f) o q = refl
tenant-later (no n) e k o q = refl

-- first steps of the other ends
pub quiet : (r : Role) → (r ≡ blinder → ⊥) → (e : Did) (o : Option Did) → tenant_of r e o ≡ o
quiet left n e o = refl
quiet right n e o = refl
quiet solver n e o = refl
quiet blinder n e o = absurd (n refl)

tenant-quiet : {P : Type 0} (h : Dec P) (e : Did) (k : Step) (o : Option Did) {t : Terms} {f : First} → k ≡ begins t f → (role_first f ≡ blinder → ⊥) → tenant_after h e k o ≡ o
tenant-quiet {P} h e k o {t} {f} q n = subst (λ (k : Step). tenant_after h e k o ≡ o) (sym q) (go h)
  where
    go : (h : Dec P) → tenant_after h e (begins t f) o ≡ o
    go (yes _) = quiet (role_first f) n e o
    go (no _) = refl

tenant-new : {P : Type 0} (h : Dec P) (e : Did) (k : Step) (o : Option Did) {t : Terms} {f : First} → k ≡ begins t f → role_first f ≡ blinder → P
    → tenant_after h e k o ≡ some e
tenant-new {P} h e k o {t} {f} q r p = subst (λ (k : Step). tenant_after h e k o ≡ some e) (sym q) (go h)
  where
    go : (h : Dec P) → tenant_after h e (begins t f) o ≡ some e
    go (yes _) = ap (λ (r : Role). tenant_of r e o) r
    go (no n) = absurd (n p)

quiet-coins : (r : Role) (coins : List ℕ) → (r ≡ blinder → ⊥) → kept_by r coins ≡ []
quiet-coins left coins n = refl
quiet-coins right coins n = refl
quiet-coins solver coins n = refl
quiet-coins blinder coins n = absurd (n refl)

-- those of a blinder
own-coins : (r : Role) (t : Terms) (coins : List ℕ) → r ≡ blinder → length coins ≡ total (coin_layout r t) → length (kept_by r coins) ≡ scratch_size t
unfolding scratch_size
own-coins r t coins e = subst (λ (r : Role). length coins ≡ total (coin_layout r t) → length (kept_by r coins) ≡ total (scratch_layout t)) (sym e) (λ h. h)

still_open : (r : Role) (next due : ℕ) → (r ≡ left) ⊎ (0 < next) → r ≡ blinder → due ≡ next → 0 < due
still_open r next due (inl z) e d = absurd (let y : left ≡ blinder = sym z ∙ e in let z : ◌≡◌ {A = ℕ} 0 1 = cc in omega arith)
still_open r next due (inr z) e d = omega (arith, z, d)

-- what a later step writes there
wipe-open : (d : ℕ) (r : Role) (t : Terms) → 0 < d → wipe_scratch d r t ≡ []
wipe-open zero r t h = absurd (omega arith)
wipe-open (suc d) r t h = refl

wipe-none : (d : ℕ) (r : Role) (t : Terms) → (r ≡ blinder → ⊥) → wipe_scratch d r t ≡ []
wipe-none zero left t n = refl
wipe-none zero right t n = refl
wipe-none zero solver t n = refl
wipe-none zero blinder t n = absurd (n refl)
wipe-none (suc d) r t n = refl

pub is-blinder? : (r : Role) → Dec (r ≡ blinder)
is-blinder? left = no (λ e. let z : ◌≡◌ {A = ℕ} 0 1 = cc in omega arith)
is-blinder? right = no (λ e. let z : ◌≡◌ {A = ℕ} 0 1 = cc in omega arith)
is-blinder? solver = no (λ e. let z : ◌≡◌ {A = ℕ} 0 1 = cc in omega arith)
is-blinder? blinder = yes refl

module _ (size : Party → ℕ) (start : Party → List ℕ) (lent : ℕ → List ℕ) where
  module _ (l : List Entry) (e : Did) (p : Premises size (did e ∷ l)) (mv : Move size start l e) (o : Lent lent e.on l) where
    abbrev st' : State
    st' = state_after size start e

    is-now : st'.sessions e.name ≡ e.effect.session
    is-now = set_same e.name e.effect.session e.on.sessions

    not-now : (n : ℕ) → n ≢ e.name → st'.sessions n ≡ e.on.sessions n
    not-now n h = set_other e.name e.effect.session e.on.sessions n h

    -- a step that writes nothing to its scratch
    untouched-scratch : e.effect.scratch ≡ [] → (b : ℕ) → st'.scratches b ≡ e.on.scratches b
    untouched-scratch h b = go (ℕ_discrete e.scratch b)
      where
        go : (c : Dec (e.scratch ≡ b)) → choose c (over e.effect.scratch (e.on.scratches e.scratch)) (e.on.scratches b) ≡ e.on.scratches b
        go (yes q) = ap (λ (z : List ℕ). over z (e.on.scratches e.scratch)) h ∙ over_nothing (e.on.scratches e.scratch) ∙ ap e.on.scratches q
        go (no _) = refl

    -- a tenant whose session is another's stays as it is
    other-tenant : (b : ℕ) (x : Did) → x.name ≢ e.name → Tenant e.on l b x → Tenant st' (did e ∷ l) b x
    other-tenant b x h k = record {
      lent_is = lent_other (ℕ_discrete e.name x.name) e.step e.scratch (lent_to l x.name) (λ q. h (sym q)) ∙ k.lent_is;
      is-begun = ap is_begun (not-now x.name h) ∙ k.is-begun;
      role-is = ap role_in (not-now x.name h) ∙ k.role-is;
      terms-are = ap terms_in (not-now x.name h) ∙ k.terms-are;
      coins-are = k.coins-are;
    }

    -- ---- a first step

    module _ (t : Terms) (k : First) (s : e.step ≡ begins t k) (a : e.on.sessions e.name ≡ absent) (g : Begins t k (slot_by size start e) e.effect) where
      not_named : (b : ℕ) (x : Did) → tenant l b ≡ some x → x.name ≢ e.name
      not_named b x h q = absent≢ (ap e.on.sessions q ∙ a) (o.is-tenant b x h).is-begun

      -- of another end
      module _ (n : role_first k ≡ blinder → ⊥) where
        same-tenant : (b : ℕ) → tenant (did e ∷ l) b ≡ tenant l b
        same-tenant b = tenant-quiet (ℕ_discrete e.scratch b) e e.step (tenant l b) s n

        quiet-first : Lent lent st' (did e ∷ l)
        quiet-first = record {
          shown = λ b.
              untouched-scratch (g.laid ∙ quiet-coins (role_first k) ((opening k).coins t) n) b
              ∙ o.shown b
              ∙ words_same lent e.on.sessions st'.sessions b (tenant l b) (λ x h. inl (ap due_in (sym (not-now x.name (not_named b x h)))))
              ∙ ap (scratch_words lent st'.sessions b) (sym (same-tenant b));
          is-tenant = λ b x h. let h' = sym (same-tenant b) ∙ h in other-tenant b x (not_named b x h') (o.is-tenant b x h');
          keeps-it = keeps;
        }
          where
            keeps : (m : ℕ) → 0 < due_in (st'.sessions m) → role_in (st'.sessions m) ≡ blinder → (x : Did) × (tenant (did e ∷ l) (lent_to (did e ∷ l) m) ≡ some x) × (x.name ≡ m)
            keeps m d r = go (ℕ_discrete m e.name)
              where
                go : Dec (m ≡ e.name) → (x : Did) × (tenant (did e ∷ l) (lent_to (did e ∷ l) m) ≡ some x) × (x.name ≡ m)
                go (yes q) = absurd (n (sym g.role-is ∙ ap role_in (sym is-now) ∙ ap (λ (m : ℕ). role_in (st'.sessions m)) (sym q) ∙ r))
                go (no h) =
                    let x = o.keeps-it m (rw (not-now m h) at d) (rw (not-now m h) at r) in
                    (x.0, same-tenant _ ∙ ap (tenant l) (lent_other (ℕ_discrete e.name m) e.step e.scratch (lent_to l m) (λ q. h (sym q))) ∙ x.1, x.2)

      -- of a blinder
      module _ (r : role_first k ≡ blinder) where
        open-now : 0 < due_in e.effect.session
        open-now = still_open (role_first k) (first_next t k) (due_in e.effect.session) g.stays r g.due-is

        new-tenant : tenant (did e ∷ l) e.scratch ≡ some e
        new-tenant = tenant-new (ℕ_discrete e.scratch e.scratch) e e.step (tenant l e.scratch) s r refl

        new-lent : lent_to (did e ∷ l) e.name ≡ e.scratch
        new-lent = lent-first (ℕ_discrete e.name e.name) e.step e.scratch (lent_to l e.name) s refl

        coins : coins_in e.step ≡ coins_by t k
        coins = ap coins_in s

        blinder-shown : (b : ℕ) → st'.scratches b ≡ scratch_words lent st'.sessions b (tenant (did e ∷ l) b)
        blinder-shown b = go (ℕ_discrete e.scratch b)
          where
            this : st'.scratches e.scratch ≡ scratch_words lent st'.sessions e.scratch (tenant (did e ∷ l) e.scratch)
            this =
                set_same e.scratch (over e.effect.scratch (e.on.scratches e.scratch)) e.on.scratches
                ∙ ap (λ (z : List ℕ). over z (e.on.scratches e.scratch))
                (g.laid ∙ sym coins
                ∙ sym (kept-open (due_in (st'.sessions e.name)) (terms_by e.step) (coins_in e.step)
                (subst (λ (x : Session). 0 < due_in x) (sym is-now) open-now)))
                ∙ ap (scratch_words lent st'.sessions e.scratch) (sym new-tenant)

            go : Dec (e.scratch ≡ b) → st'.scratches b ≡ scratch_words lent st'.sessions b (tenant (did e ∷ l) b)
            go (yes q) = subst (λ (b : ℕ). st'.scratches b ≡ scratch_words lent st'.sessions b (tenant (did e ∷ l) b)) q this
            go (no h) =
                set_other e.scratch (over e.effect.scratch (e.on.scratches e.scratch)) e.on.scratches b (λ q. h (sym q))
                ∙ o.shown b
                ∙ words_same lent e.on.sessions st'.sessions b (tenant l b) (λ x i. inl (ap due_in (sym (not-now x.name (not_named b x i)))))
                ∙ ap (scratch_words lent st'.sessions b) (sym (tenant-other (ℕ_discrete e.scratch b) e e.step (tenant l b) h))

        blinder-tenant : (b : ℕ) (x : Did) → tenant (did e ∷ l) b ≡ some x → Tenant st' (did e ∷ l) b x
        blinder-tenant b x h = go (ℕ_discrete e.scratch b)
          where
            this : Tenant st' (did e ∷ l) e.scratch e
            this = record {
              lent_is = new-lent;
              is-begun = ap is_begun is-now ∙ g.is-begun;
              role-is = ap role_in is-now ∙ g.role-is ∙ r;
              terms-are = ap terms_in is-now ∙ g.terms-are ∙ sym (ap terms_by s);
              coins-are =
                  ap length coins ∙ own-coins (role_first k) t ((opening k).coins t) r g.drew.size ∙ ap (λ (k : Step). scratch_size (terms_by k)) (sym s);
            }

            go : Dec (e.scratch ≡ b) → Tenant st' (did e ∷ l) b x
            go (yes q) = subst₂ (λ (b : ℕ) (x : Did). Tenant st' (did e ∷ l) b x) q (same_some (sym new-tenant ∙ ap (tenant (did e ∷ l)) q ∙ h)) this
            go (no n) =
                let h' : tenant l b ≡ some x = sym (tenant-other (ℕ_discrete e.scratch b) e e.step (tenant l b) n) ∙ h in
                other-tenant b x (not_named b x h') (o.is-tenant b x h')

        blinder-keeps : (n : ℕ) → 0 < due_in (st'.sessions n) → role_in (st'.sessions n) ≡ blinder
            → (x : Did) × (tenant (did e ∷ l) (lent_to (did e ∷ l) n) ≡ some x) × (x.name ≡ n)
        blinder-keeps n d b = go (ℕ_discrete n e.name)
          where
            fair : OwnScratchBy l e (begins t k)
            fair = subst (λ (k : Step). OwnScratchBy l e k) s p.1.0.own-scratch

            go : Dec (n ≡ e.name) → (x : Did) × (tenant (did e ∷ l) (lent_to (did e ∷ l) n) ≡ some x) × (x.name ≡ n)
            go (yes q) = (e, ap (tenant (did e ∷ l)) (ap (lent_to (did e ∷ l)) q ∙ new-lent) ∙ new-tenant, sym q)
            go (no h) =
                let d' : 0 < due_in (e.on.sessions n) = rw (not-now n h) at d in
                let r' : role_in (e.on.sessions n) ≡ blinder = rw (not-now n h) at b in
                let x = o.keeps-it n d' r' in
                let same : lent_to (did e ∷ l) n ≡ lent_to l n = lent_other (ℕ_discrete e.name n) e.step e.scratch (lent_to l n) (λ q. h (sym q)) in (
                  x.0,
                  ap (tenant (did e ∷ l)) same ∙ tenant-other (ℕ_discrete e.scratch (lent_to l n)) e e.step (tenant l (lent_to l n))
                      (λ q. fair (ap role_of s ∙ r) n d' r' (sym q)) ∙ x.1,
                  x.2,
                )

        new-blinder : Lent lent st' (did e ∷ l)
        new-blinder = record { shown = blinder-shown; is-tenant = blinder-tenant; keeps-it = blinder-keeps }

    -- ---- a later step or a drop

    module _ (k : Later) (s : e.step ≡ goes_on k) (g : Continues k (e.on.sessions e.name) (slot_by size start e) e.effect) where
      abbrev before : Session
      before = e.on.sessions e.name

      fair : role_in before ≡ blinder → lent_to l e.name ≡ e.scratch
      fair r = subst (λ (z : Step). OwnScratchBy l e z) s p.1.0.own-scratch (ap role_of s ∙ sym g.role-was ∙ r)

      tenant-stays : (b : ℕ) → tenant (did e ∷ l) b ≡ tenant l b
      tenant-stays b = tenant-later (ℕ_discrete e.scratch b) e e.step (tenant l b) s

      lent-stays : (n : ℕ) → lent_to (did e ∷ l) n ≡ lent_to l n
      lent-stays n = lent-later (ℕ_discrete e.name n) e.step e.scratch (lent_to l n) s

      role-now : role_in (st'.sessions e.name) ≡ role_in before
      role-now = ap role_in is-now ∙ g.role-is

      terms-now : terms_in (st'.sessions e.name) ≡ terms_in before
      terms-now = ap terms_in is-now ∙ g.terms-are

      later-tenant : (b : ℕ) (x : Did) → tenant (did e ∷ l) b ≡ some x → Tenant st' (did e ∷ l) b x
      later-tenant b x h = go (ℕ_discrete x.name e.name) (o.is-tenant b x (sym (tenant-stays b) ∙ h))
        where
          go : Dec (x.name ≡ e.name) → Tenant e.on l b x → Tenant st' (did e ∷ l) b x
          go (yes q) k = record {
            lent_is = lent-stays x.name ∙ k.lent_is;
            is-begun = ap (λ (n : ℕ). is_begun (st'.sessions n)) q ∙ ap is_begun is-now ∙ g.is-begun;
            role-is = ap (λ (n : ℕ). role_in (st'.sessions n)) q ∙ role-now ∙ ap (λ (n : ℕ). role_in (e.on.sessions n)) (sym q) ∙ k.role-is;
            terms-are = ap (λ (n : ℕ). terms_in (st'.sessions n)) q ∙ terms-now ∙ ap (λ (n : ℕ). terms_in (e.on.sessions n)) (sym q) ∙ k.terms-are;
            coins-are = k.coins-are;
          }
          go (no n) k = other-tenant b x n k

      later-keeps : (n : ℕ) → 0 < due_in (st'.sessions n) → role_in (st'.sessions n) ≡ blinder → (x : Did) × (tenant (did e ∷ l) (lent_to (did e ∷ l) n) ≡ some x) × (x.name ≡ n)
      later-keeps n d r =
          let x = go (ℕ_discrete n e.name) in
          (x.0, ap (tenant (did e ∷ l)) (lent-stays n) ∙ tenant-stays (lent_to l n) ∙ x.1, x.2)
        where
          go : Dec (n ≡ e.name) → (x : Did) × (tenant l (lent_to l n) ≡ some x) × (x.name ≡ n)
          go (yes q) = o.keeps-it n (subst (λ (n : ℕ). 0 < due_in (e.on.sessions n)) (sym q) g.session-open.is_open)
              (ap (λ (n : ℕ). role_in (e.on.sessions n)) q ∙ sym role-now ∙ ap (λ (n : ℕ). role_in (st'.sessions n)) (sym q) ∙ r)
          go (no h) = o.keeps-it n (rw (not-now n h) at d) (rw (not-now n h) at r)

      -- nothing is written, and whether the tenants' sessions are open stays
      calm : e.effect.scratch ≡ [] → ((x : Did) → (b : ℕ) → tenant l b ≡ some x → x.name ≡ e.name → 0 < due_in e.effect.session)
          → (b : ℕ) → st'.scratches b ≡ scratch_words lent st'.sessions b (tenant (did e ∷ l) b)
      calm h still b =
          untouched-scratch h b
          ∙ o.shown b
          ∙ words_same lent e.on.sessions st'.sessions b (tenant l b) (λ x i. go x i (ℕ_discrete x.name e.name))
          ∙ ap (scratch_words lent st'.sessions b) (sym (tenant-stays b))
        where
          go : (x : Did) → tenant l b ≡ some x → Dec (x.name ≡ e.name)
              → (due_in (e.on.sessions x.name) ≡ due_in (st'.sessions x.name)) ⊎ ((0 < due_in (e.on.sessions x.name)) × (0 < due_in (st'.sessions x.name)))
          go x i (yes q) = inr (
            subst (λ (n : ℕ). 0 < due_in (e.on.sessions n)) (sym q) g.session-open.is_open,
            subst (λ (n : ℕ). 0 < due_in (st'.sessions n)) (sym q) (subst (λ (y : Session). 0 < due_in y) (sym is-now) (still x b i q)),
          )
          go x i (no n) = inl (ap due_in (sym (not-now x.name n)))

      -- the blinder's session ends: zeros over P and U0
      ends : role_in before ≡ blinder → due_in e.effect.session ≡ 0 → (b : ℕ) → st'.scratches b ≡ scratch_words lent st'.sessions b (tenant (did e ∷ l) b)
      unfolding zeros
      ends r d b = go (ℕ_discrete e.scratch b)
        where
          found : (x : Did) × (tenant l (lent_to l e.name) ≡ some x) × (x.name ≡ e.name)
          found = o.keeps-it e.name g.session-open.is_open r

          at : tenant l e.scratch ≡ some found.0
          at = ap (tenant l) (sym (fair r)) ∙ found.1

          ten : Tenant e.on l e.scratch found.0
          ten = o.is-tenant e.scratch found.0 at

          terms-is : terms_in before ≡ terms_by found.0.step
          terms-is = ap (λ (n : ℕ). terms_in (e.on.sessions n)) (sym found.2) ∙ ten.terms-are

          wrote : e.effect.scratch ≡ zeros (scratch_size (terms_by found.0.step))
          wrote =
              g.cleared ∙ ap (λ (d : ℕ). wipe_scratch d (role_in before) (terms_in before)) d ∙ ap (λ (r : Role). wipe_scratch 0 r (terms_in before)) r
              ∙ ap (λ (t : Terms). zeros (scratch_size t)) terms-is

          was-open : 0 < due_in (e.on.sessions found.0.name)
          was-open = subst (λ (n : ℕ). 0 < due_in (e.on.sessions n)) (sym found.2) g.session-open.is_open

          is-closed : due_in (st'.sessions found.0.name) ≡ 0
          is-closed = ap (λ (n : ℕ). due_in (st'.sessions n)) found.2 ∙ ap due_in is-now ∙ d

          this : st'.scratches e.scratch ≡ scratch_words lent st'.sessions e.scratch (tenant (did e ∷ l) e.scratch)
          this =
              set_same e.scratch (over e.effect.scratch (e.on.scratches e.scratch)) e.on.scratches
              ∙ ap₂ over wrote (o.shown e.scratch ∙ ap (scratch_words lent e.on.sessions e.scratch) at
              ∙ ap (λ (z : List ℕ). over z (found.0.on.scratches e.scratch))
              (kept-open (due_in (e.on.sessions found.0.name)) (terms_by found.0.step) (coins_in found.0.step) was-open))
              ∙ over-over (zeros (scratch_size (terms_by found.0.step))) (coins_in found.0.step) (found.0.on.scratches e.scratch)
              (length-tabulate _ (λ i. 0) ∙ sym ten.coins-are)
              ∙ ap (λ (d : ℕ). over (kept_words d (terms_by found.0.step) (coins_in found.0.step)) (found.0.on.scratches e.scratch)) (sym is-closed)
              ∙ ap (scratch_words lent st'.sessions e.scratch) (sym (tenant-stays e.scratch ∙ at))

          go : Dec (e.scratch ≡ b) → st'.scratches b ≡ scratch_words lent st'.sessions b (tenant (did e ∷ l) b)
          go (yes q) = subst (λ (b : ℕ). st'.scratches b ≡ scratch_words lent st'.sessions b (tenant (did e ∷ l) b)) q this
          go (no h) =
              set_other e.scratch (over e.effect.scratch (e.on.scratches e.scratch)) e.on.scratches b (λ q. h (sym q))
              ∙ o.shown b
              ∙ words_same lent e.on.sessions st'.sessions b (tenant l b)
              (λ y i. inl (ap due_in (sym (not-now y.name (λ q. h (sym (fair r) ∙ ap (lent_to l) (sym q) ∙ (o.is-tenant b y i).lent_is))))))
              ∙ ap (scratch_words lent st'.sessions b) (sym (tenant-stays b))

      later-shown : (b : ℕ) → st'.scratches b ≡ scratch_words lent st'.sessions b (tenant (did e ∷ l) b)
      later-shown = go (is-blinder? (role_in before)) (due_in e.effect.session) refl
        where
          go : Dec (role_in before ≡ blinder) → (d : ℕ) → due_in e.effect.session ≡ d → (b : ℕ) → st'.scratches b ≡ scratch_words lent st'.sessions b (tenant (did e ∷ l) b)
          go (no n) d q =
              calm (g.cleared ∙ wipe-none (due_in e.effect.session) (role_in before) (terms_in before) n)
              (λ x b i z. absurd (n (ap (λ (n : ℕ). role_in (e.on.sessions n)) (sym z) ∙ (o.is-tenant b x i).role-is)))
          go (yes r) zero q = ends r q
          go (yes r) (suc d) q =
              calm (g.cleared ∙ wipe-open (due_in e.effect.session) (role_in before) (terms_in before) (omega (arith, q))) (λ x b i z. omega (arith, q))

      later_lent : Lent lent st' (did e ∷ l)
      later_lent = record { shown = later-shown; is-tenant = later-tenant; keeps-it = later-keeps }

    pub move-lent : Lent lent st' (did e ∷ l)
    move-lent = go mv.way
      where
        by-role : (t : Terms) (k : First) (s : e.step ≡ begins t k) (a : e.on.sessions e.name ≡ absent)
            (g : Begins t k (slot_by size start e) e.effect) → Dec (role_first k ≡ blinder)
            → Lent lent st' (did e ∷ l)
        by-role t k s a g (yes r) = new-blinder t k s a g r
        by-role t k s a g (no n) = quiet-first t k s a g n

        go : Way size start e mv.server → Lent lent st' (did e ∷ l)
        go (fresh t k s u a g) = by-role t k s a g (is-blinder? (role_first k))
        go (onward k s u g) = later_lent k s g

  pub lent-scratches : Empty size start → (cs : List Call) → Premises size (run size start lent cs).log → Lent lent (run size start lent cs).state (run size start lent cs).log
  lent-scratches empty cs p =
      (along size start empty lent (Lent lent)
      (record { shown = λ b. refl; is-tenant = λ b e h. none≢ h; keeps-it = λ n d r. absurd (omega arith) })
      (λ l d x v q h o. record {
        shown = o.shown;
        is-tenant = λ b e i. let k = o.is-tenant b e i in
            record { lent_is = k.lent_is; is-begun = k.is-begun; role-is = k.role-is; terms-are = k.terms-are; coins-are = k.coins-are };
        keeps-it = o.keeps-it;
      })
      (λ l e v q mv o. move-lent l e q mv o) cs p).1
