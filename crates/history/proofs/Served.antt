-- Each half served one session at most: no other session's step or drop was accepted on it.
--   Served, served
-- Assumes nothing.
use mathlib.Core.Path.{◌≡◌, refl, sym, ap, ◌∙◌, subst, subst₂}
use mathlib.Core.Logic.{◌⊎◌, inl, inr}
use mathlib.Core.Bool.{true}
use mathlib.Core.List.{List, ◌∷◌}
use mathlib.Core.Option.{none}
use Prim.Native.Nat.{ℕ}
use native.Mathlib.Decide.{ℕ_discrete}
use Rattle.protocol.specs.declared.Terms.{Terms}
use Rattle.protocol.specs.Judge.{done}
use Rattle.protocol.specs.Deal.{Dealt, deal}
use Rattle.history.specs.Ends.{Session, is_begun, terms_in, role_in}
use Rattle.history.specs.Log.{choose, Party, State, Call, Dealing, Did, Entry, dealt, did, opposite, after_dealing, run, half_role, holds, here, place, WasDealt, WasDone, number_of, Premises}
use Rattle.history.proofs.Facts.{set_same, set_other, none≢, absent≢, same-server, same-dealing, place-known, one-half}
use Rattle.history.proofs.Kept.{Agrees, agrees_on, Inv, state_after, Way, fresh, onward, Move, place-now, place-else}
use Rattle.history.specs.Claim.{Empty}
use Rattle.history.proofs.Along.{along}

-- the tape number that a session bears
abbrev pub tape_in : Session → ℕ
tape_in x = (terms_in x).tape.0

pub record Served (st : State) (l : List Entry) : Type 0 where
  -- a session's tape was dealt
  pub known : (n : ℕ) → is_begun (st.sessions n) ≡ true → (w : Party) × (d : Dealing) × WasDealt d l × Agrees (st.sessions n) w d
  -- a half that serves none served none before
  pub unserved : (w : Party) (i : ℕ) (d : Dealing) → place l w i ≡ holds d none
      → (n : ℕ) → is_begun (st.sessions n) ≡ true → tape_in (st.sessions n) ≡ number_of d → role_in (st.sessions n) ≡ half_role w d → ⊥
  -- two sessions on one half are one
  pub one : (n n' : ℕ) → is_begun (st.sessions n) ≡ true → is_begun (st.sessions n') ≡ true
      → tape_in (st.sessions n) ≡ tape_in (st.sessions n') → role_in (st.sessions n) ≡ role_in (st.sessions n') → n ≡ n'
  -- an accepted step was on its session's half
  pub of : (e : Did) → WasDone e l → (is_begun (st.sessions e.name) ≡ true) × (terms_in (st.sessions e.name) ≡ terms_in e.effect.session)
      × (role_in (st.sessions e.name) ≡ role_in e.effect.session)

module _ (size : Party → ℕ) (start : Party → List ℕ) where
  deal-served : (l : List Entry) (d : Dealing) (x : Dealt) → Inv size start d.on l → Premises size (dealt d ∷ l)
      → deal (d.on.pools d.holder) (d.on.pools (opposite d.holder)) d.size d.index d.request ≡ done x → Served d.on l
      → Served (after_dealing d.holder x d.on) (dealt d ∷ l)
  deal-served l d x v p h o = record { known = λ n b. let k = o.known n b in (k.0, k.1, inr k.2, k.3); unserved = still; one = o.one; of = o.of }
    where
      still : (w : Party) (i : ℕ) (d' : Dealing) → place (dealt d ∷ l) w i ≡ holds d' none
          → (n : ℕ) → is_begun (d.on.sessions n) ≡ true → tape_in (d.on.sessions n) ≡ number_of d' → role_in (d.on.sessions n) ≡ half_role w d' → ⊥
      still w i d' f n b t r = go (ℕ_discrete d.index i) f
        where
          go : (c : Dec (d.index ≡ i)) → choose c (holds d none) (place l w i) ≡ holds d' none → ⊥
          go (yes q) g = let k = o.known n b in p.0.0 k.1 k.2 (sym k.3.tape-is ∙ t ∙ ap number_of (sym (same-dealing g)))
          go (no _) g = o.unserved w i d' g n b t r

  move-served : (l : List Entry) (e : Did) → Inv size start e.on l → Premises size (did e ∷ l) → Move size start l e → Served e.on l
      → Served (state_after size start e) (did e ∷ l)
  move-served l e v p mv o = record { known = known-now; unserved = still; one = one-now; of = of-now }
    where
      after : ℕ → Session
      after = (state_after size start e).sessions

      is-now : after e.name ≡ e.effect.session
      is-now = set_same e.name e.effect.session e.on.sessions

      -- a session that was begun keeps its terms and its role
      same : (n : ℕ) → is_begun (e.on.sessions n) ≡ true → (terms_in (after n) ≡ terms_in (e.on.sessions n)) × (role_in (after n) ≡ role_in (e.on.sessions n))
      same n b = go (ℕ_discrete n e.name) mv.way
        where
          go : Dec (n ≡ e.name) → Way size start e mv.server → (terms_in (after n) ≡ terms_in (e.on.sessions n)) × (role_in (after n) ≡ role_in (e.on.sessions n))
          go (yes q) (fresh t k s u a g) = absent≢ (ap e.on.sessions q ∙ a) b
          go (yes q) (onward k s u g) = (
            ap terms_in (ap after q ∙ is-now) ∙ g.terms-are ∙ ap (λ (n : ℕ). terms_in (e.on.sessions n)) (sym q),
            ap role_in (ap after q ∙ is-now) ∙ g.role-is ∙ ap (λ (n : ℕ). role_in (e.on.sessions n)) (sym q),
          )
          go (no h) w = let z = set_other e.name e.effect.session e.on.sessions n h in (ap terms_in z, ap role_in z)

      -- a session that is begun now was begun before, or begins now on a half that served none
      which : (n : ℕ) → is_begun (after n) ≡ true → ((e.name ≡ n) × (mv.server ≡ none)) ⊎ (is_begun (e.on.sessions n) ≡ true)
      which n b = go (ℕ_discrete n e.name) mv.way
        where
          go : Dec (n ≡ e.name) → Way size start e mv.server → ((e.name ≡ n) × (mv.server ≡ none)) ⊎ (is_begun (e.on.sessions n) ≡ true)
          go (yes q) (fresh t k s u a g) = inl (sym q, u)
          go (yes q) (onward k s u g) = inr (ap (λ (n : ℕ). is_begun (e.on.sessions n)) q ∙ g.was-begun)
          go (no h) w = inr (ap is_begun (sym (set_other e.name e.effect.session e.on.sessions n h)) ∙ b)

      half-known : WasDealt mv.dealing l
      half-known = (place-known l e.party e.index mv.stands).0

      tape-now : tape_in (after e.name) ≡ number_of mv.dealing
      tape-now = ap tape_in is-now ∙ mv.agrees.tape-is

      role-now : role_in (after e.name) ≡ half_role e.party mv.dealing
      role-now = ap role_in is-now ∙ mv.agrees.role-is

      known-now : (n : ℕ) → is_begun (after n) ≡ true → (w : Party) × (d : Dealing) × WasDealt d l × Agrees (after n) w d
      known-now n b = elim (which n b) [
        | inl a ↦ (e.party, mv.dealing, half-known, subst (λ (x : Session). Agrees x e.party mv.dealing) (sym is-now ∙ ap after a.0) mv.agrees)
        | inr c ↦ let k = o.known n c in (k.0, k.1, k.2, agrees_on b (same n c).1 (same n c).0 k.3)
      ]

      still : (w : Party) (i : ℕ) (d : Dealing) → place (did e ∷ l) w i ≡ holds d none
          → (n : ℕ) → is_begun (after n) ≡ true → tape_in (after n) ≡ number_of d → role_in (after n) ≡ half_role w d → ⊥
      still w i d f n b t r = go (here e.party e.index w i) (which n b)
        where
          go : Dec ((e.party ≡ w) × (e.index ≡ i)) → ((e.name ≡ n) × (mv.server ≡ none)) ⊎ (is_begun (e.on.sessions n) ≡ true) → ⊥
          go (yes q) c =
              none≢ (sym (same-server (sym (place-now size start l e v p.0 mv)
              ∙ subst₂ (λ (w : Party) (i : ℕ). place (did e ∷ l) e.party e.index ≡ place (did e ∷ l) w i) q.0 q.1 refl ∙ f)))
          go (no h) (inl a) =
              h (one-half l p.0 e.party w e.index i mv.stands (sym (place-else size start l e v p.0 mv w i h) ∙ f)
              (sym tape-now ∙ ap (λ (n : ℕ). tape_in (after n)) a.0 ∙ t) (sym role-now ∙ ap (λ (n : ℕ). role_in (after n)) a.0 ∙ r))
          go (no h) (inr c) =
              o.unserved w i d (sym (place-else size start l e v p.0 mv w i h) ∙ f) n c (ap (λ (t : Terms). t.tape.0) (sym (same n c).0) ∙ t) (sym (same n c).1 ∙ r)

      -- a session begun now is alone on its half
      alone : (n : ℕ) → mv.server ≡ none → is_begun (e.on.sessions n) ≡ true → tape_in (after e.name) ≡ tape_in (after n) → role_in (after e.name) ≡ role_in (after n) → ⊥
      alone n u c t r =
          o.unserved e.party e.index mv.dealing (mv.stands ∙ ap (holds mv.dealing) u) n c
          (ap (λ (t : Terms). t.tape.0) (sym (same n c).0) ∙ sym t ∙ tape-now) (sym (same n c).1 ∙ sym r ∙ role-now)

      one-now : (n n' : ℕ) → is_begun (after n) ≡ true → is_begun (after n') ≡ true → tape_in (after n) ≡ tape_in (after n') → role_in (after n) ≡ role_in (after n') → n ≡ n'
      one-now n n' b b' t r = go (which n b) (which n' b')
        where
          go : ((e.name ≡ n) × (mv.server ≡ none)) ⊎ (is_begun (e.on.sessions n) ≡ true)
              → ((e.name ≡ n') × (mv.server ≡ none)) ⊎ (is_begun (e.on.sessions n') ≡ true) → n ≡ n'
          go (inl a) (inl c) = sym a.0 ∙ c.0
          go (inl a) (inr c) = absurd (alone n' a.1 c (ap (λ (n : ℕ). tape_in (after n)) a.0 ∙ t) (ap (λ (n : ℕ). role_in (after n)) a.0 ∙ r))
          go (inr a) (inl c) = absurd (alone n c.1 a (ap (λ (n : ℕ). tape_in (after n)) c.0 ∙ sym t) (ap (λ (n : ℕ). role_in (after n)) c.0 ∙ sym r))
          go (inr a) (inr c) = o.one n n' a c
              (ap (λ (t : Terms). t.tape.0) (sym (same n a).0) ∙ t ∙ ap (λ (t : Terms). t.tape.0) (same n' c).0) (sym (same n a).1 ∙ r ∙ (same n' c).1)

      of-now : (e' : Did) → (e ≡ e') ⊎ WasDone e' l → (is_begun (after e'.name) ≡ true) × (terms_in (after e'.name) ≡ terms_in e'.effect.session)
          × (role_in (after e'.name) ≡ role_in e'.effect.session)
      of-now e' (inl q) =
          subst (λ (x : Did). (is_begun (after x.name) ≡ true) × (terms_in (after x.name) ≡ terms_in x.effect.session)
          × (role_in (after x.name) ≡ role_in x.effect.session)) q
          (ap is_begun is-now ∙ mv.agrees.is-begun, ap terms_in is-now, ap role_in is-now)
      of-now e' (inr b) =
          let k = o.of e' b in
          (begun-still (ℕ_discrete e'.name e.name) k.0, (same e'.name k.0).0 ∙ k.1, (same e'.name k.0).1 ∙ k.2)
        where
          begun-still : Dec (e'.name ≡ e.name) → is_begun (e.on.sessions e'.name) ≡ true → is_begun (after e'.name) ≡ true
          begun-still (yes q) b = ap is_begun (ap after q ∙ is-now) ∙ mv.agrees.is-begun
          begun-still (no h) b = ap is_begun (set_other e.name e.effect.session e.on.sessions e'.name h) ∙ b

  pub served : Empty size start → (lent : ℕ → List ℕ) (cs : List Call) → Premises size (run size start lent cs).log
      → Served (run size start lent cs).state (run size start lent cs).log
  served empty lent cs p =
      (along size start empty lent Served
      (record { known = λ n b. absent≢ refl b; unserved = λ w i d e n b t r. absent≢ refl b; one = λ n n' b b' t r. absent≢ refl b; of = λ e h. absurd h })
      deal-served move-served cs p).1
