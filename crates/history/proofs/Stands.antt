-- Every view that stands for a session of the list is one of those that protocol's counts are for: as it was answered, and with another message sent, which
-- the other end accepted.
--   taken-fit, heard            a message that a step of a product accepted fits its tape
--   stands-secret
-- Assumes nothing.
use mathlib.Core.Path.{◌≡◌, refl, sym, ap, ◌∙◌, subst, subst₂}
use mathlib.Core.Logic.{inl, inr}
use mathlib.Core.Bool.{true}
use mathlib.Core.List.{List, [], ◌∷◌}
use Prim.Native.Nat.{ℕ, ◌+◌, ◌≤◌}
use native.Mathlib.Omega.{arith}
use lib.ListN.{length}
use Rattle.algebra.specs.Matrix.{Residues}
use Rattle.protocol.specs.declared.Terms.{Terms}
use Rattle.protocol.specs.Judge.{done}
use Rattle.protocol.specs.Bounds.{product}
use Rattle.protocol.specs.Tape.{Slot, Role, left, right, blinder, solver, sort_of}
use Rattle.protocol.specs.Message.{Message, message_size}
use Rattle.protocol.specs.Step.{Effect}
use Rattle.protocol.specs.View.{View, facing, kinds_sent}
use Rattle.protocol.specs.Completion.{Secret}
use Rattle.protocol.proofs.Completion.{Messages, no_more, ◌before◌, ahead, Arises, secret}
use Rattle.history.specs.Ends.{Session, is_begun, terms_in, role_in, Row, Step, begins, goes_on, role_first, role_later, role_of, run_step}
use Rattle.history.specs.Log.{Party, State, Call, Dealing, Did, Entry, did, run, WasDone, number_of, Premises}
use Rattle.history.specs.Seen.{view, taken_first, taken_later, taken_by, with_sent, AcceptedBy, Stands, as-answered, as-accepted}
use Rattle.history.specs.Claim.{Empty}
use Rattle.history.proofs.Facts.{one-dealing}
use Rattle.history.proofs.Accepted.{first_row, later_row, Hears, in-system}
use Rattle.history.proofs.Steps.{begins-sound, continues-sound}
use Rattle.history.proofs.Kept.{state_after, Move}
use Rattle.history.proofs.Along.{along}
use Rattle.history.proofs.Served.{served}
use Rattle.history.proofs.Known.{Known, arises, seen-known}
use Rattle.history.proofs.Views.{views}

-- ---- an accepted message

-- it fits the terms of the session that took it
abbrev Fit : Step → Effect Session → Message → Type 0
Fit k f a = Messages (terms_in f.session) (kinds_sent (facing (role_of k)) (terms_in f.session)) (a.residues ∷ [])

heard-fit : (r : Row) (t : Terms) (ms : List Message) (a : Message) → Hears r t ms → ms ≡ a ∷ [] → sort_of r.role ≡ product
    → Messages t (kinds_sent (facing r.role) t) (a.residues ∷ [])
heard-fit r t [] a h e p = absurd (let z : ◌≡◌ {A = ℕ} 0 1 = cc in omega arith)
heard-fit r t (m ∷ ms) a h e p =
    subst₂ (λ (ks : List ℕ) (m : Message). Messages t ks (m.residues ∷ [])) (sym (h.1 p)) (the-message e) (h.0.residues before no_more)
  where
    the-message : m ∷ ms ≡ a ∷ [] → m ≡ a
    the-message e = cc

taken-fit : (k : Step) (x : Session) (s : Slot) (u : List ℕ) (f : Effect Session) (a : Message) → run_step k x s u ≡ done f → taken_by k ≡ a ∷ []
    → sort_of (role_of k) ≡ product → Fit k f a
taken-fit (begins t k) x s u f a h e p =
    let g = begins-sound t k s u f h in
    subst (λ (t : Terms). Messages t (kinds_sent (facing (role_first k)) t) (a.residues ∷ [])) (sym g.terms-are)
    (heard-fit (first_row k) t (taken_first k) a g.heard e p)
taken-fit (goes_on k) x s u f a h e p =
    let g = continues-sound k x s u f h in
    subst (λ (t : Terms). Messages t (kinds_sent (facing (role_later k)) t) (a.residues ∷ [])) (sym g.terms-are)
    (heard-fit (later_row k) (terms_in x) (taken_later k) a g.heard e p)

-- the same message fits other terms with that tape
resized : (t t' : Terms) (kind : ℕ) (l : List ℕ) → t.q ≡ t'.q → t.m ≡ t'.m → t.k ≡ t'.k → t.p ≡ t'.p → Residues t.q (message_size kind t) l
    → Residues t'.q (message_size kind t') l
unfolding message_size
resized t t' kind l eq em ek ep r = rw (← eq, ← em, ← ek, ← ep) r

refits : (t t' : Terms) {ks : List ℕ} {l : List ℕ} → t.q ≡ t'.q → t.m ≡ t'.m → t.k ≡ t'.k → t.p ≡ t'.p → Messages t ks (l ∷ []) → Messages t' ks (l ∷ [])
refits t t' eq em ek ep (◌before◌ {k} {a} r no_more) = resized t t' k a eq em ek ep r before no_more

facing-twice : (role : Role) → facing (facing role) ≡ role
facing-twice left = refl
facing-twice right = refl
facing-twice blinder = refl
facing-twice solver = refl

product-facing : (role : Role) → sort_of role ≡ product → sort_of (facing role) ≡ product
product-facing left e = refl
product-facing right e = refl
product-facing blinder e = e
product-facing solver e = e

-- the kinds that an end of a product sends are the same on all terms
product-kinds : (role : Role) (t t' : Terms) → sort_of role ≡ product → kinds_sent role t ≡ kinds_sent role t'
product-kinds left t t' e = refl
product-kinds right t t' e = refl
product-kinds blinder t t' e = refl
product-kinds solver t t' e = in-system e

-- an end of a product receives one message
one-received : (role : Role) {t : Terms} {got : List (List ℕ)} → sort_of role ≡ product → Messages t (kinds_sent (facing role) t) got → length got ≤ 1 + ahead role
one-received left e no_more = omega arith
one-received left e (r before no_more) = omega arith
one-received right e no_more = omega arith
one-received right e (r before no_more) = omega arith
one-received blinder e m = in-system e
one-received solver e m = in-system e

-- ---- after every list

abbrev Heard : State → List Entry → Type 0
Heard st l = (e : Did) → WasDone e l → (a : Message) → taken_by e.step ≡ a ∷ [] → sort_of (role_of e.step) ≡ product → Fit e.step e.effect a

move-heard : (size : Party → ℕ) (start : Party → List ℕ) (l : List Entry) (e : Did) → Move size start l e → Heard e.on l → Heard (state_after size start e) (did e ∷ l)
move-heard size start l e mv o e' (inl i) a h s =
    subst (λ (e : Did). taken_by e.step ≡ a ∷ [] → sort_of (role_of e.step) ≡ product → Fit e.step e.effect a) i
    (λ h s. taken-fit e.step _ _ _ e.effect a mv.acted h s) h s
move-heard size start l e mv o e' (inr w) a h s = o e' w a h s

module _ (size : Party → ℕ) (start : Party → List ℕ) (empty : Empty size start) (lent : ℕ → List ℕ) (cs : List Call) (p : Premises size (run size start lent cs).log) where
  abbrev st : State
  st = (run size start lent cs).state

  abbrev l : List Entry
  l = (run size start lent cs).log

  heard : Heard st l
  heard = (along size start empty lent Heard (λ e w. absurd w) (λ l d x v q h o. o) (λ l e v q mv o. move-heard size start l e mv o) cs p).1

  pub known : (n : ℕ) → is_begun (st.sessions n) ≡ true → Known (role_in (st.sessions n)) (terms_in (st.sessions n)) (view l n)
  known n b = seen-known (st.sessions n) (view l n) ((views size start lent empty cs p).seen n) b

  -- two sessions on one tape have its modulus and sides
  same-tape : (n n' : ℕ) → (b : is_begun (st.sessions n) ≡ true) (b' : is_begun (st.sessions n') ≡ true) → (view l n).terms.tape.0 ≡ (view l n').terms.tape.0
      → {ks : List ℕ} {a : List ℕ} → Messages (terms_in (st.sessions n)) ks (a ∷ []) → Messages (terms_in (st.sessions n')) ks (a ∷ [])
  same-tape n n' b b' e ms =
      let o = served size start empty lent cs p in
      let k = o.known n b in
      let k' = o.known n' b' in
      let tape : number_of k.1 ≡ number_of k'.1 =
      sym k.3.tape-is ∙ ap (λ (t : Terms). t.tape.0) (sym (known n b).terms-are) ∙ e ∙ ap (λ (t : Terms). t.tape.0) (known n' b').terms-are ∙ k'.3.tape-is
      in
      let one : k.1 ≡ k'.1 = one-dealing l p.0 k.1 k'.1 k.2 k'.2 tape in
      refits (terms_in (st.sessions n)) (terms_in (st.sessions n'))
      (k.3.q-is ∙ ap (λ (d : Dealing). d.request.q) one ∙ sym k'.3.q-is) (k.3.m-is ∙ ap (λ (d : Dealing). d.request.m) one ∙ sym k'.3.m-is)
      (k.3.k-is ∙ ap (λ (d : Dealing). d.request.k) one ∙ sym k'.3.k-is) (k.3.p-is ∙ ap (λ (d : Dealing). d.request.p) one ∙ sym k'.3.p-is) ms

  -- the view with an accepted message sent
  accepted-arises : (n : ℕ) → is_begun (st.sessions n) ≡ true → (a : Message) → AcceptedBy l (view l n) a → Arises (with_sent a (view l n))
  accepted-arises n b a c =
      let k = arises (known n b) in
      let o = (served size start empty lent cs p).of c.step c.was-done in
      let role = (view l n).role in
      let s : sort_of (role_of c.step.step) ≡ product = ap sort_of c.other-end ∙ product-facing role c.in-product in
      let then = terms_in (st.sessions c.step.name) in
      let f : Messages then (kinds_sent role then) (a.residues ∷ []) =
      subst₂ (λ (t : Terms) (r : Role). Messages t (kinds_sent r t) (a.residues ∷ [])) (sym o.1) (ap facing c.other-end ∙ facing-twice role)
      (heard c.step c.was-done a c.message s)
      in
      record {
        terms-fit = k.terms-fit;
        half-fits = k.half-fits;
        mask_fits = k.mask_fits;
        sent-fit = subst₂ (λ (t : Terms) (ks : List ℕ). Messages t ks (a.residues ∷ [])) (sym (known n b).terms-are) (product-kinds role then (view l n).terms c.in-product)
            (same-tape c.step.name n o.0 b c.same-tape f);
        received-fit = k.received-fit;
        in-turn = one-received role c.in-product k.received-fit;
        kept = λ y. in-system (sym y ∙ c.in-product);
      }

  pub stands-secret : (n : ℕ) → is_begun (st.sessions n) ≡ true → (v : View) → Stands l (view l n) v → Secret v
  stands-secret n b v as-answered = secret v (arises (known n b))
  stands-secret n b v (as-accepted a c) = secret v (accepted-arises n b a c)
