-- What is known of an accepted step or drop, whatever its kind: all that the bookkeeping uses. proofs/Steps shows it of each.
--   any-decides               an end's own step, as one of any end
--   Begins, began             first steps: what one needs and leaves
--   Continues, went           later steps and drops
--   own_end, own_open, own_is  a session as its own end's
-- Assumes nothing.
use mathlib.Core.Path.{◌≡◌, refl, sym, ap, ◌∙◌, subst}
use mathlib.Core.Logic.{◌⊎◌, inl, inr}
use mathlib.Core.Bool.{Bool, true}
use mathlib.Core.List.{List, [], ◌∷◌}
use Prim.Native.Nat.{ℕ, zero, suc, ◌≤◌, ◌<◌}
use native.Mathlib.Omega.{arith}
use lib.ListN.{length}
use Rattle.algebra.specs.Matrix.{Residues, zeros}
use Rattle.algebra.specs.Count.{parts, total}
use Rattle.protocol.specs.declared.Terms.{Terms}
use Rattle.std.specs.Prelude.{Err}
use Rattle.protocol.specs.declared.Refusal.TheVariants.{Singular}
use Rattle.protocol.specs.Judge.{refused, done}
use Rattle.protocol.specs.Drawing.{residues_of, drawn}
use Rattle.protocol.specs.Bounds.{product, system}
use Rattle.protocol.specs.Tape.{Slot, slot_words, Role, left, right, blinder, solver, sort_of, words_in_use, words_spent}
use Rattle.protocol.specs.Message.{Message, no_message}
use Rattle.protocol.specs.Step.{Effect, Outcome}
use Rattle.protocol.specs.System.{scratch_size}
use Rattle.protocol.specs.View.{facing, coin_layout, kinds_sent}
use Rattle.protocol.specs.Completion.{coins_fit, Taken}
use Rattle.protocol.proofs.Judge.{refused≢done}
use Rattle.protocol.proofs.Residues.{residues-drawn}
use Rattle.protocol.proofs.Tests.{Decides, TermsFit, FirstFits, OpenFits, MessageFits, draw-tests}
use Rattle.history.specs.Ends.{Session, absent, left_end, right_end, solver_end, blinder_end, is_begun, due_in, terms_in, role_in, as_right, as_solver, as_blinder}
use Rattle.history.specs.Ends.{First, Later, StepKind, Turn, opens, awaits, drops, Row, next_kind, row, kind_first, kind_later, role_first, role_later, as_any, of_any}
use Rattle.history.specs.Contents.{coins_by}
use Rattle.history.specs.Seen.{input_of, coins_drawn, taken_first, taken_later}

-- an accepted outcome, as that of the end's own step
of-any : {S : Type 0} (f : S → Session) (o : Outcome S) {e : Effect Session} → of_any f o ≡ done e → (e₀ : Effect S) × (o ≡ done e₀) × (as_any f e₀ ≡ e)
of-any f (refused r) p = absurd (refused≢done p)
of-any f (done e₀) p = (e₀, refl, cc)

pub any-decides : {S : Type 0} (g : S → Session) {o : Outcome S} {e : Effect S} {F : Type 0} → Decides o e F → Decides (of_any g o) (as_any g e) F
any-decides g {o} d = record {
  accepts = λ f. ap (of_any g) (d.accepts f);
  means = λ h.
      let a = of-any g o h in
      let m = d.means a.1 in
      (m.0, ap (as_any g) m.1 ∙ a.2);
}

abbrev pub first_row : First → Row
first_row k = row (kind_first k)

abbrev pub later_row : Later → Row
later_row k = row (kind_later k)

-- the kind that is due after it, in a session with these terms
abbrev pub first_next : Terms → First → ℕ
first_next t k = next_kind (first_row k).next t

abbrev pub later_next : Later → Terms → ℕ
later_next k t = next_kind (later_row k).next t

-- ---- what steps leave and send

-- what is left of the session, the slot's words, and the words written over the scratch
pub record Left : Type 0 where
  pub begun : Bool
  pub role : Role
  pub terms : Terms
  pub due : ℕ
  pub slot : List ℕ
  pub scratch : List ℕ

abbrev pub left_by : Effect Session → Left
left_by e = record {
  begun = is_begun e.session;
  role = role_in e.session;
  terms = terms_in e.session;
  due = due_in e.session;
  slot = e.slot;
  scratch = e.scratch;
}

-- a message of the row's kind; none where the row has none, or it answered 10
abbrev pub Sends : StepKind → Effect Session → Type 0
Sends k e = ((e.sent ≡ no_message) × (((row k).sends ≡ 0) ⊎ (e.answer ≡ Err Singular))) ⊎ MessageFits (row k).sends (terms_in e.session) e.sent

-- the message that it took fits; in a product the facing end sends no other
abbrev pub Hears : Row → Terms → List Message → Type 0
Hears r t [] = r.takes ≡ 0
Hears r t (a ∷ _) = MessageFits r.takes t a × (sort_of r.role ≡ product → kinds_sent (facing r.role) t ≡ r.takes ∷ [])

pub in-system : {A : Type 0} → system ≡ product → A
in-system e = absurd (let z : ◌≡◌ {A = ℕ} 0 1 = cc in omega arith)

-- ---- first steps

-- the slot's words, by the turn that is due afterwards
abbrev pub leave_first : ℕ → Role → Terms → Slot → List ℕ
leave_first zero role t s = words_spent role t (slot_words s)
leave_first (suc _) role t s = words_in_use (slot_words s)

pub record Begins (t : Terms) (k : First) (s : Slot) (e : Effect Session) : Type 0 where
  pub is-begun : is_begun e.session ≡ true
  pub role-is : role_in e.session ≡ role_first k
  pub terms-are : terms_in e.session ≡ t
  pub due-is : due_in e.session ≡ first_next t k
  pub turn_is : (first_row k).turn ≡ opens
  -- only left's session ends with it
  pub stays : (role_first k ≡ left) ⊎ (0 < first_next t k)
  pub first : FirstFits (role_first k) t s
  pub input-taken : Taken (role_first k) t (input_of k)
  pub drew : Residues t.q (total (coin_layout (role_first k) t)) (coins_drawn t k)
  pub coins-fit : coins_fit (role_first k) t (parts (coin_layout (role_first k) t) (coins_drawn t k)) ≡ true
  pub heard : Hears (first_row k) t (taken_first k)
  pub wrote : e.slot ≡ leave_first (due_in e.session) (role_first k) t s
  pub laid : e.scratch ≡ coins_by t k
  pub sends : Sends (kind_first k) e

abbrev pub left_first : Terms → First → Slot → Left
left_first t k s = record {
  begun = true;
  role = role_first k;
  terms = t;
  due = first_next t k;
  slot = leave_first (first_next t k) (role_first k) t s;
  scratch = coins_by t k;
}

module _ {t : Terms} {k : First} {s : Slot} {e : Effect Session} where
  pub began : left_by e ≡ left_first t k s → (first_row k).turn ≡ opens → (role_first k ≡ left) ⊎ (0 < first_next t k) → FirstFits (role_first k) t s
      → Taken (role_first k) t (input_of k) → Residues t.q (total (coin_layout (role_first k) t)) (coins_drawn t k)
      → coins_fit (role_first k) t (parts (coin_layout (role_first k) t) (coins_drawn t k)) ≡ true
      → Hears (first_row k) t (taken_first k) → Sends (kind_first k) e → Begins t k s e
  began l turn stays f i c cf h m = record {
    is-begun = ap (λ (z : Left). z.begun) l;
    role-is = ap (λ (z : Left). z.role) l;
    terms-are = ap (λ (z : Left). z.terms) l;
    due-is = ap (λ (z : Left). z.due) l;
    turn_is = turn;
    stays = stays;
    first = f;
    input-taken = i;
    drew = c;
    coins-fit = cf;
    heard = h;
    wrote = ap (λ (z : Left). z.slot) l ∙ ap (λ (d : ℕ). leave_first d (role_first k) t s) (sym (ap (λ (z : Left). z.due) l));
    laid = ap (λ (z : Left). z.scratch) l;
    sends = m;
  }

pub coins-drawn : {sort : _} (t : Terms) (n : ℕ) (words : List ℕ) → TermsFit sort t → n ≤ length (residues_of t.q words)
    → Residues t.q n (drawn t.q n words)
coins-drawn t n words f e = residues-drawn t.q n words (omega (arith, f.big)) ((draw-tests _ _ _).1 e).all

-- ---- later steps and drops

-- the slot's words, by the turn that is due afterwards
abbrev pub leave_later : ℕ → Role → Terms → Slot → List ℕ
leave_later zero role t s = words_spent role t (slot_words s)
leave_later (suc _) role t s = slot_words s

-- what is written over the scratch
abbrev pub wipe_scratch : ℕ → Role → Terms → List ℕ
wipe_scratch zero left t = []
wipe_scratch zero right t = []
wipe_scratch zero blinder t = zeros (scratch_size t)
wipe_scratch zero solver t = []
wipe_scratch (suc _) role t = []

-- a later step is made while its message is due, and a drop leaves none due
abbrev pub InTurn : Turn → (takes next due : ℕ) → Type 0
InTurn opens takes next due = ⊥
InTurn awaits takes next due = (due ≡ takes) × ((next ≡ 0) ⊎ (takes < next))
InTurn drops takes next due = next ≡ 0

pub record Continues (k : Later) (x : Session) (s : Slot) (e : Effect Session) : Type 0 where
  pub was-begun : is_begun x ≡ true
  pub role-was : role_in x ≡ role_later k
  pub session-open : OpenFits (role_later k) (due_in x) (terms_in x) s
  pub is-begun : is_begun e.session ≡ true
  pub role-is : role_in e.session ≡ role_in x
  pub terms-are : terms_in e.session ≡ terms_in x
  pub due-is : due_in e.session ≡ later_next k (terms_in x)
  pub moved : (due_in e.session ≡ 0) ⊎ (due_in x < due_in e.session)
  pub in-turn : InTurn (later_row k).turn (later_row k).takes (later_next k (terms_in x)) (due_in x)
  pub heard : Hears (later_row k) (terms_in x) (taken_later k)
  pub wrote : e.slot ≡ leave_later (due_in e.session) (role_in x) (terms_in x) s
  pub cleared : e.scratch ≡ wipe_scratch (due_in e.session) (role_in x) (terms_in x)
  pub sends : Sends (kind_later k) e

-- a session as an end's own
abbrev pub own_end : Role → Session → Session
own_end left x = left_end (terms_in x)
own_end right x = right_end (as_right x)
own_end solver x = solver_end (as_solver x)
own_end blinder x = blinder_end (as_blinder x)

own-begun : (r : Role) (x : Session) → (is_begun (own_end r x) ≡ true) × (role_in (own_end r x) ≡ r)
own-begun left x = (refl, refl)
own-begun right x = (refl, refl)
own-begun solver x = (refl, refl)
own-begun blinder x = (refl, refl)

-- a session that is open for an end is one of this end
pub own_open : (r : Role) (x : Session) → 0 < due_in (own_end r x) → own_end r x ≡ x
own_open left x h = absurd (omega arith)
own_open right absent h = absurd (omega arith)
own_open right (left_end t) h = absurd (omega arith)
own_open right (right_end x) h = refl
own_open right (solver_end x) h = absurd (omega arith)
own_open right (blinder_end x) h = absurd (omega arith)
own_open solver absent h = absurd (omega arith)
own_open solver (left_end t) h = absurd (omega arith)
own_open solver (right_end x) h = absurd (omega arith)
own_open solver (solver_end x) h = refl
own_open solver (blinder_end x) h = absurd (omega arith)
own_open blinder absent h = absurd (omega arith)
own_open blinder (left_end t) h = absurd (omega arith)
own_open blinder (right_end x) h = absurd (omega arith)
own_open blinder (solver_end x) h = absurd (omega arith)
own_open blinder (blinder_end x) h = refl

pub own_is : (x : Session) → is_begun x ≡ true → own_end (role_in x) x ≡ x
own_is absent h = absurd (let z : ◌≡◌ {A = ℕ} 0 1 = cc in omega arith)
own_is (left_end t) h = refl
own_is (right_end x) h = refl
own_is (solver_end x) h = refl
own_is (blinder_end x) h = refl

moved_on : (turn : Turn) (takes next due : ℕ) → InTurn turn takes next due → (next ≡ 0) ⊎ (due < next)
moved_on opens takes next due h = absurd h
moved_on awaits takes next due h = elim h.1 [ inl z ↦ inl z | inr z ↦ inr (omega (arith, z, h.0)) ]
moved_on drops takes next due h = inl h

abbrev pub left_later : (next : ℕ) → Session → Slot → Left
left_later next x s = record {
  begun = true;
  role = role_in x;
  terms = terms_in x;
  due = next;
  slot = leave_later next (role_in x) (terms_in x) s;
  scratch = wipe_scratch next (role_in x) (terms_in x);
}

-- while a message is due, the slot stays and nothing is written over the scratch
pub left_open : (next : ℕ) (x : Session) (s : Slot) → 0 < next
    → ◌≡◌ {A = Left} (record { begun = true; role = role_in x; terms = terms_in x; due = next; slot = slot_words s; scratch = [] }) (left_later next x s)
left_open zero x s h = absurd (omega (arith, h))
left_open (suc next) x s h = refl

pub went : {k : Later} (x : Session) {s : Slot} {e : Effect Session} → let y = own_end (role_later k) x in let r = later_row k in
    left_by e ≡ left_later (later_next k (terms_in y)) y s → OpenFits (role_later k) (due_in y) (terms_in y) s
    → InTurn r.turn r.takes (later_next k (terms_in y)) (due_in y)
    → Hears r (terms_in y) (taken_later k) → Sends (kind_later k) e → Continues k y s e
went {k} x {s} {e} l f turn h m =
    let y = own_end (role_later k) x in
    let due : due_in e.session ≡ later_next k (terms_in (own_end (role_later k) x)) = ap (λ (z : Left). z.due) l in
    record {
      was-begun = (own-begun (role_later k) x).0;
      role-was = (own-begun (role_later k) x).1;
      session-open = f;
      is-begun = ap (λ (z : Left). z.begun) l;
      role-is = ap (λ (z : Left). z.role) l;
      terms-are = ap (λ (z : Left). z.terms) l;
      due-is = due;
      moved = subst (λ (d : ℕ). (d ≡ 0) ⊎ (due_in y < d)) (sym due) (moved_on (later_row k).turn (later_row k).takes (later_next k (terms_in y)) (due_in y) turn);
      in-turn = turn;
      heard = h;
      wrote = ap (λ (z : Left). z.slot) l ∙ ap (λ (d : ℕ). leave_later d (role_in y) (terms_in y) s) (sym due);
      cleared = ap (λ (z : Left). z.scratch) l ∙ ap (λ (d : ℕ). wipe_scratch d (role_in y) (terms_in y)) (sym due);
      sends = m;
    }

-- a step that takes a message waits for one of a kind from 1 up
abbrev pub Waits : (takes : ℕ) → List Message → Type 0
Waits takes [] = takes ≡ 0
Waits takes (_ ∷ _) = 0 < takes
