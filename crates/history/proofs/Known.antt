-- What is known of a session's view at each stage. This looks at one session, and at nothing of the log.
--   Known, arises               of every view; so it is one of those that protocol's counts are for
--   SeenBy, seen-known          the same with what the session itself keeps, while it is open
--   Gave                        the result of a step, by the view after it
--   first-known                 a view after a first step
-- Assumes nothing.
use mathlib.Core.Path.{◌≡◌, refl, sym, ◌∙◌, subst, subst₂}
use mathlib.Core.Bool.{true}
use mathlib.Core.List.{List, [], ◌∷◌}
use Prim.Native.Nat.{ℕ, suc, ◌+◌, ◌≤◌, ◌<◌}
use lib.ListN.{length, get_or}
use Rattle.algebra.specs.Matrix.{Residues, mat_mul}
use Rattle.algebra.specs.Count.{part, parts, total}
use Rattle.algebra.specs.Elimination.{regular}
use Rattle.algebra.specs.Product.{right_share}
use Rattle.algebra.proofs.Parts.{Fits}
use Rattle.determinant.specs.Session.{answer}
use Rattle.protocol.specs.declared.Terms.{Terms}
use Rattle.protocol.specs.declared.RightSession.{RightSession}
use Rattle.protocol.specs.declared.SolverSession.{SolverSession}
use Rattle.protocol.specs.declared.BlinderSession.{BlinderSession}
use Rattle.protocol.specs.Drawing.{words_for}
use Rattle.protocol.specs.Bounds.{columns}
use Rattle.protocol.specs.Tape.{Slot, slot_words, Role, left, right, blinder, solver, sort_of, layout, matrices}
use Rattle.protocol.specs.Message.{last_kind, message_layout, message_size}
use Rattle.protocol.specs.Step.{Effect}
use Rattle.protocol.specs.System.{padded, scratch_layout}
use Rattle.protocol.specs.View.{View, facing, coin_layout, kinds_sent}
use Rattle.protocol.specs.Completion.{messages_of, blinder_messages, coins_fit, Taken}
use Rattle.protocol.proofs.Tests.{TermsFit, MessageFits}
use Rattle.protocol.proofs.CompletionLaws.{half_slot, view_of}
use Rattle.protocol.proofs.Completion.{Messages, ahead, own_mask, Arises}
use Rattle.history.specs.Ends.{Session, absent, left_end, right_end, solver_end, blinder_end, First, role_first, is_begun, terms_in, role_in, Row, Result, no_result, left-share, right-share, solution, determinant}
use Rattle.history.specs.Seen.{input_of, coins_drawn, taken_first, heard, view_first}
use Rattle.history.proofs.Accepted.{Begins}
use Rattle.history.proofs.Replay.{said-is, solver_one, solver_two, SolverBegan, blinder_one, BlinderBegan}
use native.Mathlib.Omega.{arith}

-- ---- every view

pub record Known (role : Role) (t : Terms) (v : View) : Type 0 where
  pub role-is : v.role ≡ role
  pub terms-are : v.terms ≡ t
  pub terms-fit : TermsFit (sort_of role) t
  pub half-fits : Fits t.q (layout role t.m t.k t.p) v.half
  pub mask_fits : own_mask role t v.half ≡ true
  pub input-taken : Taken role t v.input
  pub coins-residues : Residues t.q (total (coin_layout role t)) v.coins
  pub coins-fit : coins_fit role t (parts (coin_layout role t) v.coins) ≡ true
  -- its messages are those that its own steps send on what it received
  pub sent_is : v.sent ≡ messages_of role t (half_slot role t v.half) v.coins v.input v.received
  pub sent-fit : Messages t (kinds_sent role t) v.sent
  pub received-fit : Messages t (kinds_sent (facing role) t) v.received
  pub in-turn : length v.received ≤ length v.sent + ahead role

pub arises : {role : Role} {t : Terms} {v : View} → Known role t v → Arises v
arises {role} {t} {v} k =
    subst₂ (λ (r : Role) (t : Terms). Arises (view_of r t v.input v.half v.coins v.sent v.received)) (sym k.role-is) (sym k.terms-are) (record {
      terms-fit = k.terms-fit;
      half-fits = k.half-fits;
      mask_fits = k.mask_fits;
      sent-fit = k.sent-fit;
      received-fit = k.received-fit;
      in-turn = k.in-turn;
      kept = λ s f. record { input-taken = k.input-taken; coins-residues = k.coins-residues; coins-fit = k.coins-fit; sent_is = k.sent_is };
    })

-- the view with other messages
abbrev pub view_with : View → (sent received : List (List ℕ)) → View
view_with v sent got = record { role = v.role; terms = v.terms; input = v.input; half = v.half; coins = v.coins; sent = sent; received = got }

-- these messages sent and received
pub known-with : {role : Role} {t : Terms} {v : View} → Known role t v → {sent got : List (List ℕ)} (sent' got' : List (List ℕ)) → sent ≡ sent' → got ≡ got'
    → sent' ≡ messages_of role t (half_slot role t v.half) v.coins v.input got' → Messages t (kinds_sent role t) sent' → Messages t (kinds_sent (facing role) t) got'
    → length got' ≤ length sent' + ahead role → Known role t (view_with v sent got)
known-with {role} {t} {v} k sent' got' es eg is ms mg l =
    subst₂ (λ (s g : List (List ℕ)). Known role t (view_with v s g)) (sym es) (sym eg) (record {
      role-is = k.role-is;
      terms-are = k.terms-are;
      terms-fit = k.terms-fit;
      half-fits = k.half-fits;
      mask_fits = k.mask_fits;
      input-taken = k.input-taken;
      coins-residues = k.coins-residues;
      coins-fit = k.coins-fit;
      sent_is = is;
      sent-fit = ms;
      received-fit = mg;
      in-turn = l;
    })

-- the same messages
pub known-still : {role : Role} {t : Terms} {v : View} → Known role t v → {sent got : List (List ℕ)} → sent ≡ v.sent → got ≡ v.received → Known role t (view_with v sent got)
known-still {role} {t} {v} k es eg = known-with k v.sent v.received es eg k.sent_is k.sent-fit k.received-fit k.in-turn

-- ---- what an open session keeps

pub record RightSeen (x : RightSession) (v : View) : Type 0 where
  pub known : Known right x.terms v
  pub one-sent : length v.sent ≡ 1
  pub waits : 0 < x.due → v.received ≡ []

pub data SolverStage (t : Terms) (half : List (List ℕ)) (l x : List ℕ) (y : SolverSession) (got : List (List ℕ)) : Type 0 where
  s-first : got ≡ [] → y ≡ (solver_one t half l x).session → SolverStage t half l x y got
  s-second : (a : List ℕ) → Residues t.q (message_size 2 t) a → got ≡ a ∷ [] → y ≡ (solver_two t half l x a).session → SolverStage t half l x y got
  s-over : y.due ≡ 0 → SolverStage t half l x y got

pub record SolverSeen (y : SolverSession) (v : View) : Type 0 where
  pub known : Known solver y.terms v
  pub l : List ℕ
  pub x : List ℕ
  pub input-is : v.input ≡ l ∷ x ∷ []
  pub began : SolverBegan y.terms v.half l x
  pub stage : SolverStage y.terms v.half l x y v.received

pub data BlinderStage (t : Terms) (half : List (List ℕ)) (mm y coins : List ℕ) (z : BlinderSession) (got : List (List ℕ)) : Type 0 where
  b-first : (a : List ℕ) → Residues t.q (message_size 1 t) a → got ≡ a ∷ [] → z ≡ (blinder_one t half mm y coins a).session → BlinderStage t half mm y coins z got
  -- it has sent all that it will, whatever it gets
  b-second : (a b b2 b4 : List ℕ) → Residues t.q (message_size 1 t) a → Residues t.q (message_size 3 t) b → got ≡ a ∷ b ∷ [] → z.due ≡ last_kind t.m t.p
      → (z.mm ≡ padded 256 mm) × (z.y ≡ padded 16 y)
      → ((got : List (List ℕ)) → blinder_messages t (half_slot blinder t half) (mm ∷ y ∷ []) (a ∷ b ∷ got) (words_for t.q coins) ≡ b2 ∷ b4 ∷ [])
      → BlinderStage t half mm y coins z got
  b-over : z.due ≡ 0 → BlinderStage t half mm y coins z got

pub record BlinderSeen (z : BlinderSession) (v : View) : Type 0 where
  pub known : Known blinder z.terms v
  pub mm : List ℕ
  pub y : List ℕ
  pub input-is : v.input ≡ mm ∷ y ∷ []
  pub began : BlinderBegan z.terms v.half mm y v.coins
  pub stage : BlinderStage z.terms v.half mm y v.coins z v.received

abbrev pub SeenBy : Session → View → Type 0
SeenBy absent v = Unit
SeenBy (left_end t) v = Known left t v
SeenBy (right_end x) v = RightSeen x v
SeenBy (solver_end x) v = SolverSeen x v
SeenBy (blinder_end x) v = BlinderSeen x v

pub seen-known : (x : Session) (v : View) → SeenBy x v → is_begun x ≡ true → Known (role_in x) (terms_in x) v
seen-known absent v s b = absurd (let z : ◌≡◌ {A = ℕ} 0 1 = cc in omega arith)
seen-known (left_end t) v s b = s
seen-known (right_end x) v s b = s.known
seen-known (solver_end x) v s b = s.known
seen-known (blinder_end x) v s b = s.known

-- ---- what the session's last accepted step gave, in terms of its view

-- the parts of a message's residues
abbrev pub cut : ℕ → Terms → List ℕ → List (List ℕ)
cut kind t a = parts (message_layout kind t.m t.k t.p) a

abbrev pub ShareOf : View → List ℕ → Terms → List ℕ → Type 0
ShareOf v z t a = z ≡ right_share t.q t.m t.k t.p (part 0 (cut 2 t a)) (part 0 v.half) (part 1 (cut 2 t a)) (part 1 v.half)

abbrev pub AnswerOf : View → List ℕ → Terms → List ℕ → Type 0
AnswerOf v z t a = z ≡ mat_mul t.q t.m t.m (columns t.m t.p) (part 2 v.half) (part 0 (cut 5 t a))

abbrev pub DeterminantOf : View → List ℕ → Terms → List ℕ → Type 0
DeterminantOf v z t a = z ≡ answer t.q t.m (part 0 (parts (scratch_layout t) v.coins)) (part 2 v.half) (get_or a 0 0) ∷ []

-- an end that is to give a result awaits a message
abbrev pub Short : Role → View → Type 0
Short left v = length v.received < 1
Short right v = length v.received < 1
Short blinder v = length v.received < 3
Short solver v = Unit

-- left's share is U; right's, and the blinder's solution or determinant, are made of the last message
abbrev pub GaveBy : Result → Role → Terms → (result : List ℕ) → View → Type 0
GaveBy no_result r t z v = (z ≡ []) × Short r v
GaveBy left-share r t z v = (r ≡ left) × (z ≡ v.coins)
GaveBy right-share r t z v = (r ≡ right) × (a : List ℕ) × (v.received ≡ a ∷ []) × ShareOf v z t a
GaveBy determinant r t z v =
    (r ≡ blinder) × (m1 : List ℕ) × (m3 : List ℕ) × (m6 : List ℕ) × (v.received ≡ m1 ∷ m3 ∷ m6 ∷ []) × DeterminantOf v z t m6 × (last_kind t.m t.p ≡ 6)
GaveBy solution r t z v = (r ≡ blinder) × (m1 : List ℕ) × (m3 : List ℕ) × (m5 : List ℕ) × (v.received ≡ m1 ∷ m3 ∷ m5 ∷ []) × AnswerOf v z t m5
    × (last_kind t.m t.p ≡ 5)

-- the step of this row gave it
abbrev pub Gave : Row → Terms → (result : List ℕ) → View → Type 0
Gave w t z v = GaveBy w.gives w.role t z v

-- ---- first steps

own-mask : (r : Role) (t : Terms) (ls : List (List ℕ)) → (r ≡ blinder → regular t.q t.m (part 2 ls) ≡ true) → own_mask r t ls ≡ true
own-mask left t ls h = refl
own-mask right t ls h = refl
own-mask solver t ls h = refl
own-mask blinder t ls h = h refl

module _ (t : Terms) (k : First) (s : Slot) (ls : List (List ℕ)) (e : matrices (role_first k) t (slot_words s) ≡ ls) where
  pub half-now : {f : Effect Session} → Begins t k s f → Fits t.q (layout (role_first k) t.m t.k t.p) ls
  half-now g = subst (λ (ls : List (List ℕ)). Fits t.q (layout (role_first k) t.m t.k t.p) ls) e g.first.matrices-fit

  -- by the one message that it sent, and the one that it took if there is one
  pub first-known : {f : Effect Session} {kind : ℕ} → Begins t k s f → (role_first k ≡ blinder → regular t.q t.m (part 2 ls) ≡ true)
      → MessageFits (suc kind) t f.sent
      → f.sent.residues ∷ [] ≡ messages_of (role_first k) t (half_slot (role_first k) t ls) (coins_drawn t k) (input_of k) (heard f.answer (taken_first k))
      → Messages t (kinds_sent (role_first k) t) (f.sent.residues ∷ []) → Messages t (kinds_sent (facing (role_first k)) t) (heard f.answer (taken_first k))
      → length (heard f.answer (taken_first k)) ≤ 1 + ahead (role_first k) → Known (role_first k) t (view_first t k ls f)
  first-known {f} g rq m is ms mg l = record {
    role-is = refl;
    terms-are = refl;
    terms-fit = g.first.terms;
    half-fits = half-now g;
    mask_fits = own-mask (role_first k) t ls rq;
    input-taken = g.input-taken;
    coins-residues = g.drew;
    coins-fit = g.coins-fit;
    sent_is = said-is m ∙ is;
    sent-fit = subst (Messages t (kinds_sent (role_first k) t)) (sym (said-is m)) ms;
    received-fit = mg;
    in-turn = subst (λ (z : List (List ℕ)). length (heard f.answer (taken_first k)) ≤ length z + ahead (role_first k)) (sym (said-is m)) l;
  }
