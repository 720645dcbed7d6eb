-- What an end's own steps send depends on its half, its input, its coins and the messages received, and on nothing else of the pool that they run on.
--   said-is                     a step's message, as it stands in a view
--   y-sent .. t-sent, d-sent    what each step sends fits its kind
--   LastStep, system-step, determinant-step   the solver's last step, of either sort
--   y-same .. w-same            steps on two slots with the same half leave the same
--   solver-none, solver-one, solver-two, blinder-one, blinder-two   an end's messages, as its own steps give them one after the other
-- Assumes nothing.
use mathlib.Core.Path.{◌≡◌, refl, sym, ap, ◌∙◌, subst}
use mathlib.Core.Bool.{Bool, true, false, cond}
use mathlib.Core.List.{List, [], ◌∷◌, ◌++◌}
use Prim.Native.Nat.{ℕ, suc, ◌+◌, ◌*◌, ◌≤◌, ◌<◌}
use native.Mathlib.Nat.{le_refl}
use native.Mathlib.Omega.{arith}
use lib.Dec.{ltb, eqb-suc-zero}
use lib.ListN.{length, take}
use borrow.Author.Tests.{eq-eqb}
use Rattle.algebra.specs.Matrix.{Residues, zeros}
use Rattle.algebra.specs.Count.{part}
use Rattle.algebra.specs.Elimination.{regular}
use Rattle.algebra.specs.Product.{send_y, send_x, send_r}
use Rattle.algebra.specs.System.{send_f, send_w, send_c, sum_matrix}
use Rattle.algebra.specs.Words.{over}
use Rattle.algebra.proofs.Lists.{length-tabulate, add-residues, sub-residues}
use Rattle.algebra.proofs.Parts.{Fits, none, ◌then◌, fits-join}
use Rattle.algebra.proofs.Prime.{prime-test}
use Rattle.algebra.proofs.Elimination.{solution-solves}
use Rattle.determinant.proofs.Determinant.{det-residue}
use Rattle.protocol.specs.declared.Terms.{Terms}
use Rattle.protocol.specs.declared.Head.{Head}
use Rattle.protocol.specs.declared.SolverSession.{SolverSession}
use Rattle.protocol.specs.declared.BlinderSession.{BlinderSession}
use Rattle.protocol.specs.Judge.{done}
use Rattle.protocol.specs.Drawing.{drawn, words_for}
use Rattle.protocol.specs.Bounds.{product, system, field_fits, all_below}
use Rattle.protocol.specs.Tape.{Slot, slot_words, left, right, blinder, solver, READY, IN-USE, layout, matrices}
use Rattle.protocol.specs.Message.{Message, last_kind, last_fits, message_layout, message_size}
use Rattle.protocol.specs.Step.{Effect, Outcome, scratch_after}
use Rattle.protocol.specs.Product.{right_first_effect, left_effect}
use Rattle.protocol.specs.System.{kept_s, kept_m, kept_y, coins_of, scratch_layout, scratch_size, scratch_parts, joint_sum, side_size, solver_first, solver_first_effect, solver_second, solver_second_effect, solver_last_effect, solver_determinant_effect, solver_ending, blinder_first, blinder_first_effect, blinder_second, blinder_second_effect}
use Rattle.protocol.specs.Completion.{incoming, said, and_then, hearing, right_messages, left_messages, solver_messages, blinder_messages}
use Rattle.protocol.proofs.Slots.{written}
use Rattle.protocol.proofs.Residues.{one-residue, residues-below, take-over, over-length, parts-over, zeros-below}
use Rattle.protocol.proofs.Tests.{TermsFit, SystemSides, system-sides, MessageFits, early}
use Rattle.protocol.proofs.SystemEnds.{one-column, ending-system, ending-determinant}
use Rattle.protocol.proofs.StepTests as tests
use Rattle.protocol.proofs.Halves.{Holding, holding-matrices, half-fits, first_fits, holding-used, holding-same}
use Rattle.protocol.proofs.CompletionLaws.{half_slot, dealt-alone, drawn-own, drawn-enough, then-accepted}

-- ---- messages

pub said-is : {kind : ℕ} {t : Terms} {a : Message} → MessageFits (suc kind) t a → said a ≡ a.residues ∷ []
unfolding said
said-is {kind} {t} {a} f = rw (ap (λ (h : Head). h.kind) f.head-is, eqb-suc-zero kind)

-- a message of a session is its residues
pub incoming-whole : {kind : ℕ} {t : Terms} {a : Message} → MessageFits kind t a → a ≡ incoming kind t a.residues
incoming-whole {kind} {t} {a} f = ap (λ (h : Head). record { head = h; residues = a.residues }) f.head-is

positive : {sort : _} {t : Terms} → TermsFit sort t → 0 < t.q
positive f = omega (arith, f.big)

sides : {t : Terms} → TermsFit system t → SystemSides t.m t.k t.p
sides {t} f = (system-sides t.m t.k t.p).0 f.sides

-- what each step sends fits its kind
pub y-sent : (t : Terms) (s : Slot) (y : List ℕ) → TermsFit product t → MessageFits 1 t (right_first_effect t s y).sent
unfolding right_first_effect message_size message_layout send_y
y-sent t s y f = record { head-is = refl; residues = fits-join (sub-residues (positive f) (t.k * t.p) _ _ then none); last = early _ _ 1 refl }

pub x-sent : (t : Terms) (s : Slot) (x words : List ℕ) (a : Message) → TermsFit product t → MessageFits 2 t (left_effect t s x words a).sent
unfolding left_effect message_size message_layout send_x send_r
x-sent t s x words a f = record {
  head-is = refl;
  residues = fits-join (add-residues (positive f) (t.m * t.k) _ _ then sub-residues (positive f) (t.m * t.p) _ _ then none);
  last = early _ _ 2 refl;
}

pub y1-sent : (t : Terms) (s : Slot) (l x : List ℕ) → TermsFit system t → MessageFits 1 t (solver_first_effect t s l x).sent
unfolding solver_first_effect message_size message_layout send_y
y1-sent t s l x f = record {
  head-is = refl;
  residues = fits-join (rw (sides f).k-is (sub-residues (positive f) (t.m * t.p) _ _) then none);
  last = early _ _ 1 refl;
}

pub x1-sent : (t : Terms) (s : Slot) (mm y words : List ℕ) (a : Message) → TermsFit system t → MessageFits 2 t (blinder_first_effect t s mm y words a).sent
unfolding blinder_first_effect message_size message_layout send_x send_r
x1-sent t s mm y words a f = record {
  head-is = refl;
  residues = fits-join (rw (sides f).k-is (add-residues (positive f) (t.m * t.m) _ _) then sub-residues (positive f) (t.m * t.p) _ _ then none);
  last = early _ _ 2 refl;
}

pub f-sent : (x : SolverSession) (s : Slot) (a : Message) → TermsFit system x.terms → MessageFits 3 x.terms (solver_second_effect x s a).sent
unfolding solver_second_effect message_size message_layout send_f
f-sent x s a f = record {
  head-is = refl;
  residues = fits-join (rw (sides f).k-is (sub-residues (positive f) (x.terms.m * x.terms.m) _ _) then none);
  last = early _ _ 3 refl;
}

pub w-sent : (x : BlinderSession) (s : Slot) (u : List ℕ) (a : Message) → TermsFit system x.terms → MessageFits 4 x.terms (blinder_second_effect x s u a).sent
unfolding blinder_second_effect message_size message_layout send_w send_c
w-sent x s u a f = record {
  head-is = refl;
  residues = fits-join (rw (sides f).k-is (sub-residues (positive f) (x.terms.m * x.terms.m) _ _) then add-residues (positive f) _ _ _ then none);
  last = early _ _ 4 refl;
}

-- the last message of its sort
pub last_of : (t : Terms) (kind : ℕ) → last_kind t.m t.p ≡ kind → last_fits kind t.m t.p ≡ true
unfolding last_fits
last_of t kind k = rw (k, eq-eqb kind kind refl) (either (ltb 4 kind))
  where
    either : (b : Bool) → cond b true true ≡ true
    either true = refl
    either false = refl

pub t-sent : (x : SolverSession) (s : Slot) (a : Message) → TermsFit system x.terms → last_kind x.terms.m x.terms.p ≡ 5
    → regular x.terms.q x.terms.m (joint_sum x s a) ≡ true → MessageFits 5 x.terms (solver_last_effect x s a).sent
unfolding solver_last_effect message_size message_layout joint_sum sum_matrix field_fits
t-sent x s a f k r =
    rw r (record {
      head-is = refl;
      residues = fits-join (rw (one-column x.terms f k)
          (solution-solves (prime-test _ f.field) x.terms.m (add-residues (positive f) (x.terms.m * x.terms.m) _ _)
          (add-residues (positive f) (x.terms.m * 1) _ _) r).0
          then none);
      last = last_of x.terms 5 k;
    })

pub d-sent : (x : SolverSession) (s : Slot) (a : Message) → TermsFit system x.terms → last_kind x.terms.m x.terms.p ≡ 6
    → MessageFits 6 x.terms (solver_determinant_effect x s a).sent
unfolding solver_determinant_effect message_size message_layout
d-sent x s a f k = record {
  head-is = refl;
  residues = fits-join (one-residue (det-residue (positive f) x.terms.m _) then none);
  last = last_of x.terms 6 k;
}

-- ---- steps on two slots with the same half

pub y-same : (t : Terms) (s s' : Slot) (y : List ℕ) → matrices right t (slot_words s) ≡ matrices right t (slot_words s')
    → (right_first_effect t s y).sent ≡ (right_first_effect t s' y).sent
unfolding right_first_effect
y-same t s s' y e = rw e

pub x-same : (t : Terms) (s s' : Slot) (x words words' : List ℕ) (a : Message) → matrices left t (slot_words s) ≡ matrices left t (slot_words s')
    → drawn t.q (t.m * t.p) words ≡ drawn t.q (t.m * t.p) words' → (left_effect t s x words a).sent ≡ (left_effect t s' x words' a).sent
unfolding left_effect
x-same t s s' x words words' a e c = rw (e, c)

pub y1-same : (t : Terms) (s s' : Slot) (l x : List ℕ) → matrices solver t (slot_words s) ≡ matrices solver t (slot_words s')
    → (solver_first_effect t s l x).sent ≡ (solver_first_effect t s' l x).sent
unfolding solver_first_effect
y1-same t s s' l x e = rw e

pub f-same : (x : SolverSession) (s s' : Slot) (a : Message) → matrices solver x.terms (slot_words s) ≡ matrices solver x.terms (slot_words s')
    → ((solver_second_effect x s a).sent ≡ (solver_second_effect x s' a).sent) × ((solver_second_effect x s a).session ≡ (solver_second_effect x s' a).session)
unfolding solver_second_effect
f-same x s s' a e = (rw e, rw e)

-- a last step of the solver, of the sort that the terms tell: what it leaves, and on two slots with the same half it sends the same
pub record LastStep (t : Terms) (kind : ℕ) : Type 0 where
  pub effect : SolverSession → Slot → Message → Effect SolverSession
  pub kind-is : last_kind t.m t.p ≡ kind
  pub ends : (x : SolverSession) (s : Slot) (a : Message) (room : ℕ) → x.terms ≡ t → tests.SolverFits 4 x s a (message_size kind x.terms) room
      → solver_ending x s a room ≡ done (effect x s a)
  pub same : (x : SolverSession) (s s' : Slot) (a : Message) → matrices solver x.terms (slot_words s) ≡ matrices solver x.terms (slot_words s')
      → (effect x s a).sent ≡ (effect x s' a).sent

pub own-kind : (x : SolverSession) {t : Terms} {kind : ℕ} → x.terms ≡ t → last_kind t.m t.p ≡ kind → last_kind x.terms.m x.terms.p ≡ kind
own-kind x e k = ap (λ (t : Terms). last_kind t.m t.p) e ∙ k

pub t_same : (x : SolverSession) (s s' : Slot) (a : Message) → matrices solver x.terms (slot_words s) ≡ matrices solver x.terms (slot_words s')
    → (solver_last_effect x s a).sent ≡ (solver_last_effect x s' a).sent
unfolding solver_last_effect joint_sum
t_same x s s' a e = rw e

pub d-same : (x : SolverSession) (s s' : Slot) (a : Message) → matrices solver x.terms (slot_words s) ≡ matrices solver x.terms (slot_words s')
    → (solver_determinant_effect x s a).sent ≡ (solver_determinant_effect x s' a).sent
unfolding solver_determinant_effect joint_sum
d-same x s s' a e = rw e

abbrev pub system-step : (t : Terms) → last_kind t.m t.p ≡ 5 → LastStep t 5
system-step t k = record {
  effect = solver_last_effect;
  kind-is = k;
  ends = λ x s a room e f. ending-system x s a room (own-kind x e k) ∙ (tests.solver-last x s a room).accepts (record { fits = f; sort-is = own-kind x e k });
  same = t_same;
}

abbrev pub determinant-step : (t : Terms) → last_kind t.m t.p ≡ 6 → LastStep t 6
determinant-step t k = record {
  effect = solver_determinant_effect;
  kind-is = k;
  ends = λ x s a room e f. ending-determinant x s a room (own-kind x e k) ∙ (tests.solver-determinant x s a room).accepts (record { fits = f; sort-is = own-kind x e k });
  same = d-same;
}

pub x1-same : (t : Terms) (s s' : Slot) (mm y words words' : List ℕ) (a : Message) → matrices blinder t (slot_words s) ≡ matrices blinder t (slot_words s')
    → coins_of t words ≡ coins_of t words' → (blinder_first_effect t s mm y words a).sent ≡ (blinder_first_effect t s' mm y words' a).sent
unfolding blinder_first_effect
x1-same t s s' mm y words words' a e c = rw (e, c)

pub w-same : (x : BlinderSession) (s s' : Slot) (u u' : List ℕ) (a : Message)
    → matrices blinder x.terms (slot_words s) ≡ matrices blinder x.terms (slot_words s')
    → scratch_parts x.terms u ≡ scratch_parts x.terms u' → (blinder_second_effect x s u a).sent ≡ (blinder_second_effect x s' u' a).sent
unfolding blinder_second_effect
w-same x s s' u u' a e c = rw (e, c)

-- ---- right and left

module _ (t : Terms) (half : List (List ℕ)) where
  module _ (s : Slot) (y : List ℕ) (room : ℕ) (fits : tests.RightFirstFits t s y room) (held : matrices right t (slot_words s) ≡ half) where
    right-alone : Holding right READY t half (half_slot right t half)
    right-alone = dealt-alone right t half (subst (λ (ls : List (List ℕ)). Fits t.q (layout right t.m t.k t.p) ls) held fits.first.matrices-fit)

    -- right's message, whatever it gets
    pub right-sends : (got : List (List ℕ)) → right_messages t (half_slot right t half) (y ∷ []) got ≡ (right_first_effect t s y).sent.residues ∷ []
    unfolding right_messages
    right-sends got =
        then-accepted _ _ _ _ ((tests.right-first t (half_slot right t half) y (message_size 1 t)).accepts
        (record { first = first_fits right-alone fits.first.terms; y-fits = fits.y-fits; message-room = le_refl _ }))
        ∙ ap (λ (a : Message). said a ++ []) (y-same t _ s y (holding-matrices right READY t half _ right-alone ∙ sym held))
        ∙ ap (λ (l : List (List ℕ)). l ++ []) (said-is (y-sent t s y fits.first.terms))

  module _ (s : Slot) (x words : List ℕ) (a : Message) (room share_room : ℕ) (fits : tests.LeftFits t s x words a room share_room) (held : matrices left t (slot_words s) ≡ half)
      (coins : Residues t.q (t.m * t.p) (drawn t.q (t.m * t.p) words)) where
    left_alone : Holding left READY t half (half_slot left t half)
    left_alone = dealt-alone left t half (subst (λ (ls : List (List ℕ)). Fits t.q (layout left t.m t.k t.p) ls) held fits.first.matrices-fit)

    abbrev coined : List ℕ
    coined = words_for t.q (drawn t.q (t.m * t.p) words)

    -- left's message on message 1
    pub left-sends : left_messages t (half_slot left t half) (x ∷ []) (a.residues ∷ []) (words_for t.q (drawn t.q (t.m * t.p) words))
        ≡ (left_effect t s x words a).sent.residues ∷ []
    unfolding left_messages hearing
    left-sends =
        then-accepted _ _ _ _ ((tests.left_step_lem t (half_slot left t half) x coined (incoming 1 t a.residues) (message_size 2 t) (t.m * t.p)).accepts
        (record {
          first = first_fits left_alone fits.first.terms;
          message = record { head-is = refl; residues = fits.message.residues; last = early _ _ 1 refl };
          x_fits = fits.x_fits;
          message-room = le_refl _;
          share-room = le_refl _;
          enough = drawn-enough fits.first.terms.small coins;
        }))
        ∙ ap (λ (b : Message). said (left_effect t (half_slot left t half) x coined b).sent ++ []) (sym (incoming-whole fits.message))
        ∙ ap (λ (b : Message). said b ++ [])
        (x-same t _ s x coined words a (holding-matrices left READY t half _ left_alone ∙ sym held) (drawn-own fits.first.terms.small coins))
        ∙ ap (λ (l : List (List ℕ)). l ++ []) (said-is (x-sent t s x words a fits.first.terms))

-- ---- the solver

-- the solver's steps on its half alone, one after the other
module _ (t : Terms) (half : List (List ℕ)) (l x : List ℕ) where
  abbrev pub solver_one : Effect SolverSession
  solver_one = solver_first_effect t (half_slot solver t half) l x

  abbrev slot_one : Slot
  slot_one = written (half_slot solver t half) solver_one.slot

  abbrev pub solver_two : (m2 : List ℕ) → Effect SolverSession
  solver_two a = solver_second_effect solver_one.session slot_one (incoming 2 t a)

  abbrev slot_two : (m2 : List ℕ) → Slot
  slot_two a = written slot_one (solver_two a).slot

  abbrev pub solver_three : {kind : ℕ} → LastStep t kind → (m2 m4 : List ℕ) → Effect SolverSession
  solver_three last a b = last.effect (solver_two a).session (slot_two a) (incoming 4 t b)

-- what its first step found
pub record SolverBegan (t : Terms) (half : List (List ℕ)) (l x : List ℕ) : Type 0 where
  pub terms : TermsFit system t
  pub fits : Fits t.q (layout solver t.m t.k t.p) half
  pub l-fits : Residues t.q (t.m * t.m) l
  pub x_fits : Residues t.q (side_size t) x
  pub l-regular : regular t.q t.m l ≡ true

module _ (t : Terms) (half : List (List ℕ)) (l x : List ℕ) (g : SolverBegan t half l x) where
  abbrev alone : Slot
  alone = half_slot solver t half

  held : Holding solver READY t half alone
  held = dealt-alone solver t half g.fits

  held1 : Holding solver IN-USE t half (slot_one t half l x)
  unfolding solver_first_effect
  held1 = holding-used solver t half alone held

  accepts1 : solver_first t alone l x (message_size 1 t) ≡ done (solver_one t half l x)
  accepts1 = (tests.solver-first t alone l x (message_size 1 t)).accepts
      (record { first = first_fits held g.terms; l-fits = g.l-fits; x_fits = g.x_fits; message-room = le_refl _; l-regular = g.l-regular })

  says1 : said (solver_one t half l x).sent ≡ (solver_one t half l x).sent.residues ∷ []
  says1 = said-is (y1-sent t alone l x g.terms)

  pub solver-none : solver_messages t alone (l ∷ x ∷ []) [] ≡ (solver_one t half l x).sent.residues ∷ []
  unfolding solver_messages hearing
  solver-none = then-accepted _ _ _ _ accepts1 ∙ ap (λ (z : List (List ℕ)). z ++ []) says1

  -- the same message from the half in the pool
  pub y1-is : (s : Slot) → matrices solver t (slot_words s) ≡ half → (solver_first_effect t s l x).sent ≡ (solver_one t half l x).sent
  y1-is s e = y1-same t s alone l x (e ∙ sym (holding-matrices solver READY t half alone held))

  module _ (a : List ℕ) (ra : Residues t.q (message_size 2 t) a) where
    held2 : Holding solver IN-USE t half (slot_two t half l x a)
    unfolding solver_second_effect
    held2 = holding-same solver IN-USE t half (slot_one t half l x) held1

    accepts2 : solver_second (solver_one t half l x).session (slot_one t half l x) (incoming 2 t a) (message_size 3 t) ≡ done (solver_two t half l x a)
    unfolding solver_first_effect kept_s
    accepts2 = (tests.solver-second (solver_one t half l x).session (slot_one t half l x) (incoming 2 t a) (message_size 3 t)).accepts (record {
      later = record {
        due-is = refl;
        session-open = record { is_open = omega arith; terms = g.terms; half = half-fits held1 };
        matrices-fit = subst (λ (ls : List (List ℕ)). Fits t.q (layout solver t.m t.k t.p) ls) (sym (holding-matrices solver IN-USE t half _ held1)) g.fits;
      };
      message = record { head-is = refl; residues = ra; last = early _ _ 2 refl };
      s-below = zeros-below t.q 16 (side_size t) (positive g.terms);
      message-room = le_refl _;
    })

    says2 : said (solver_two t half l x a).sent ≡ (solver_two t half l x a).sent.residues ∷ []
    unfolding solver_first_effect
    says2 = said-is (f-sent (solver_one t half l x).session (slot_one t half l x) (incoming 2 t a) g.terms)

    pub solver-one : solver_messages t alone (l ∷ x ∷ []) (a ∷ []) ≡ (solver_one t half l x).sent.residues ∷ (solver_two t half l x a).sent.residues ∷ []
    unfolding solver_messages hearing
    solver-one =
        then-accepted _ _ _ _ accepts1
        ∙ ap (λ (z : List (List ℕ)). z ++ and_then (slot_one t half l x)
        (solver_second (solver_one t half l x).session (slot_one t half l x) (incoming 2 t a) (message_size 3 t)) (λ x s. [])) says1
        ∙ ap (λ (z : List (List ℕ)). (solver_one t half l x).sent.residues ∷ z) (then-accepted _ _ _ _ accepts2 ∙ ap (λ (z : List (List ℕ)). z ++ []) says2)

    pub f-is : (s : Slot) (m : Message) → m ≡ incoming 2 t a → matrices solver t (slot_words s) ≡ half
        → ((solver_second_effect (solver_one t half l x).session s m).sent ≡ (solver_two t half l x a).sent)
        × ((solver_second_effect (solver_one t half l x).session s m).session ≡ (solver_two t half l x a).session)
    unfolding solver_first_effect
    f-is s m i e =
        let o = f-same (solver_one t half l x).session s (slot_one t half l x) m (e ∙ sym (holding-matrices solver IN-USE t half _ held1)) in (
          o.0 ∙ ap (λ (m : Message). (solver_second_effect (solver_one t half l x).session (slot_one t half l x) m).sent) i,
          o.1 ∙ ap (λ (m : Message). (solver_second_effect (solver_one t half l x).session (slot_one t half l x) m).session) i,
        )

    module _ {kind : ℕ} (last : LastStep t kind) (b : List ℕ) (rb : Residues t.q (message_size 4 t) b)
        (below : all_below t.q (kept_s (solver_two t half l x a).session) ≡ true) where
      abbrev room3 : ℕ
      room3 = message_size (last_kind t.m t.p) t

      fits3 : tests.SolverFits 4 (solver_two t half l x a).session (slot_two t half l x a) (incoming 4 t b) (message_size kind t) room3
      unfolding solver_first_effect solver_second_effect
      fits3 = record {
        later = record {
          due-is = refl;
          session-open = record { is_open = omega arith; terms = g.terms; half = half-fits held2 };
          matrices-fit = subst (λ (ls : List (List ℕ)). Fits t.q (layout solver t.m t.k t.p) ls) (sym (holding-matrices solver IN-USE t half _ held2)) g.fits;
        };
        message = record { head-is = refl; residues = rb; last = early _ _ 4 refl };
        s-below = below;
        message-room = rw last.kind-is (le_refl _);
      }

      accepts3 : solver_ending (solver_two t half l x a).session (slot_two t half l x a) (incoming 4 t b) room3 ≡ done (solver_three t half l x last a b)
      unfolding solver_first_effect solver_second_effect
      accepts3 = last.ends (solver_two t half l x a).session (slot_two t half l x a) (incoming 4 t b) room3 refl fits3

      pub last-is : (s : Slot) (m : Message) → m ≡ incoming 4 t b → matrices solver t (slot_words s) ≡ half
          → (last.effect (solver_two t half l x a).session s m).sent ≡ (solver_three t half l x last a b).sent
      unfolding solver_first_effect solver_second_effect
      last-is s m i e =
          last.same (solver_two t half l x a).session s (slot_two t half l x a) m (e ∙ sym (holding-matrices solver IN-USE t half _ held2))
          ∙ ap (λ (m : Message). (last.effect (solver_two t half l x a).session (slot_two t half l x a) m).sent) i

      pub solver-two : {j : ℕ} → MessageFits (suc j) t (solver_three t half l x last a b).sent → solver_messages t alone (l ∷ x ∷ []) (a ∷ b ∷ [])
          ≡ (solver_one t half l x).sent.residues ∷ (solver_two t half l x a).sent.residues ∷ (solver_three t half l x last a b).sent.residues ∷ []
      unfolding solver_messages hearing
      solver-two f =
          then-accepted _ _ _ _ accepts1
          ∙ ap (λ (z : List (List ℕ)). z ++ and_then (slot_one t half l x) (solver_second (solver_one t half l x).session (slot_one t half l x) (incoming 2 t a) (message_size 3 t))
          (λ x s. and_then s (solver_ending x s (incoming 4 t b) room3) (λ x s. []))) says1
          ∙ ap (λ (z : List (List ℕ)). (solver_one t half l x).sent.residues ∷ z)
          (then-accepted _ _ _ _ accepts2
          ∙ ap (λ (z : List (List ℕ)). z ++ and_then (slot_two t half l x a)
          (solver_ending (solver_two t half l x a).session (slot_two t half l x a) (incoming 4 t b) room3) (λ x s. [])) says2
          ∙ ap (λ (z : List (List ℕ)). (solver_two t half l x a).sent.residues ∷ z) (then-accepted _ _ _ _ accepts3 ∙ ap (λ (z : List (List ℕ)). z ++ []) (said-is f)))

-- ---- the blinder

module _ (t : Terms) (half : List (List ℕ)) (mm y coins : List ℕ) where
  abbrev pub blinder_one : (m1 : List ℕ) → Effect BlinderSession
  blinder_one a = blinder_first_effect t (half_slot blinder t half) mm y (words_for t.q coins) (incoming 1 t a)

  abbrev slot_first : (m1 : List ℕ) → Slot
  slot_first a = written (half_slot blinder t half) (blinder_one a).slot

  -- what stands in its scratch
  abbrev scratch_first : (m1 : List ℕ) → List ℕ
  scratch_first a = over (blinder_one a).scratch (zeros (scratch_size t))

  abbrev pub blinder_two : (m1 m3 : List ℕ) → Effect BlinderSession
  blinder_two a b = blinder_second_effect (blinder_one a).session (slot_first a) (scratch_first a) (incoming 3 t b)

-- what its first step found
pub record BlinderBegan (t : Terms) (half : List (List ℕ)) (mm y coins : List ℕ) : Type 0 where
  pub terms : TermsFit system t
  pub fits : Fits t.q (layout blinder t.m t.k t.p) half
  pub m-fits : Residues t.q (t.m * t.m) mm
  pub y-fits : Residues t.q (side_size t) y
  pub m-regular : regular t.q t.m mm ≡ true
  pub coins-fit : Residues t.q (scratch_size t) coins
  pub p-regular : regular t.q t.m (part 0 (scratch_parts t coins)) ≡ true

module _ (t : Terms) (half : List (List ℕ)) (mm y coins : List ℕ) (g : BlinderBegan t half mm y coins) (a : List ℕ) (ra : Residues t.q (message_size 1 t) a) where
  abbrev by_itself : Slot
  by_itself = half_slot blinder t half

  abbrev lent : List ℕ
  lent = zeros (scratch_size t)

  lent_length : length lent ≡ scratch_size t
  unfolding zeros
  lent_length = length-tabulate (scratch_size t) (λ i. 0)

  has : Holding blinder READY t half by_itself
  has = dealt-alone blinder t half g.fits

  has1 : Holding blinder IN-USE t half (slot_first t half mm y coins a)
  unfolding blinder_first_effect
  has1 = holding-used blinder t half by_itself has

  coins-are : coins_of t (words_for t.q coins) ≡ coins
  unfolding coins_of
  coins-are = drawn-own g.terms.small g.coins-fit

  scratch-is : (blinder_one t half mm y coins a).scratch ≡ coins
  unfolding blinder_first_effect
  scratch-is = coins-are

  takes1 : blinder_first t by_itself (length lent) mm y (words_for t.q coins) (incoming 1 t a) (message_size 2 t) ≡ done (blinder_one t half mm y coins a)
  takes1 = (tests.blinder-first t by_itself (length lent) mm y (words_for t.q coins) (incoming 1 t a) (message_size 2 t)).accepts (record {
    first = first_fits has g.terms;
    message = record { head-is = refl; residues = ra; last = early _ _ 1 refl };
    m-fits = g.m-fits;
    y-fits = g.y-fits;
    scratch-room = omega (arith, lent_length);
    message-room = le_refl _;
    enough = drawn-enough g.terms.small g.coins-fit;
    m-regular = g.m-regular;
    p-regular = rw coins-are g.p-regular;
  })

  told1 : said (blinder_one t half mm y coins a).sent ≡ (blinder_one t half mm y coins a).sent.residues ∷ []
  told1 = said-is (x1-sent t by_itself mm y (words_for t.q coins) (incoming 1 t a) g.terms)

  pub blinder-one : blinder_messages t by_itself (mm ∷ y ∷ []) (a ∷ []) (words_for t.q coins) ≡ (blinder_one t half mm y coins a).sent.residues ∷ []
  unfolding blinder_messages hearing
  blinder-one = then-accepted _ _ _ _ takes1 ∙ ap (λ (z : List (List ℕ)). z ++ []) told1

  pub x1-is : (s : Slot) (words : List ℕ) (m : Message) → m ≡ incoming 1 t a → matrices blinder t (slot_words s) ≡ half → coins_of t words ≡ coins
      → (blinder_first_effect t s mm y words m).sent ≡ (blinder_one t half mm y coins a).sent
  x1-is s words m i e c =
      x1-same t s by_itself mm y words (words_for t.q coins) m (e ∙ sym (holding-matrices blinder READY t half by_itself has)) (c ∙ sym coins-are)
      ∙ ap (λ (m : Message). (blinder_first_effect t by_itself mm y (words_for t.q coins) m).sent) i

  module _ (b : List ℕ) (rb : Residues t.q (message_size 3 t) b) (m-below : all_below t.q (kept_m (blinder_one t half mm y coins a).session) ≡ true)
      (y-below : all_below t.q (kept_y (blinder_one t half mm y coins a).session) ≡ true) where
    -- P and U0 stand in the scratch
    stand : take (scratch_size t) (scratch_first t half mm y coins a) ≡ coins
    stand = rw scratch-is (take-over lent g.coins-fit)

    room : scratch_size t ≤ length (scratch_first t half mm y coins a)
    room = rw scratch-is (omega (arith, over-length coins lent (omega (arith, lent_length, g.coins-fit.size)), lent_length))

    stand-parts : scratch_parts t (scratch_first t half mm y coins a) ≡ scratch_parts t coins
    unfolding scratch_parts scratch_size
    stand-parts = rw scratch-is (parts-over (scratch_layout t) lent g.coins-fit)

    takes2 : blinder_second (blinder_one t half mm y coins a).session (slot_first t half mm y coins a) (scratch_first t half mm y coins a) (incoming 3 t b) (message_size 4 t)
        ≡ done (blinder_two t half mm y coins a b)
    unfolding blinder_first_effect
    takes2 = (tests.blinder-second (blinder_one t half mm y coins a).session (slot_first t half mm y coins a) (scratch_first t half mm y coins a)
        (incoming 3 t b) (message_size 4 t)).accepts (record {
          later = record {
            due-is = refl;
            session-open = record { is_open = omega arith; terms = g.terms; half = half-fits has1 };
            matrices-fit = subst (λ (ls : List (List ℕ)). Fits t.q (layout blinder t.m t.k t.p) ls) (sym (holding-matrices blinder IN-USE t half _ has1)) g.fits;
          };
          message = record { head-is = refl; residues = rb; last = early _ _ 3 refl };
          scratch-room = room;
          m-below = m-below;
          y-below = y-below;
          scratch-below = ap (all_below t.q) stand ∙ residues-below g.coins-fit;
          write-room = le_refl _;
        })

    told2 : said (blinder_two t half mm y coins a b).sent ≡ (blinder_two t half mm y coins a b).sent.residues ∷ []
    unfolding blinder_first_effect
    told2 = said-is (w-sent (blinder_one t half mm y coins a).session (slot_first t half mm y coins a) (scratch_first t half mm y coins a) (incoming 3 t b) g.terms)

    -- whatever it gets afterwards
    pub blinder-two : (got : List (List ℕ)) → blinder_messages t by_itself (mm ∷ y ∷ []) (a ∷ b ∷ got) (words_for t.q coins)
        ≡ (blinder_one t half mm y coins a).sent.residues ∷ (blinder_two t half mm y coins a b).sent.residues ∷ []
    unfolding blinder_messages hearing
    blinder-two got =
        then-accepted _ _ _ _ takes1
        ∙ ap (λ (o : Outcome BlinderSession). said (blinder_one t half mm y coins a).sent ++ and_then (slot_first t half mm y coins a)
        (blinder_second (blinder_one t half mm y coins a).session (slot_first t half mm y coins a) (over (scratch_after o) lent) (incoming 3 t b)
        (message_size 4 t)) (λ x s. [])) takes1
        ∙ ap (λ (z : List (List ℕ)). z ++ and_then (slot_first t half mm y coins a)
        (blinder_second (blinder_one t half mm y coins a).session (slot_first t half mm y coins a) (scratch_first t half mm y coins a) (incoming 3 t b)
        (message_size 4 t)) (λ x s. [])) told1
        ∙ ap (λ (z : List (List ℕ)). (blinder_one t half mm y coins a).sent.residues ∷ z) (then-accepted _ _ _ _ takes2 ∙ ap (λ (z : List (List ℕ)). z ++ []) told2)

    pub w-is : (s : Slot) (u : List ℕ) (m : Message) → m ≡ incoming 3 t b → matrices blinder t (slot_words s) ≡ half → scratch_parts t u ≡ scratch_parts t coins
        → (blinder_second_effect (blinder_one t half mm y coins a).session s u m).sent ≡ (blinder_two t half mm y coins a b).sent
    unfolding blinder_first_effect
    w-is s u m i e c =
        w-same (blinder_one t half mm y coins a).session s (slot_first t half mm y coins a) u (scratch_first t half mm y coins a) m
        (e ∙ sym (holding-matrices blinder IN-USE t half _ has1)) (c ∙ sym stand-parts)
        ∙ ap (λ (m : Message). (blinder_second_effect (blinder_one t half mm y coins a).session (slot_first t half mm y coins a) (scratch_first t half mm y coins a) m).sent) i
