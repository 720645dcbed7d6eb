-- The laws of every step and drop, with a clause for each, here alone. All else goes by the table of steps (specs/Ends) and by these laws; only what the
-- solver's last step answers is read off its definition once more (Results).
--   FirstLaw, first-law       a first step's needs and effect: it is accepted exactly where they are met, what is known of it then, what it makes of the view,
--                             and that an end that keeps to the rules meets them
--   LaterLaw, later-law       the same of a later step or a drop
--   begins-sound, continues-sound, first-seen, later-seen, first_goes, later-goes   the laws, of any step
--   step-sends, step-ends     what it sends, and whether it ends its session
-- Assumes nothing.
use mathlib.Core.Path.{◌≡◌, refl, sym, ap, ◌∙◌, subst, subst₂}
use mathlib.Core.Logic.{◌⊎◌, inl, inr, ◌↔◌}
use mathlib.Core.Bool.{Bool, true, false}
use mathlib.Core.List.{List, [], ◌∷◌, ◌++◌}
use Prim.Native.Nat.{ℕ, ◌*◌}
use native.Mathlib.Omega.{arith}
use lib.ListN.{length, get_or}
use lib.Seq.{take_all}
use Rattle.algebra.specs.Matrix.{Residues, zeros, mat_mul}
use Rattle.algebra.specs.Count.{parts, part}
use Rattle.algebra.specs.Elimination.{regular}
use Rattle.algebra.proofs.Lists.{residues-none}
use Rattle.determinant.specs.Session.{answer}
use Rattle.protocol.specs.declared.Terms.{Terms}
use Rattle.protocol.specs.declared.SolverSession.{SolverSession}
use Rattle.std.specs.Prelude.{Err}
use Rattle.protocol.specs.declared.Refusal.TheVariants.{Singular}
use Rattle.protocol.specs.Judge.{done}
use Rattle.protocol.specs.Bounds.{system, columns}
use Rattle.protocol.specs.Tape.{Slot, slot_words, Role, left, right, blinder, solver, sort_of, words_spent, matrices, READY, IN-USE}
use Rattle.protocol.specs.Message.{Message, no_message, last_kind, message_layout, message_size, message_parts}
use Rattle.protocol.specs.Step.{Effect}
use Rattle.protocol.specs.Product.{closed_right, right_first_effect, left_effect, right_last_effect}
use Rattle.protocol.specs.System.{closed_solver, closed_blinder, side_size, scratch_size, scratch_layout, scratch_parts, coins_of, joint_sum, solver_first_effect, blinder_first_effect, solver_second_effect, blinder_second_effect, solver_last_effect, blinder_last_effect, solver_determinant_effect, blinder_determinant_effect}
use Rattle.protocol.specs.Drop.{dropped}
use Rattle.protocol.specs.View.{View}
use Rattle.protocol.specs.Completion.{taken_tests}
use Rattle.protocol.proofs.Judge.{passed}
use Rattle.protocol.proofs.Residues.{input-residues}
use Rattle.protocol.proofs.Tests.{Decides, TermsFit, OpenFits, MessageFits}
use Rattle.protocol.proofs.SystemEnds.{last-late}
use Rattle.protocol.proofs.StepTests as tests
use Rattle.protocol.proofs.CompletionInputs.{taken-by-right, taken-by-left, taken-by-solver, taken-by-blinder}
use Rattle.history.specs.Ends.{Session, left_end, right_end, solver_end, blinder_end, is_begun, due_in, terms_in, role_in, as_right, as_solver, as_blinder, First}
use Rattle.history.specs.Ends.{right-first, left-only, solver-first, blinder-first, Later, right-last, solver-second, solver-last, blinder-second}
use Rattle.history.specs.Ends.{blinder-last, solver-determinant, blinder-determinant, Next, due, due-last, next_kind, right-drop, solver-drop, blinder-drop, kind_of, role_first, role_later, as_any, run_first, run_later, Step, begins}
use Rattle.history.specs.Ends.{goes_on, run_step}
use Rattle.history.specs.Seen.{taken_later, view_later, view_first}
use Rattle.history.specs.Claim.{Closes, Ends}
use Rattle.history.proofs.Replay.{y-sent, x-sent, y1-sent, x1-sent, f-sent, w-sent, t-sent, d-sent, said-is, incoming-whole, solver-none, blinder-one, right-sends, left-sends, SolverBegan, y1-is, BlinderBegan, x1-is}
use Rattle.history.specs.Log.{World}
use Rattle.history.specs.Right.{FairFirst}
use Rattle.history.proofs.Accepted.{any-decides, first_row, later_row, Sends, in-system, Begins, began, coins-drawn, Continues, own_end, own_open, own_is, left_open, went, Waits}
use Rattle.history.proofs.Known.{known-with, known-still, s-first, b-first, SeenBy, cut, Gave, half-now, first-known}
use Rattle.history.proofs.KnownOn.{quiet, closed-solver, closed-blinder, open-short, drop-view, right-any, f-stage, t-stage, d-stage, w-stage, z-stage}
use Rattle.history.proofs.Needs.{Handed, FairBy, in-time, drop-needs, solver-needs, solver-last-needs, Coins, long-enough, own-p, blinder-needs}
use Rattle.algebra.specs.Product.{right_share}
use Rattle.protocol.proofs.Completion.{no_more, ◌before◌}
use Rattle.protocol.proofs.Halves.{Holding, holding-matrices, first_fits}
use Rattle.protocol.proofs.CompletionSystem.{taken-pair}

-- ---- first steps

pub record FirstLaw (t : Terms) (k : First) (s : Slot) (u : List ℕ) : Type 1 where
  pub Needs : Type 0
  pub effect : Effect Session
  pub decides : Decides (run_first t k s u) effect Needs
  pub known : Needs → Begins t k s effect
  pub seen : (ls : List (List ℕ)) → matrices (role_first k) t (slot_words s) ≡ ls → (role_first k ≡ blinder → regular t.q t.m (part 2 ls) ≡ true) → Needs
      → Begins t k s effect → SeenBy effect.session (view_first t k ls effect) × Gave (first_row k) t effect.result (view_first t k ls effect)
  pub met : (o : World) → Handed o → {ls : List (List ℕ)} → TermsFit (sort_of (role_first k)) t → Holding (role_first k) READY t ls s
      → FairFirst o t k (length u) → Needs

pub first-law : (t : Terms) (k : First) (s : Slot) (u : List ℕ) → FirstLaw t k s u
unfolding run_first right_first_effect left_effect solver_first_effect blinder_first_effect coins_of scratch_size scratch_parts
first-law t (right-first y room) s u =
    let d = tests.right-first t s y room in
    record {
      Needs = tests.RightFirstFits t s y room;
      effect = as_any right_end (right_first_effect t s y);
      decides = any-decides right_end d;
      known = λ n.
          began refl refl (inr (omega arith)) n.first (taken-by-right t s y room (d.accepts n)) residues-none refl refl
          (inr (y-sent t s y n.first.terms));
      seen = λ ls e rq n g.
          let m = y-sent t s y n.first.terms in (
            record {
              known = first-known t _ s ls e g rq m (sym (right-sends t ls s y room n e [])) (m.residues before no_more) no_more (omega arith);
              one-sent = ap length (said-is m);
              waits = λ z. refl;
            },
            (refl, omega arith),
          );
      met = λ o handed terms held f. record {
        first = first_fits held terms;
        y-fits = input-residues t.q (t.k * t.p) y (passed (taken_tests right t (y ∷ [])) f.0).0;
        message-room = f.1;
      };
    }
first-law t (left-only x words a room share_room) s u =
    let d = tests.left_step_lem t s x words a room share_room in
    record {
      Needs = tests.LeftFits t s x words a room share_room;
      effect = as_any (λ (z : Unit). left_end t) (left_effect t s x words a);
      decides = any-decides (λ (z : Unit). left_end t) d;
      known = λ n.
          began refl refl (inl refl) n.first (taken-by-left t s x words a room share_room (d.accepts n))
          (coins-drawn t (t.m * t.p) words n.first.terms n.enough) refl (n.message, λ p. refl) (inr (x-sent t s x words a n.first.terms));
      seen = λ ls e rq n g.
          let m = x-sent t s x words a n.first.terms in (
            first-known t _ s ls e g rq m (sym (left-sends t ls s x words a room share_room n e g.drew)) (m.residues before no_more)
                (n.message.residues before no_more) (omega arith),
            (refl, refl),
          );
      met = λ o handed terms held f. record {
        first = first_fits held terms;
        message = handed left t 1 a (omega arith) f.1;
        x_fits = input-residues t.q (t.m * t.k) x (passed (taken_tests left t (x ∷ [])) f.0).0;
        message-room = f.2;
        share-room = f.3;
        enough = f.4;
      };
    }
first-law t (solver-first l x room) s u =
    let d = tests.solver-first t s l x room in
    record {
      Needs = tests.SolverFirstFits t s l x room;
      effect = as_any solver_end (solver_first_effect t s l x);
      decides = any-decides solver_end d;
      known = λ n.
          began refl refl (inr (omega arith)) n.first (taken-by-solver t s l x room (d.accepts n)) residues-none refl refl
          (inr (y1-sent t s l x n.first.terms));
      seen = λ ls e rq n g.
          let m = y1-sent t s l x n.first.terms in
          let b : SolverBegan t ls l x = record {
            terms = n.first.terms;
            fits = half-now t _ s ls e g;
            l-fits = n.l-fits;
            x_fits = n.x_fits;
            l-regular = n.l-regular;
          } in (
            record {
              known = first-known t _ s ls e g rq m (ap (λ (m : Message). m.residues ∷ []) (y1-is t ls l x b s e) ∙ sym (solver-none t ls l x b))
                  (m.residues before no_more) no_more (omega arith);
              l = l;
              x = x;
              input-is = refl;
              began = b;
              stage = s-first refl refl;
            },
            (refl, tt),
          );
      met = λ o handed terms held f.
          let i = taken-pair t (l ∷ x ∷ []) f.0 in
          record { first = first_fits held terms; l-fits = i.matrix; x_fits = i.side; message-room = f.1; l-regular = i.inverse };
    }
first-law t (blinder-first mm y words a room) s u =
    let d = tests.blinder-first t s (length u) mm y words a room in
    record {
      Needs = tests.BlinderFirstFits t s (length u) mm y words a room;
      effect = as_any blinder_end (blinder_first_effect t s mm y words a);
      decides = any-decides blinder_end d;
      known = λ n.
          began refl refl (inr (omega arith)) n.first (taken-by-blinder t s (length u) mm y words a room (d.accepts n))
          (coins-drawn t (scratch_size t) words n.first.terms n.enough) n.p-regular (n.message, λ p. in-system p)
          (inr (x1-sent t s mm y words a n.first.terms));
      seen = λ ls e rq n g.
          let m = x1-sent t s mm y words a n.first.terms in
          let rm = n.message.residues in
          let b : BlinderBegan t ls mm y (coins_of t words) = record {
            terms = n.first.terms;
            fits = half-now t _ s ls e g;
            m-fits = n.m-fits;
            y-fits = n.y-fits;
            m-regular = n.m-regular;
            coins-fit = g.drew;
            p-regular = n.p-regular;
          } in (
            record {
              known = first-known t _ s ls e g rq m
                  (ap (λ (b : Message). b.residues ∷ []) (x1-is t ls mm y (coins_of t words) b a.residues rm s words a (incoming-whole n.message) e refl)
                  ∙ sym (blinder-one t ls mm y (coins_of t words) b a.residues rm))
                  (m.residues before no_more) (rm before no_more) (omega arith);
              mm = mm;
              y = y;
              input-is = refl;
              began = b;
              stage = b-first a.residues rm refl refl;
            },
            (refl, omega arith),
          );
      met = λ o handed terms held f.
          let i = taken-pair t (mm ∷ y ∷ []) f.0 in
          record {
            first = first_fits held terms;
            message = handed blinder t 1 a (omega arith) f.1;
            m-fits = i.matrix;
            y-fits = i.side;
            scratch-room = f.3;
            message-room = f.2;
            enough = f.4;
            m-regular = i.inverse;
            p-regular = f.5;
          };
    }

pub begins-sound : (t : Terms) (k : First) (s : Slot) (u : List ℕ) (e : Effect Session) → run_first t k s u ≡ done e → Begins t k s e
begins-sound t k s u e h =
    let law = first-law t k s u in
    let m = law.decides.means h in
    subst (Begins t k s) m.1 (law.known m.0)

pub first-seen : (t : Terms) (k : First) (s : Slot) (u : List ℕ) (f : Effect Session) (ls : List (List ℕ)) → run_first t k s u ≡ done f
    → matrices (role_first k) t (slot_words s) ≡ ls → (role_first k ≡ blinder → regular t.q t.m (part 2 ls) ≡ true)
    → SeenBy f.session (view_first t k ls f) × Gave (first_row k) t f.result (view_first t k ls f)
first-seen t k s u f ls h e rq =
    let law = first-law t k s u in
    let m = law.decides.means h in
    subst (λ (f : Effect Session). SeenBy f.session (view_first t k ls f) × Gave (first_row k) t f.result (view_first t k ls f)) m.1
    (law.seen ls e rq m.0 (law.known m.0))

pub first_goes : (o : World) → Handed o → (t : Terms) (k : First) (s : Slot) (u : List ℕ) {ls : List (List ℕ)} → TermsFit (sort_of (role_first k)) t
    → Holding (role_first k) READY t ls s → FairFirst o t k (length u) → (f : Effect Session) × (run_first t k s u ≡ done f)
first_goes o handed t k s u terms held f = let law = first-law t k s u in (law.effect, law.decides.accepts (law.met o handed terms held f))

-- ---- later steps and drops

-- t, or nothing where W + V is singular
t-sends : (y : SolverSession) (s : Slot) (m : Message) → TermsFit system y.terms → last_kind y.terms.m y.terms.p ≡ 5 → (b : Bool) → regular y.terms.q y.terms.m (joint_sum y s m) ≡ b
    → let e = solver_last_effect y s m in
    ((e.sent ≡ no_message) × ((◌≡◌ {A = ℕ} 5 0) ⊎ (e.answer ≡ Err Singular))) ⊎ MessageFits 5 y.terms e.sent
t-sends y s m t k true e = inr (t-sent y s m t k e)
t-sends y s m t k false e = inl (unfold solver_last_effect in (rw e, inr (rw e)))

-- message 6 is one part
whole-six : (t : Terms) (a : List ℕ) → Residues t.q (message_size 6 t) a → part 0 (cut 6 t a) ≡ a
unfolding message_size message_layout parts
whole-six t a r = take_all 1 a (omega (arith, r.size))

-- the determinant that was received, divided by those of P and Q, in terms of the view
determinant-of : (t : Terms) (v : View) (s : Slot) (u a : List ℕ) → Residues t.q (message_size 6 t) a → matrices blinder t (slot_words s) ≡ v.half
    → scratch_parts t u ≡ scratch_parts t v.coins
    → answer t.q t.m (part 0 (scratch_parts t u)) (part 2 (matrices blinder t (slot_words s))) (get_or (part 0 (cut 6 t a)) 0 0) ∷ []
    ≡ answer t.q t.m (part 0 (parts (scratch_layout t) v.coins)) (part 2 v.half) (get_or a 0 0) ∷ []
unfolding scratch_parts
determinant-of t v s u a r e c = rw (e, c, whole-six t a r)

-- y: the session, as its own end's
pub record LaterLaw (k : Later) (x : Session) (s : Slot) (u : List ℕ) (y : Session) : Type 1 where
  pub waits : Waits (later_row k).takes (taken_later k)
  pub Needs : Type 0
  pub effect : Effect Session
  pub decides : Decides (run_later k x s u) effect Needs
  pub known : Needs → Continues k y s effect
  pub seen : (v : View) → SeenBy y v → matrices (role_later k) (terms_in y) (slot_words s) ≡ v.half
      → (role_later k ≡ blinder → scratch_parts (terms_in y) u ≡ scratch_parts (terms_in y) v.coins) → Needs
      → SeenBy effect.session (view_later v k effect) × Gave (later_row k) (terms_in y) effect.result (view_later v k effect)
  pub met : (v : View) (ls : List (List ℕ)) → v.half ≡ ls → SeenBy y v → Holding (role_later k) IN-USE (terms_in y) ls s → (role_later k ≡ blinder → Coins v u) → FairBy y k
      → Needs

pub later-law : (k : Later) (x : Session) (s : Slot) (u : List ℕ) → LaterLaw k x s u (own_end (role_later k) x)
unfolding run_later right_last_effect solver_second_effect solver_last_effect solver_determinant_effect blinder_second_effect blinder_last_effect blinder_determinant_effect message_parts
later-law (right-last m room) x s u =
    let t = (as_right x).terms in
    record {
      waits = omega arith;
      Needs = tests.RightLastFits (as_right x) s m room;
      effect = as_any right_end (right_last_effect (as_right x) s m);
      decides = any-decides right_end (tests.right-last (as_right x) s m room);
      known = λ n. went x refl n.later.session-open (n.later.due-is, inl refl) (n.message, λ p. refl) (inl (refl, inl refl));
      seen = λ v sn e c n.
          let w = n.later.session-open.is_open in
          let got : v.received ++ (m.residues ∷ []) ≡ m.residues ∷ [] = ap (λ (z : List (List ℕ)). z ++ (m.residues ∷ [])) (sn.waits w) in (
            record {
              known = known-with sn.known v.sent (m.residues ∷ []) (quiet v.sent) got (sn.known.sent_is ∙ right-any _ _ _ _ _) sn.known.sent-fit
                  (n.message.residues before no_more) (omega (arith, sn.one-sent));
              one-sent = ap length (quiet v.sent) ∙ sn.one-sent;
              waits = λ z. absurd (omega (arith, z));
            },
            (
              refl,
              m.residues,
              got,
              ap (λ (ls : List (List ℕ)). right_share t.q t.m t.k t.p (part 0 (cut 2 t m.residues)) (part 0 ls)
                  (part 1 (cut 2 t m.residues)) (part 1 ls)) e,
            ),
          );
      met = λ v ls own sn held b f. record {
        later = in-time 2 (as_right x).due held sn.known.terms-fit f.0 (omega arith);
        message = f.1;
        share-room = f.2;
      };
    }
later-law (solver-second m room) x s u = record {
  waits = omega arith;
  Needs = tests.SolverFits 2 (as_solver x) s m (message_size 3 (as_solver x).terms) room;
  effect = as_any solver_end (solver_second_effect (as_solver x) s m);
  decides = any-decides solver_end (tests.solver-second (as_solver x) s m room);
  known = λ n.
      went x refl n.later.session-open (n.later.due-is, inr (omega arith)) (n.message, λ p. in-system p)
      (inr (f-sent (as_solver x) s m n.later.session-open.terms));
  seen = λ v sn e c n. (f-stage (as_solver x) v s m room sn n e sn.stage, (refl, tt));
  met = λ v ls own sn held b f. solver-needs v s ls 2 m _ room (as_solver x) sn held (omega arith) (f.0, f.1, f.2);
}
later-law (solver-last m room) x s u = record {
  waits = omega arith;
  Needs = tests.SolverLastFits 5 (as_solver x) s m (message_size 5 (as_solver x).terms) room;
  effect = as_any solver_end (solver_last_effect (as_solver x) s m);
  decides = any-decides solver_end (tests.solver-last (as_solver x) s m room);
  known = λ n.
      let later = n.fits.later in
      went x refl later.session-open (later.due-is, inl refl) (n.fits.message, λ p. in-system p)
      (t-sends (as_solver x) s m later.session-open.terms n.sort-is _ refl);
  seen = λ v sn e c n. (closed-solver sn (t-stage (as_solver x) v s m room sn n e _ refl), (refl, tt));
  met = λ v ls own sn held b f. solver-last-needs v s ls 5 m _ room (as_solver x) (omega arith) sn held f;
}
later-law (solver-determinant m room) x s u = record {
  waits = omega arith;
  Needs = tests.SolverLastFits 6 (as_solver x) s m (message_size 6 (as_solver x).terms) room;
  effect = as_any solver_end (solver_determinant_effect (as_solver x) s m);
  decides = any-decides solver_end (tests.solver-determinant (as_solver x) s m room);
  known = λ n.
      let later = n.fits.later in
      went x refl later.session-open (later.due-is, inl refl) (n.fits.message, λ p. in-system p)
      (inr (d-sent (as_solver x) s m later.session-open.terms n.sort-is));
  seen = λ v sn e c n. (closed-solver sn (d-stage (as_solver x) v s m room sn n e), (refl, tt));
  met = λ v ls own sn held b f. solver-last-needs v s ls 6 m _ room (as_solver x) (omega arith) sn held f;
}
later-law (blinder-second m room) x s u = record {
  waits = omega arith;
  Needs = tests.BlinderFits 3 (as_blinder x) s u m (message_size 4 (as_blinder x).terms) room;
  effect = as_any blinder_end (blinder_second_effect (as_blinder x) s u m);
  decides = any-decides blinder_end (tests.blinder-second (as_blinder x) s u m room);
  known = λ n.
      let late = last-late (as_blinder x).terms.m (as_blinder x).terms.p in
      went x (left_open _ (blinder_end (as_blinder x)) s (omega (arith, late))) n.later.session-open (n.later.due-is, inr (omega (arith, late)))
      (n.message, λ p. in-system p)
      (inr (w-sent (as_blinder x) s u m n.later.session-open.terms));
  seen = λ v sn e c n.
      let w = w-stage (as_blinder x) v s u m room sn n e (c refl) sn.stage in
      (w, (refl, open-short _ w.stage (omega (arith, last-late (as_blinder x).terms.m (as_blinder x).terms.p))));
  met = λ v ls own sn held b f. blinder-needs v u (b refl) s ls 3 m _ room (as_blinder x) sn held (omega arith) (f.0, f.1, f.2);
}
later-law (blinder-last m room) x s u =
    let t = (as_blinder x).terms in
    record {
      waits = omega arith;
      Needs = tests.BlinderFits 5 (as_blinder x) s u m (side_size (as_blinder x).terms) room;
      effect = as_any blinder_end (blinder_last_effect (as_blinder x) s u m);
      decides = any-decides blinder_end (tests.blinder-last (as_blinder x) s u m room);
      known = λ n. went x refl n.later.session-open (n.later.due-is, inl refl) (n.message, λ p. in-system p) (inl (refl, inl refl));
      seen = λ v sn e c n.
          let w = z-stage 5 (as_blinder x) v m sn (omega arith) n.later.due-is n.message sn.stage in (
            closed-blinder sn (known-still w.3 (quiet v.sent) refl),
            (
              refl,
              w.0,
              w.1,
              m.residues,
              ap (λ (z : List (List ℕ)). z ++ (m.residues ∷ [])) w.2,
              ap (λ (ls : List (List ℕ)). mat_mul t.q t.m t.m (columns t.m t.p) (part 2 ls) (part 0 (cut 5 t m.residues))) e,
              w.4,
            ),
          );
      met = λ v ls own sn held b f. blinder-needs v u (b refl) s ls 5 m _ room (as_blinder x) sn held (omega arith) (f.0, f.1, f.2);
    }
later-law (blinder-determinant m room) x s u =
    let t = (as_blinder x).terms in
    record {
      waits = omega arith;
      Needs = tests.BlinderDeterminantFits (as_blinder x) s u m room;
      effect = as_any blinder_end (blinder_determinant_effect (as_blinder x) s u m);
      decides = any-decides blinder_end (tests.blinder-determinant (as_blinder x) s u m room);
      known = λ n.
          let later = n.fits.later in
          went x refl later.session-open (later.due-is, inl refl) (n.fits.message, λ p. in-system p) (inl (refl, inl refl));
      seen = λ v sn e c n.
          let w = z-stage 6 (as_blinder x) v m sn (omega arith) n.fits.later.due-is n.fits.message sn.stage in (
            closed-blinder sn (known-still w.3 (quiet v.sent) refl),
            (
              refl,
              w.0,
              w.1,
              m.residues,
              ap (λ (z : List (List ℕ)). z ++ (m.residues ∷ [])) w.2,
              determinant-of t v s u m.residues n.fits.message.residues e (c refl),
              w.4,
            ),
          );
      met = λ v ls own sn held b f. record {
        fits = blinder-needs v u (b refl) s ls 6 m _ room (as_blinder x) sn held (omega arith) (f.0, f.1, f.2);
        p-regular = ap (λ (z : List ℕ). regular t.q t.m z) (own-p v u (b refl) (as_blinder x) sn) ∙ sn.known.coins-fit;
        q-regular = ap (λ (z : List (List ℕ)). regular t.q t.m (part 2 z)) (holding-matrices blinder IN-USE t ls s held ∙ sym own) ∙ sn.known.mask_fits;
      };
    }
later-law right-drop x s u = record {
  waits = refl;
  Needs = OpenFits right (as_right x).due (as_right x).terms s;
  effect = as_any right_end (dropped (closed_right (as_right x)) (words_spent right (as_right x).terms (slot_words s)) []);
  decides = any-decides right_end (tests.drop-right (as_right x) s);
  known = λ n. went x refl n refl refl (inl (refl, inl refl));
  seen = λ v sn e c n. drop-view (right_end (as_right x)) v sn n.is_open;
  met = λ v ls own sn held b f. drop-needs held sn.known.terms-fit f;
}
later-law solver-drop x s u = record {
  waits = refl;
  Needs = OpenFits solver (as_solver x).due (as_solver x).terms s;
  effect = as_any solver_end (dropped (closed_solver (as_solver x)) (words_spent solver (as_solver x).terms (slot_words s)) []);
  decides = any-decides solver_end (tests.drop-solver (as_solver x) s);
  known = λ n. went x refl n refl refl (inl (refl, inl refl));
  seen = λ v sn e c n. drop-view (solver_end (as_solver x)) v sn n.is_open;
  met = λ v ls own sn held b f. drop-needs held sn.known.terms-fit f;
}
later-law blinder-drop x s u =
    let t = (as_blinder x).terms in
    record {
      waits = refl;
      Needs = tests.DropBlinderFits (as_blinder x) s u;
      effect = as_any blinder_end (dropped (closed_blinder (as_blinder x)) (words_spent blinder t (slot_words s)) (zeros (scratch_size t)));
      decides = any-decides blinder_end (tests.drop-blinder (as_blinder x) s u);
      known = λ n. went x refl n.session-open refl refl (inl (refl, inl refl));
      seen = λ v sn e c n. drop-view (blinder_end (as_blinder x)) v sn n.session-open.is_open;
      met = λ v ls own sn held b f. record { session-open = drop-needs held sn.known.terms-fit f; scratch-room = long-enough v u (b refl) (as_blinder x) sn };
    }

-- an accepted one: its needs were met, its effect is the definition's, and the session that it was called for is its own end's
taken-up : (k : Later) (x : Session) (s : Slot) (u : List ℕ) {e : Effect Session} → run_later k x s u ≡ done e
    → (later-law k x s u).Needs × ((later-law k x s u).effect ≡ e) × (own_end (role_later k) x ≡ x)
taken-up k x s u h =
    let law = later-law k x s u in
    let m = law.decides.means h in
    (m.0, m.1, own_open (role_later k) x (law.known m.0).session-open.is_open)

pub continues-sound : (k : Later) (x : Session) (s : Slot) (u : List ℕ) (e : Effect Session) → run_later k x s u ≡ done e → Continues k x s e
continues-sound k x s u e h =
    let m = taken-up k x s u h in
    subst₂ (λ (x : Session) (e : Effect Session). Continues k x s e) m.2 m.1 ((later-law k x s u).known m.0)

pub later-seen : (k : Later) (x : Session) (v : View) (s : Slot) (u : List ℕ) (f : Effect Session) → SeenBy x v → run_later k x s u ≡ done f
    → matrices (role_in x) (terms_in x) (slot_words s) ≡ v.half → (role_in x ≡ blinder → scratch_parts (terms_in x) u ≡ scratch_parts (terms_in x) v.coins)
    → SeenBy f.session (view_later v k f) × Gave (later_row k) (terms_in x) f.result (view_later v k f)
later-seen k x v s u f sn h e c =
    let m = taken-up k x s u h in
    let r : role_in x ≡ role_later k = (continues-sound k x s u f h).role-was in
    let t : terms_in (own_end (role_later k) x) ≡ terms_in x = ap terms_in m.2 in
    let both = (later-law k x s u).seen v (subst (λ z. SeenBy z v) (sym m.2) sn)
    (subst₂ (λ (r : Role) (t : Terms). matrices r t (slot_words s) ≡ v.half) r (sym t) e)
    (λ b. subst (λ (t : Terms). scratch_parts t u ≡ scratch_parts t v.coins) (sym t) (c (r ∙ b))) m.0
    in
    subst₂ (λ (t : Terms) (f : Effect Session). SeenBy f.session (view_later v k f) × Gave (later_row k) t f.result (view_later v k f)) t m.1 both

pub later-goes : (v : View) (s : Slot) (ls : List (List ℕ)) (u : List ℕ) (k : Later) (x : Session) → v.half ≡ ls → is_begun x ≡ true → role_in x ≡ role_later k → SeenBy x v
    → Holding (role_later k) IN-USE (terms_in x) ls s → (role_later k ≡ blinder → Coins v u) → FairBy x k → (f : Effect Session) × (run_later k x s u ≡ done f)
later-goes v s ls u k x h b r seen held c f =
    let law = later-law k x s u in
    let own : own_end (role_later k) x ≡ x = subst (λ (r : Role). own_end r x ≡ x) r (own_is x b) in
    let needs : law.Needs =
    subst (λ (y : Session). SeenBy y v → Holding (role_later k) IN-USE (terms_in y) ls s → (role_later k ≡ blinder → Coins v u) → FairBy y k → law.Needs) own
    (law.met v ls h)
    seen held c f
    in
    (law.effect, law.decides.accepts needs)

-- ---- any of them

pub step-sends : (k : Step) (x : Session) (s : Slot) (u : List ℕ) (e : Effect Session) → run_step k x s u ≡ done e → Sends (kind_of k) e
step-sends (begins t k) x s u e h = (begins-sound t k s u e h).sends
step-sends (goes_on k) x s u e h = (continues-sound k x s u e h).sends

closes_by : (d : ℕ) (next : Next) (t : Terms) → d ≡ next_kind next t → (d ≡ 0) ↔ Closes next
closes_by d (due kind) t e = (λ z. sym e ∙ z, λ z. e ∙ z)
closes_by d due-last t e = (λ z. absurd (omega (arith, z, e, last-late t.m t.p)), λ z. absurd z)

-- it leaves 0 due exactly where it is one of those that end a session
pub step-ends : (k : Step) (x : Session) (s : Slot) (u : List ℕ) (e : Effect Session) → run_step k x s u ≡ done e → (due_in e.session ≡ 0) ↔ Ends k
step-ends (begins t k) x s u e h = closes_by (due_in e.session) (first_row k).next t (begins-sound t k s u e h).due-is
step-ends (goes_on k) x s u e h = closes_by (due_in e.session) (later_row k).next (terms_in x) (continues-sound k x s u e h).due-is
