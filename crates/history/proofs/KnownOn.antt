-- What is known of a session's view after a later step or a drop, by what its own end's definition leaves.
--   shut, drop-view                      a drop: the view stays
--   f-stage, t-stage, d-stage, w-stage, z-stage   the later steps of a system, by what each is to give: F, t or the determinant, W, the answer
-- Assumes nothing.
use mathlib.Core.Path.{◌≡◌, refl, sym, ap, ap₂, ◌∙◌, subst}
use mathlib.Core.Bool.{Bool, true, false}
use mathlib.Core.List.{List, [], ◌∷◌, ◌++◌, append-nil}
use Prim.Native.Nat.{ℕ, suc, ◌<◌}
use native.Mathlib.Omega.{arith}
use lib.ListN.{length}
use Rattle.algebra.specs.Matrix.{Residues}
use Rattle.algebra.specs.Elimination.{regular}
use Rattle.protocol.specs.declared.Terms.{Terms}
use Rattle.protocol.specs.declared.SolverSession.{SolverSession}
use Rattle.protocol.specs.declared.BlinderSession.{BlinderSession}
use Rattle.protocol.specs.Answer.{Answer}
use Rattle.std.specs.Prelude.{Ok, Err}
use Rattle.protocol.specs.declared.Refusal.TheVariants.{Singular}
use Rattle.protocol.specs.Drawing.{words_for}
use Rattle.protocol.specs.Bounds.{all_below}
use Rattle.protocol.specs.Tape.{Slot, slot_words, blinder, solver, matrices}
use Rattle.protocol.specs.Message.{Message, no_message, last_kind, message_size}
use Rattle.protocol.specs.Product.{closed_right}
use Rattle.protocol.specs.System.{closed_solver, closed_blinder, kept_s, kept_m, kept_y, joint_sum, scratch_parts, solver_first_effect, solver_second_effect, solver_last_effect, solver_determinant_effect, blinder_first_effect, blinder_second_effect}
use Rattle.protocol.specs.View.{View}
use Rattle.protocol.specs.Completion.{said, right_messages, solver_messages, blinder_messages}
use Rattle.protocol.proofs.Tests.{MessageFits}
use Rattle.protocol.proofs.SystemEnds.{last-late}
use Rattle.protocol.proofs.StepTests as tests
use Rattle.protocol.proofs.CompletionLaws.{half_slot}
use Rattle.protocol.proofs.Completion.{no_more, ◌before◌}
use Rattle.history.specs.Ends.{Session, absent, left_end, right_end, solver_end, blinder_end, due_in, terms_in, role_in, no_result}
use Rattle.history.specs.Seen.{heard}
use Rattle.history.proofs.Replay.{said-is, incoming-whole, f-sent, w-sent, t-sent, d-sent, LastStep, system-step, determinant-step, y1-sent, x1-sent, solver_one, solver_two, solver_three, solver-none, solver-one, solver-two, f-is, last-is, blinder_one, blinder_two, blinder-one, blinder-two, w-is}
use Rattle.history.proofs.Known.{Known, view_with, known-with, known-still, SolverStage, s-first, s-second, s-over, SolverSeen, BlinderStage, b-first, b-second, b-over, BlinderSeen, SeenBy, Short, GaveBy}

pub quiet : (l : List (List ℕ)) → l ++ said no_message ≡ l
unfolding said
quiet l = append-nil l

-- ---- drops: the view stays, and the session closes

abbrev pub shut : Session → Session
shut absent = absent
shut (left_end t) = left_end t
shut (right_end x) = right_end (closed_right x)
shut (solver_end x) = solver_end (closed_solver x)
shut (blinder_end x) = blinder_end (closed_blinder x)

pub closed-solver : {y : SolverSession} {v : View} {sent got : List (List ℕ)} → SolverSeen y v → Known solver y.terms (view_with v sent got)
    → SolverSeen (closed_solver y) (view_with v sent got)
closed-solver seen k = record { known = k; l = seen.l; x = seen.x; input-is = seen.input-is; began = seen.began; stage = s-over refl }

pub closed-blinder : {z : BlinderSession} {v : View} {sent got : List (List ℕ)} → BlinderSeen z v → Known blinder z.terms (view_with v sent got)
    → BlinderSeen (closed_blinder z) (view_with v sent got)
closed-blinder seen k = record { known = k; mm = seen.mm; y = seen.y; input-is = seen.input-is; began = seen.began; stage = b-over refl }

-- an open blinder awaits a message
pub open-short : {t : Terms} {half : List (List ℕ)} {mm y coins : List ℕ} (z : BlinderSession) {got : List (List ℕ)} → BlinderStage t half mm y coins z got
    → 0 < z.due → length got < 3
open-short z (b-first a ra p q) o = omega (arith, ap length p)
open-short z (b-second a b b2 b4 ra rb p d kept two) o = omega (arith, ap length p)
open-short z (b-over d) o = absurd (omega (arith, o, d))

shut-seen : (x : Session) (v : View) {sent got : List (List ℕ)} → SeenBy x v → 0 < due_in x → sent ≡ v.sent → got ≡ v.received
    → SeenBy (shut x) (view_with v sent got) × Short (role_in x) (view_with v sent got)
shut-seen absent v seen o es eg = absurd (omega (arith, o))
shut-seen (left_end t) v seen o es eg = absurd (omega (arith, o))
shut-seen (right_end x) v seen o es eg = (
  record { known = known-still seen.known es eg; one-sent = ap length es ∙ seen.one-sent; waits = λ z. absurd (omega (arith, z)) },
  omega (arith, ap length (eg ∙ seen.waits o)),
)
shut-seen (solver_end x) v seen o es eg = (closed-solver seen (known-still seen.known es eg), tt)
shut-seen (blinder_end x) v seen o es eg = (
  closed-blinder seen (known-still seen.known es eg),
  omega (arith, ap length eg, open-short x seen.stage o),
)

pub drop-view : (x : Session) (v : View) → SeenBy x v → 0 < due_in x
    → let w = view_with v (v.sent ++ said no_message) (v.received ++ []) in SeenBy (shut x) w × GaveBy no_result (role_in x) (terms_in x) [] w
drop-view x v seen o = let d = shut-seen x v seen o (quiet v.sent) (append-nil v.received) in (d.0, (refl, d.1))

-- ---- right

pub right-any : (t : Terms) (s : Slot) (i got got' : List (List ℕ)) → right_messages t s i got ≡ right_messages t s i got'
unfolding right_messages
right-any t s i got got' = refl

-- ---- the solver

-- a system's input is a matrix and a vector
module _ {v : View} {t : Terms} {l x : List ℕ} (k : Known solver t v) (is : v.input ≡ l ∷ x ∷ []) where
  solver-sent : {got : List (List ℕ)} → v.received ≡ got → v.sent ≡ solver_messages t (half_slot solver t v.half) (l ∷ x ∷ []) got
  solver-sent e = k.sent_is ∙ ap₂ (λ (i g : List (List ℕ)). solver_messages t (half_slot solver t v.half) i g) is e

-- after its second step, by the stage before it
pub f-stage : (y : SolverSession) (v : View) (s : Slot) (m : Message) (room : ℕ) (seen : SolverSeen y v)
    → tests.SolverFits 2 y s m (message_size 3 y.terms) room
    → matrices solver y.terms (slot_words s) ≡ v.half → SolverStage y.terms v.half seen.l seen.x y v.received
    → SolverSeen (solver_second_effect y s m).session (view_with v (v.sent ++ said (solver_second_effect y s m).sent) (v.received ++ (m.residues ∷ [])))
unfolding solver_second_effect
f-stage y v s m room seen o e (s-first p q) =
    let t = y.terms in
    let l = seen.l in
    let x = seen.x in
    let g = seen.began in
    let rm = o.message.residues in
    let own = f-sent y s m g.terms in
    let is = f-is t v.half l x g m.residues rm s m (incoming-whole o.message) e in
    let now : (solver_second_effect y s m).sent ≡ (solver_two t v.half l x m.residues).sent = ap (λ (z : SolverSession). (solver_second_effect z s m).sent) q ∙ is.0 in
    let got : v.received ++ (m.residues ∷ []) ≡ m.residues ∷ [] = ap (λ (z : List (List ℕ)). z ++ (m.residues ∷ [])) p in
    record {
      known = known-with seen.known ((solver_one t v.half l x).sent.residues ∷ (solver_two t v.half l x m.residues).sent.residues ∷ []) (m.residues ∷ [])
          (ap₂ (λ (a b : List (List ℕ)). a ++ b) (solver-sent seen.known seen.input-is p ∙ solver-none t v.half l x g)
          (said-is own ∙ ap (λ (b : Message). b.residues ∷ []) now))
          got
          (sym (solver-one t v.half l x g m.residues rm)
          ∙ ap (λ (i : List (List ℕ)). solver_messages t (half_slot solver t v.half) i (m.residues ∷ [])) (sym seen.input-is))
          ((y1-sent t _ l x g.terms).residues before subst (λ (b : Message). Residues t.q (message_size 3 t) b.residues) now own.residues before no_more)
          (rm before no_more) (omega arith);
      l = l;
      x = x;
      input-is = seen.input-is;
      began = g;
      stage = s-second m.residues rm got (ap (λ (z : SolverSession). (solver_second_effect z s m).session) q ∙ is.1);
    }
f-stage y v s m room seen o e (s-second a ra p q) = absurd (omega (arith, o.later.due-is, ap (λ (z : SolverSession). z.due) q))
f-stage y v s m room seen o e (s-over d) = absurd (omega (arith, o.later.due-is, d))

-- its last step accepts message 4, or refuses it by 10 and closes the session
module _ (y : SolverSession) (s : Slot) (m : Message) where
  takes : regular y.terms.q y.terms.m (joint_sum y s m) ≡ true → (solver_last_effect y s m).answer ≡ Ok 0
  unfolding solver_last_effect
  takes r = rw r

  refuses : regular y.terms.q y.terms.m (joint_sum y s m) ≡ false → ((solver_last_effect y s m).answer ≡ Err Singular) × ((solver_last_effect y s m).sent ≡ no_message)
  unfolding solver_last_effect
  refuses r = (rw r, rw r)

-- where it accepts message 4, by the stage before it: of either sort
module _ {kind : ℕ} (y : SolverSession) (v : View) (s : Slot) (m : Message) (room : ℕ) (seen : SolverSeen y v) (last : LastStep y.terms (suc kind))
    (o : tests.SolverFits 4 y s m (message_size (suc kind) y.terms) room) (e : matrices solver y.terms (slot_words s) ≡ v.half)
    (own : MessageFits (suc kind) y.terms (last.effect y s m).sent) (taken : (last.effect y s m).answer ≡ Ok 0) where
  pub last-stage : SolverStage y.terms v.half seen.l seen.x y v.received
      → Known solver y.terms (view_with v (v.sent ++ said (last.effect y s m).sent) (v.received ++ heard (last.effect y s m).answer (m ∷ [])))
  unfolding solver_first_effect solver_second_effect
  last-stage (s-first p q) = absurd (omega (arith, o.later.due-is, ap (λ (z : SolverSession). z.due) q))
  last-stage (s-second a ra p q) =
      let t = y.terms in
      let l = seen.l in
      let x = seen.x in
      let g = seen.began in
      let rm = o.message.residues in
      let below = subst (λ (z : SolverSession). all_below t.q (kept_s z) ≡ true) q o.s-below in
      let now : (last.effect y s m).sent ≡ (solver_three t v.half l x last a m.residues).sent =
      ap (λ (z : SolverSession). (last.effect z s m).sent) q ∙ last-is t v.half l x g a ra last m.residues rm below s m (incoming-whole o.message) e
      in
      let own' : MessageFits (suc kind) t (solver_three t v.half l x last a m.residues).sent = subst (MessageFits (suc kind) t) now own in
      known-with seen.known
      ((solver_one t v.half l x).sent.residues ∷ (solver_two t v.half l x a).sent.residues ∷ (solver_three t v.half l x last a
      m.residues).sent.residues ∷ []) (a ∷ m.residues ∷ [])
      (ap₂ (λ (a b : List (List ℕ)). a ++ b) (solver-sent seen.known seen.input-is p ∙ solver-one t v.half l x g a ra)
      (said-is own ∙ ap (λ (b : Message). b.residues ∷ []) now))
      (ap₂ (λ (a : List (List ℕ)) (b : Answer). a ++ heard b (m ∷ [])) p taken)
      (sym (solver-two t v.half l x g a ra last m.residues rm below own')
      ∙ ap (λ (i : List (List ℕ)). solver_messages t (half_slot solver t v.half) i (a ∷ m.residues ∷ [])) (sym seen.input-is))
      ((y1-sent t _ l x g.terms).residues before (f-sent (solver_one t v.half l x).session _ _ g.terms).residues
      before subst (λ (k : ℕ). Residues t.q (message_size k t) (solver_three t v.half l x last a m.residues).sent.residues) (sym last.kind-is) own'.residues
      before no_more)
      (ra before rm before no_more) (omega arith)
  last-stage (s-over d) = absurd (omega (arith, o.later.due-is, d))

pub t-stage : (y : SolverSession) (v : View) (s : Slot) (m : Message) (room : ℕ) (seen : SolverSeen y v)
    → tests.SolverLastFits 5 y s m (message_size 5 y.terms) room
    → matrices solver y.terms (slot_words s) ≡ v.half → (b : Bool) → regular y.terms.q y.terms.m (joint_sum y s m) ≡ b
    → Known solver y.terms (view_with v (v.sent ++ said (solver_last_effect y s m).sent) (v.received ++ heard (solver_last_effect y s m).answer (m ∷ [])))
t-stage y v s m room seen o e true r =
    last-stage y v s m room seen (system-step y.terms o.sort-is) o.fits e (t-sent y s m seen.began.terms o.sort-is r) (takes y s m r) seen.stage
t-stage y v s m room seen o e false r =
    let n = refuses y s m r in
    known-still seen.known (ap (λ (b : Message). v.sent ++ said b) n.1 ∙ quiet v.sent)
    (ap (λ (b : Answer). v.received ++ heard b (m ∷ [])) n.0 ∙ append-nil v.received)

pub d-stage : (y : SolverSession) (v : View) (s : Slot) (m : Message) (room : ℕ) (seen : SolverSeen y v)
    → tests.SolverLastFits 6 y s m (message_size 6 y.terms) room → matrices solver y.terms (slot_words s) ≡ v.half
    → Known solver y.terms
    (view_with v (v.sent ++ said (solver_determinant_effect y s m).sent) (v.received ++ heard (solver_determinant_effect y s m).answer (m ∷ [])))
d-stage y v s m room seen o e =
    last-stage y v s m room seen (determinant-step y.terms o.sort-is) o.fits e (d-sent y s m seen.began.terms o.sort-is)
    (unfold solver_determinant_effect in refl) seen.stage

-- ---- the blinder

module _ {v : View} {t : Terms} {mm y : List ℕ} (k : Known blinder t v) (is : v.input ≡ mm ∷ y ∷ []) where
  blinder-sent : {got : List (List ℕ)} → v.received ≡ got → v.sent ≡ blinder_messages t (half_slot blinder t v.half) (mm ∷ y ∷ []) got (words_for t.q v.coins)
  blinder-sent e = k.sent_is ∙ ap₂ (λ (i g : List (List ℕ)). blinder_messages t (half_slot blinder t v.half) i g (words_for t.q v.coins)) is e

  input_back : (got : List (List ℕ)) → blinder_messages t (half_slot blinder t v.half) (mm ∷ y ∷ []) got (words_for t.q v.coins)
      ≡ blinder_messages t (half_slot blinder t v.half) v.input got (words_for t.q v.coins)
  input_back got = ap (λ (i : List (List ℕ)). blinder_messages t (half_slot blinder t v.half) i got (words_for t.q v.coins)) (sym is)

pub w-stage : (z : BlinderSession) (v : View) (s : Slot) (u : List ℕ) (m : Message) (room : ℕ) (seen : BlinderSeen z v)
    → tests.BlinderFits 3 z s u m (message_size 4 z.terms) room → matrices blinder z.terms (slot_words s) ≡ v.half
    → scratch_parts z.terms u ≡ scratch_parts z.terms v.coins → BlinderStage z.terms v.half seen.mm seen.y v.coins z v.received
    → BlinderSeen (blinder_second_effect z s u m).session (view_with v (v.sent ++ said (blinder_second_effect z s u m).sent) (v.received ++ (m.residues ∷ [])))
unfolding blinder_first_effect blinder_second_effect
w-stage z v s u m room seen o e c (b-first a ra p q) =
    let t = z.terms in
    let mm = seen.mm in
    let y = seen.y in
    let g = seen.began in
    let rm = o.message.residues in
    let own = w-sent z s u m g.terms in
    let mb = subst (λ (z : BlinderSession). all_below t.q (kept_m z) ≡ true) q o.m-below in
    let yb = subst (λ (z : BlinderSession). all_below t.q (kept_y z) ≡ true) q o.y-below in
    let now : (blinder_second_effect z s u m).sent ≡ (blinder_two t v.half mm y v.coins a m.residues).sent =
    ap (λ (z : BlinderSession). (blinder_second_effect z s u m).sent) q ∙ w-is t v.half mm y v.coins g a ra m.residues rm mb yb s u m
    (incoming-whole o.message) e c
    in
    let two = blinder-two t v.half mm y v.coins g a ra m.residues rm mb yb in
    let got : v.received ++ (m.residues ∷ []) ≡ a ∷ m.residues ∷ [] = ap (λ (z : List (List ℕ)). z ++ (m.residues ∷ [])) p in
    record {
      known = known-with seen.known ((blinder_one t v.half mm y v.coins a).sent.residues ∷ (blinder_two t v.half mm y v.coins a
          m.residues).sent.residues ∷ []) (a ∷ m.residues ∷ [])
          (ap₂ (λ (a b : List (List ℕ)). a ++ b) (blinder-sent seen.known seen.input-is p ∙ blinder-one t v.half mm y v.coins g a ra)
          (said-is own ∙ ap (λ (b : Message). b.residues ∷ []) now))
          got (sym (two []) ∙ input_back seen.known seen.input-is (a ∷ m.residues ∷ []))
          ((x1-sent t _ mm y _ _ g.terms).residues before subst (λ (b : Message). Residues t.q (message_size 4 t) b.residues) now own.residues before no_more)
          (ra before rm before no_more) (omega arith);
      mm = mm;
      y = y;
      input-is = seen.input-is;
      began = g;
      stage = b-second a m.residues _ _ ra rm got refl (ap (λ (z : BlinderSession). z.mm) q, ap (λ (z : BlinderSession). z.y) q) two;
    }
w-stage z v s u m room seen o e c (b-second a b b2 b4 ra rb p d kept two) = absurd (omega (arith, o.later.due-is, d, last-late z.terms.m z.terms.p))
w-stage z v s u m room seen o e c (b-over d) = absurd (omega (arith, o.later.due-is, d))

-- either last step of the blinder
pub z-stage : (kind : ℕ) (z : BlinderSession) (v : View) (m : Message) (seen : BlinderSeen z v) → 4 < kind → z.due ≡ kind → MessageFits kind z.terms m
    → BlinderStage z.terms v.half seen.mm seen.y v.coins z v.received
    → (a : List ℕ) × (b : List ℕ) × (v.received ≡ a ∷ b ∷ []) × Known blinder z.terms (view_with v v.sent (v.received ++ (m.residues ∷ [])))
    × (last_kind z.terms.m z.terms.p ≡ kind)
unfolding blinder_first_effect
z-stage kind z v m seen h w f (b-first a ra p q) = absurd (omega (arith, h, w, ap (λ (z : BlinderSession). z.due) q))
z-stage kind z v m seen h w f (b-second a b b2 b4 ra rb p d kept two) =
    let k = seen.known in
    let is : last_kind z.terms.m z.terms.p ≡ kind = sym d ∙ w in
    let all = blinder-sent k seen.input-is p ∙ two [] in
    let known = known-with k v.sent (a ∷ b ∷ m.residues ∷ []) refl (ap (λ (z : List (List ℕ)). z ++ (m.residues ∷ [])) p)
    (all ∙ sym (two (m.residues ∷ [])) ∙ input_back k seen.input-is (a ∷ b ∷ m.residues ∷ [])) k.sent-fit
    (ra before rb before subst (λ (k : ℕ). Residues z.terms.q (message_size k z.terms) m.residues) (sym is) f.residues before no_more)
    (omega (arith, ap length all))
    in
    (a, b, p, known, is)
z-stage kind z v m seen h w f (b-over d) = absurd (omega (arith, h, w, d))
