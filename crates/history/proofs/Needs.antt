-- What an end's own session, half and scratch give of what its later steps ask for.
--   Handed                    the other end's messages fit
--   Fair, FairBy, fair-open   a later step that is due and is handed what fits, or a drop
--   solver-needs, solver-last-needs, blinder-needs, drop-needs   all that the tests of such a step ask
-- Assumes nothing.
use mathlib.Core.Path.{◌≡◌, refl, sym, ap, ap₂, ◌∙◌, subst}
use mathlib.Core.Bool.{true}
use mathlib.Core.List.{List, [], ◌∷◌}
use Prim.Native.Nat.{ℕ, ◌+◌, ◌*◌, ◌≤◌, ◌<◌}
use native.Mathlib.Omega.{arith}
use lib.ListN.{length, take, drop, length-append}
use borrow.Author.Tests.{eqb-true, lt-ltb}
use Rattle.algebra.specs.Matrix.{Residues, zeros}
use Rattle.algebra.specs.Count.{parts, part, total}
use Rattle.algebra.specs.Words.{over}
use Rattle.algebra.specs.Product.{right_share}
use Rattle.algebra.specs.System.{solver_share}
use Rattle.algebra.proofs.Lists.{sub-residues}
use Rattle.algebra.proofs.Columns.{cols-residues}
use Rattle.protocol.specs.declared.Terms.{Terms}
use Rattle.protocol.specs.declared.SolverSession.{SolverSession}
use Rattle.protocol.specs.declared.BlinderSession.{BlinderSession}
use Rattle.protocol.specs.Bounds.{all_below, columns}
use Rattle.protocol.specs.Tape.{Slot, IN-USE, Role, blinder, solver, sort_of}
use Rattle.protocol.specs.Message.{Message, last_kind, last_fits}
use Rattle.protocol.specs.System.{padded, side_size, kept_s, kept_m, kept_y, scratch_size, scratch_layout, scratch_parts, solver_first_effect, solver_second_effect, blinder_first_effect}
use Rattle.protocol.specs.View.{View}
use Rattle.protocol.proofs.Residues.{residues-below, take-over, parts-over, zeros-below}
use Rattle.protocol.proofs.Tests.{TermsFit, OpenFits, LaterFits, MessageFits}
use Rattle.protocol.proofs.StepTests as tests
use Rattle.protocol.proofs.Halves.{Holding, half-fits, later-fits}
use Rattle.history.specs.Ends.{Session, terms_in, due_in, Later, Row, going}
use Rattle.history.specs.Log.{World}
use Rattle.history.specs.Seen.{taken_later}
use Rattle.history.specs.Right.{SentTo}
use Rattle.history.proofs.Accepted.{later_row, Waits}
use Rattle.history.proofs.Known.{SolverStage, s-first, s-second, s-over, SolverSeen, BlinderStage, b-first, b-second, b-over, BlinderSeen}

-- the other end's messages fit
abbrev pub Handed : World → Type 0
Handed o = (role : Role) (t : Terms) (kind : ℕ) (a : Message) → 0 < kind → SentTo o role t kind a → MessageFits kind t a

-- ---- what sessions keep

solver-below : (t : Terms) (ls : List (List ℕ)) (l x : List ℕ) (y : SolverSession) (got : List (List ℕ)) → SolverStage t ls l x y got → 0 < t.q → 0 < y.due
    → all_below t.q (kept_s y) ≡ true
unfolding kept_s solver_first_effect solver_second_effect padded solver_share right_share side_size
solver-below t ls l x y got (s-first p e) q o = subst (λ (y : SolverSession). all_below t.q (kept_s y) ≡ true) (sym e) (zeros-below t.q 16 (side_size t) q)
solver-below t ls l x y got (s-second a ra p e) q o =
    subst (λ (y : SolverSession). all_below t.q (kept_s y) ≡ true) (sym e)
    (let r = cols-residues t.m (t.m + columns t.m t.p) t.m (columns t.m t.p) (omega arith)
    (sub-residues q (t.m * (t.m + columns t.m t.p)) _ _) in
    ap (all_below t.q) (take-over (zeros 16) r) ∙ residues-below r)
solver-below t ls l x y got (s-over d) q o = absurd (omega (arith, o, d))

blinder-below : (t : Terms) (ls : List (List ℕ)) (mm y coins : List ℕ) (z : BlinderSession) (got : List (List ℕ)) → BlinderStage t ls mm y coins z got
    → z.terms ≡ t
    → Residues t.q (t.m * t.m) mm → Residues t.q (side_size t) y → 0 < z.due → (all_below t.q (kept_m z) ≡ true) × (all_below t.q (kept_y z) ≡ true)
blinder-below t ls mm y coins z got st e rm ry o =
    (ap (all_below t.q) (m-is ∙ take-over (zeros 256) rm) ∙ residues-below rm, ap (all_below t.q) (y-is ∙ take-over (zeros 16) ry) ∙ residues-below ry)
  where
    kept : (z : BlinderSession) → BlinderStage t ls mm y coins z got → 0 < z.due → (z.mm ≡ padded 256 mm) × (z.y ≡ padded 16 y)
    kept z (b-first a ra p q) o = unfold blinder_first_effect in (ap (λ (z : BlinderSession). z.mm) q, ap (λ (z : BlinderSession). z.y) q)
    kept z (b-second a b b2 b4 ra rb p d k two) o = k
    kept z (b-over d) o = absurd (omega (arith, o, d))

    m-is : kept_m z ≡ take (t.m * t.m) (over mm (zeros 256))
    m-is = unfold kept_m padded in ap₂ (λ (t : Terms) (l : List ℕ). take (t.m * t.m) l) e (unfold padded in (kept z st o).0)

    y-is : kept_y z ≡ take (side_size t) (over y (zeros 16))
    y-is = unfold kept_y padded in ap₂ (λ (t : Terms) (l : List ℕ). take (side_size t) l) e (unfold padded in (kept z st o).1)

-- ---- later steps

-- its message fits and there is room, or it is a drop of an open session
abbrev pub Fair : Terms → (due : ℕ) → Row → (taken : List Message) (writes room : ℕ) → Type 0
Fair t due r [] writes room = 0 < due
Fair t due r (a ∷ _) writes room = (due ≡ r.takes) × MessageFits r.takes t a × (writes ≤ room) × (last_fits r.sends t.m t.p ≡ true)

abbrev pub FairBy : Session → Later → Type 0
FairBy x k = Fair (terms_in x) (due_in x) (later_row k) (taken_later k) ((going k).writes (terms_in x)) (going k).room

pub fair-open : (t : Terms) (due : ℕ) (r : Row) (taken : List Message) (writes room : ℕ) → Waits r.takes taken → Fair t due r taken writes room → 0 < due
fair-open t due r [] writes room w f = f
fair-open t due r (a ∷ _) writes room w f = omega (arith, w, f.0)

pub in-time : {role : Role} {t : Terms} {ls : List (List ℕ)} {s : Slot} (kind due : ℕ) → Holding role IN-USE t ls s → TermsFit (sort_of role) t → due ≡ kind
    → 0 < kind → LaterFits role kind due t s
in-time {role} {t} {ls} {s} kind due held f e z = subst (λ (d : ℕ). LaterFits role kind d t s) (sym e) (later-fits held f z)

pub drop-needs : {role : Role} {t : Terms} {ls : List (List ℕ)} {s : Slot} {due : ℕ} → Holding role IN-USE t ls s → TermsFit (sort_of role) t → 0 < due
    → OpenFits role due t s
drop-needs held f o = record { is_open = o; terms = f; half = half-fits held }

module _ (v : View) (s : Slot) (ls : List (List ℕ)) where
  pub solver-needs : (kind : ℕ) (a : Message) (size room : ℕ) (y : SolverSession) → SolverSeen y v → Holding solver IN-USE y.terms ls s → 0 < kind
      → (y.due ≡ kind) × MessageFits kind y.terms a × (size ≤ room) → tests.SolverFits kind y s a size room
  solver-needs kind a size room y seen held z f =
      let t = seen.known.terms-fit in
      record {
        later = in-time kind y.due held t f.0 z;
        message = f.1;
        s-below = solver-below y.terms v.half seen.l seen.x y v.received seen.stage (omega (arith, t.big)) (omega (arith, z, f.0));
        message-room = f.2;
      }

  -- its last step, of the sort that the session has
  pub solver-last-needs : (kind : ℕ) (a : Message) (size room : ℕ) (y : SolverSession) → 4 < kind → SolverSeen y v → Holding solver IN-USE y.terms ls s
      → (y.due ≡ 4) × MessageFits 4 y.terms a × (size ≤ room) × (last_fits kind y.terms.m y.terms.p ≡ true) → tests.SolverLastFits kind y s a size room
  unfolding last_fits
  solver-last-needs kind a size room y h seen held f = record {
    fits = solver-needs 4 a size room y seen held (omega arith) (f.0, f.1, f.2);
    sort-is = sym (eqb-true kind (last_kind y.terms.m y.terms.p) (rw (lt-ltb 4 kind h) at f.3));
  }

-- P and U0 stand in the blinder's scratch
abbrev pub Coins : View → (scratch : List ℕ) → Type 0
Coins v u = (rest : List ℕ) × (u ≡ over v.coins rest)

module _ (v : View) (u : List ℕ) (c : Coins v u) where
  pub long-enough : (y : BlinderSession) → BlinderSeen y v → scratch_size y.terms ≤ length u
  unfolding scratch_size over
  long-enough y seen =
      subst (λ (z : List ℕ). total (scratch_layout y.terms) ≤ length z) (sym c.1)
      (omega (arith, length-append v.coins (drop (length v.coins) c.0), seen.known.coins-residues.size))

  coins-below : (y : BlinderSession) → BlinderSeen y v → all_below y.terms.q (take (scratch_size y.terms) u) ≡ true
  unfolding scratch_size
  coins-below y seen =
      ap (λ (z : List ℕ). all_below y.terms.q (take (total (scratch_layout y.terms)) z)) c.1
      ∙ ap (all_below y.terms.q) (take-over c.0 seen.known.coins-residues) ∙ residues-below seen.known.coins-residues

  -- P is that of its coins
  pub own-p : (y : BlinderSession) → BlinderSeen y v → part 0 (scratch_parts y.terms u) ≡ part 0 (parts (scratch_layout y.terms) v.coins)
  unfolding scratch_parts
  own-p y seen =
      ap (λ (z : List ℕ). part 0 (parts (scratch_layout y.terms) z)) c.1
      ∙ ap (part 0) (parts-over (scratch_layout y.terms) c.0 seen.known.coins-residues)

  pub blinder-needs : (s : Slot) (ls : List (List ℕ)) (kind : ℕ) (a : Message) (size room : ℕ) (y : BlinderSession) → BlinderSeen y v
      → Holding blinder IN-USE y.terms ls s → 0 < kind
      → (y.due ≡ kind) × MessageFits kind y.terms a × (size ≤ room) → tests.BlinderFits kind y s u a size room
  blinder-needs s ls kind a size room y seen held z f =
      let b = seen.began in
      let kept =
      blinder-below y.terms v.half seen.mm seen.y v.coins y v.received seen.stage refl b.m-fits b.y-fits (omega (arith, z, f.0))
      in
      record {
        later = in-time kind y.due held seen.known.terms-fit f.0 z;
        message = f.1;
        scratch-room = long-enough y seen;
        m-below = kept.0;
        y-below = kept.1;
        scratch-below = coins-below y seen;
        write-room = f.2;
      }
