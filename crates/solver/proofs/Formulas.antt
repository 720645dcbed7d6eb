-- What the code wrote is what the definitions' formulas say.
--   y0-size, b0-size, r-size, v-size   the matrices of a half that has its place
--   y1-sent                            what step 1 sends
--   w_part, c-part                     a message's parts, as slices of its residues
--   share_of, share-length, share-found S; f-sent, kept-column: F and s
--   joint-sum, sum-residues            W + V; joint-asked, sum-found: its array
--   joint-side, side-residues          c + s
--   last-left, determinant-left        what either step 5 computes
-- Assumes nothing.
use mathlib.Core.Path.{◌≡◌, refl, sym, ap, ◌∙◌}
use mathlib.Core.Bool.{Bool, true, false, cond}
use mathlib.Core.List.{List, [], ◌∷◌, append-nil}
use Prim.Native.Nat.{ℕ, ◌+◌, ◌-◌, ◌*◌, ◌≤◌, ◌<◌}
use native.Mathlib.Omega.{arith}
use lib.ListN.{length, take, drop, length-drop}
use lib.Seq.{take_all}
use Rattle.algebra.specs.Matrix.{zeros, Residues, mat_add, mat_sub}
use Rattle.algebra.specs.Count.{part, parts, join}
use Rattle.algebra.specs.Elimination.{regular, solution}
use Rattle.algebra.specs.Product.{send_y, right_share}
use Rattle.algebra.specs.System.{cols, last_cols, solver_share, send_f, sum_matrix}
use Rattle.algebra.specs.Words.{over}
use Rattle.algebra.proofs.Lists.{length-tabulate, add-residues}
use Rattle.determinant.specs.Determinant.{det}
use Rattle.protocol.specs.declared.Terms.{Terms}
use Rattle.std.specs.Prelude.{Ok}
use Rattle.protocol.specs.declared.SolverSession.{SolverSession}
use Rattle.protocol.specs.Bounds.{columns}
use Rattle.protocol.specs.Tape.{Slot, slot_words, solver, matrices}
use Rattle.protocol.specs.Message.{Message, message_layout, message_parts}
use Rattle.protocol.specs.System.{padded, side_size, kept_s, joint_sum, solver_last_effect, solver_determinant_effect}
use Rattle.protocol.specs.Step.{answer_reply}
use Rattle.protocol.proofs.StepTests.{SolverLastFits}
use Rattle.vectors.proofs.Written.{after-over, over-part}
use Rattle.tape.specs.Placed.{Placed}
use Rattle.tape.proofs.Matrices.{matrix-length}
use Rattle.judging.specs.Leaves.{Computed, computed, computing}
use Rattle.solver.specs.Formulas.{sent_part, sum_of, side_of, last_answer, last_head, closed_terms}
use Rattle.solver.proofs.Known.{Few, few, last-terms, last-placed, last-count}

-- ---- the matrices of a half that has its place

module _ (t : Terms) (s : Slot) (p : Placed solver t s) where
  pub y0-size : length (part 0 (matrices solver t (slot_words s))) ≡ t.k * t.p
  y0-size = matrix-length solver t 0 s p

  pub b0-size : length (part 1 (matrices solver t (slot_words s))) ≡ t.m * t.p
  b0-size = matrix-length solver t 1 s p

  pub r-size : length (part 2 (matrices solver t (slot_words s))) ≡ t.m * t.k
  r-size = matrix-length solver t 2 s p

  pub v-size : length (part 3 (matrices solver t (slot_words s))) ≡ t.m * t.k
  v-size = matrix-length solver t 3 s p

-- ---- step 1

pub y1-sent : (q m p size : ℕ) {y : List ℕ} (b y0 out : List ℕ) {sent : List ℕ}
    → sent ≡ over (mat_sub q size y y0) out → y ≡ b → size ≡ m * p → sent ≡ over (send_y q m m p b y0) out
unfolding send_y
y1-sent q m p size b y0 out e f h = e ∙ rw (f, h) refl

-- ---- a message's parts

module _ (t : Terms) (residues : List ℕ) (n : ℕ) (e : n ≡ t.m * t.k) where
  pub w_part : take n residues ≡ sent_part 4 t 0 residues
  unfolding sent_part message_layout parts
  w_part = ap (λ (i : ℕ). take i residues) e

  pub c-part : length residues ≡ t.m * t.k + side_size t → take (length residues - n) (drop n residues) ≡ sent_part 4 t 1 residues
  unfolding sent_part message_layout parts side_size
  c-part h =
      let z : length residues - n ≡ t.m * columns t.m t.p = omega arith in
      rw (z, e) refl

-- ---- step 3

-- S = X1 × Y0 + R1 − B0, by the half's matrices and the message
unfoldable pub share_of : Terms → Slot → Message → List ℕ
share_of t s a = solver_share t.q t.m (columns t.m t.p) (part 0 (message_parts 2 t a)) (part 0 (matrices solver t (slot_words s)))
    (part 1 (message_parts 2 t a)) (part 1 (matrices solver t (slot_words s)))

module _ (t : Terms) (s : Slot) (a : Message) (f : Few t) where
  pub share-length : length (share_of t s a) ≡ t.m * t.p
  unfolding share_of solver_share right_share mat_sub
  share-length = length-tabulate (t.m * (t.m + columns t.m t.p)) _ ∙ ap (λ (n : ℕ). t.m * n) f.whole

  -- an array that S was written over, and its first words
  pub share-found : (n : ℕ) (out : List ℕ) {found : List ℕ} → n ≡ t.m * t.p → n ≤ length out → length a.residues ≡ t.m * t.k + t.m * t.p
      → found ≡ over (right_share t.q t.m t.k t.p (take (t.m * t.k) a.residues) (part 0 (matrices solver t (slot_words s)))
      (drop (t.m * t.k) a.residues) (part 1 (matrices solver t (slot_words s)))) out
      → (n ≤ length found) × (take n found ≡ share_of t s a)
  unfolding share_of message_parts message_layout parts solver_share
  share-found n out {found} size room h w =
      let r1 = take_all (t.m * t.p) (drop (t.m * t.k) a.residues) (omega (arith, length-drop (t.m * t.k) a.residues)) in
      let e : found ≡ over (share_of t s a) out = w ∙ rw (r1, f.whole, f.square) refl in
      (omega (arith, after-over (share_of t s a) out e (omega (arith, share-length))), over-part n (share_of t s a) out e (share-length ∙ sym size))

pub f-sent : (q m p rhs size : ℕ) {c : List ℕ} (r share out : List ℕ) {sent : List ℕ}
    → sent ≡ over (mat_sub q size r c) out → size ≡ m * m → c ≡ cols m p 0 m share → m + rhs ≡ p → sent ≡ over (send_f q m rhs r share) out
unfolding send_f
f-sent q m p rhs size r share out e en ec w = e ∙ rw (en, ec, w) refl

pub kept-column : (m p rhs : ℕ) (share : List ℕ) {s d : List ℕ} → s ≡ over (cols m p m rhs share) d → d ≡ zeros 16 → m + rhs ≡ p
    → s ≡ padded 16 (last_cols m rhs share)
unfolding padded
kept-column m p rhs share e z w = e ∙ rw (z, w) refl

-- ---- step 5

module _ (t : Terms) (s : Slot) (residues : List ℕ) where
  pub joint-sum : (n : ℕ) {w v : List ℕ} (out : List ℕ) {sum : List ℕ} → sum ≡ over (mat_add t.q n w v) out → n ≡ t.m * t.m
      → w ≡ sent_part 4 t 0 residues → v ≡ part 3 (matrices solver t (slot_words s)) → sum ≡ over (sum_of t s residues) out
  unfolding sum_of sum_matrix
  joint-sum n out e en ew ev = e ∙ rw (en, ew, ev) refl

  pub sum-residues : 0 < t.q → Residues t.q (t.m * t.m) (sum_of t s residues)
  unfolding sum_of sum_matrix
  sum-residues h = add-residues h (t.m * t.m) _ _

-- what its writer asks of an array of 256 words, and its first words then
module _ {kind size room : ℕ} (x : SolverSession) (s : Slot) (a : Message) (f : SolverLastFits kind x s a size room) where
  pub joint-asked : (0 < x.terms.q) × Placed solver x.terms s × (x.terms.m * x.terms.k ≤ length a.residues) × (x.terms.m * x.terms.k ≤ 256)
  joint-asked =
      let sides = few x.terms (last-terms f).sides in
      (omega (arith, (last-terms f).big), last-placed f, omega (arith, last-count f), omega (arith, sides.mk-is, sides.mm))

  pub sum-found : (n : ℕ) (out : List ℕ) {sum : List ℕ} → n ≡ x.terms.m * x.terms.m → length out ≡ 256 → sum ≡ over (sum_of x.terms s a.residues) out
      → (n ≤ length sum) × (take n sum ≡ sum_of x.terms s a.residues)
  sum-found n out size room e =
      let r = (sum-residues x.terms s a.residues joint-asked.0).size in
      let mm = (few x.terms (last-terms f).sides).mm in
      let long = after-over (sum_of x.terms s a.residues) out e (omega (arith, r, mm, room)) in
      (omega (arith, long, room, size, mm), over-part n (sum_of x.terms s a.residues) out e (r ∙ sym size))

pub joint-side : (t : Terms) (residues kept : List ℕ) (n : ℕ) {c k : List ℕ} (out : List ℕ) {side : List ℕ} → side ≡ over (mat_add t.q n c k) out
    → n ≡ side_size t → c ≡ sent_part 4 t 1 residues → k ≡ take (side_size t) kept → side ≡ over (side_of t residues kept) out
unfolding side_of
joint-side t residues kept n out e en ec ek = e ∙ rw (en, ec, ek) refl

pub side-residues : (t : Terms) (residues kept : List ℕ) → 0 < t.q → Residues t.q (side_size t) (side_of t residues kept)
unfolding side_of
side-residues t residues kept h = add-residues h (side_size t) _ _

module _ (x : SolverSession) (s : Slot) (a : Message) (out : List ℕ) where
  pub last-left : (found : Bool) {sent : List ℕ} → found ≡ regular x.terms.q x.terms.m (sum_of x.terms s a.residues)
      → sent ≡ cond (regular x.terms.q x.terms.m (sum_of x.terms s a.residues))
      (over (solution x.terms.q x.terms.m (sum_of x.terms s a.residues) (side_of x.terms a.residues x.s)) out) out
      → ◌≡◌ {A = Computed SolverSession}
      (record {
        answer = answer_reply (last_answer found);
        session = closed_terms x.terms;
        head = last_head x.terms found;
        scratch = [];
        sent = sent;
        result = [];
      })
      (computed [] out [] (solver_last_effect x s a))
  unfolding solver_last_effect joint_sum sum_of side_of sent_part message_parts kept_s side_size join over
  last-left true r o = rw (o, sym r) (simp append-nil)
  last-left false r o = rw (o, sym r) (simp append-nil)

  pub determinant-left : {sent : List ℕ} → sent ≡ over (det x.terms.q x.terms.m (sum_of x.terms s a.residues) ∷ []) out
      → computing (Ok 0) (closed_terms x.terms) (record { kind = 6; terms = x.terms }) [] sent [] ≡ computed [] out [] (solver_determinant_effect x s a)
  unfolding solver_determinant_effect joint_sum sum_of sent_part message_parts join over
  determinant-left o = rw o refl
