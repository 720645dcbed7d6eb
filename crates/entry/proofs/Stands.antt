-- The entries on bytes stand for their steps (RULES 11), over every record that entries made.
--   Made, record-back, zeros-back                  what an entry wrote into a record is read back; a record of zeros holds no session
--   right-back, solver-back, blinder-back          the session of an end, read from its record
--   RightWords .., made-right ..                   sessions of words, in arrays of their length: their records are such
--   right-first-words .. blinder-drop-words        every accepted step and drop leaves such a session, from such a session
--   next-right .. next-blinder-ending, drop-right .. over such a record the step that is due, and the drop, are the end's own
--   Whole, stands, stands-not, drop-stands         where its own tests hold an entry leaves what the step over its record leaves
--   right-stands .. blinder-drop-stands            of each end and step: same number, same words, same line as the step
--   right-first-stands .. blinder-first-stands     the same of first steps
--   left_back                                      the record that an entry leaves is read as the session that the step left
-- Assumes nothing.
use mathlib.Core.Path.{◌≡◌, refl, ap, ap₂, ◌∙◌, subst}
use mathlib.Core.Bool.{Bool, true, false, cond}
use mathlib.Core.List.{List, [], ◌∷◌, ◌++◌, append-nil}
use Prim.Native.Nat.{ℕ, zero, suc, ◌+◌, ◌*◌, ◌/◌, ◌%◌, ◌≤◌, ◌<◌}
use native.Mathlib.Nat.{mul-le-mul}
use native.Mathlib.Omega.{arith}
use lib.Dec.{eqb}
use lib.ListN.{length, take, drop, length-append, length-drop, drop_of_length-le}
use lib.Seq.{take_at, drop_at}
use borrow.Author.Tests.{eq-eqb, ne_eqb, ltb-true, le-leb}
use Rattle.algebra.specs.Matrix.{Residues, tabulate, zeros}
use Rattle.algebra.specs.Words.{over}
use Rattle.algebra.specs.Product.{right_share}
use Rattle.algebra.specs.System.{last_cols, solver_share}
use Rattle.algebra.proofs.Tests.{and_left, and_right}
use Rattle.algebra.proofs.Lists.{length-tabulate, sub-residues}
use Rattle.algebra.proofs.Columns.{cols-residues}
use Rattle.protocol.specs.declared.Terms.{Terms}
use Rattle.protocol.specs.declared.RightSession.{RightSession}
use Rattle.protocol.specs.declared.SolverSession.{SolverSession}
use Rattle.protocol.specs.declared.BlinderSession.{BlinderSession}
use Rattle.protocol.specs.declared.Refusal.{Refusal}
use Rattle.protocol.specs.Judge.{Test, Judged, refused, done, judge}
use Rattle.protocol.specs.Bounds.{columns, all_below, system}
use Rattle.protocol.specs.Tape.{Slot}
use Rattle.protocol.specs.Message.{Message, is_determinant, last_kind}
use Rattle.protocol.specs.Line.{parse_message, most_sent}
use Rattle.protocol.specs.Step.{Effect, Outcome}
use Rattle.protocol.specs.Product.{closed_right, right_first_effect, right_first, left_step, right_last_effect, right_last}
use Rattle.protocol.specs.System.{padded, side_size, solver_first_effect, solver_first, blinder_first_effect, blinder_first, solver_second_effect, solver_second, blinder_second_effect, blinder_second, closed_solver, closed_blinder}
use Rattle.protocol.specs.System.{solver_last_effect, solver_last, solver_determinant_effect, solver_determinant, solver_ending, blinder_last_effect, blinder_last, blinder_determinant_effect, blinder_determinant}
use Rattle.protocol.specs.Drop.{drop_right, drop_solver, drop_blinder}
use Rattle.protocol.proofs.Judge.{Pass, ◌next◌, nothing, all_append, accepts, passed}
use Rattle.protocol.proofs.Residues.{residues-below}
use Rattle.protocol.proofs.Tests.{TermsFit, system-sides}
use Rattle.protocol.proofs.StepTests.{blinder-first, solver-second}
use Rattle.entry.specs.declared.Session.{Session}
use Rattle.entry.specs.Bytes.{word_of, words_of, bytes_of}
use Rattle.entry.specs.Record.{LEFT, RIGHT, BLINDER, SOLVER, no_session, right_of, solver_of, blinder_of, of_left, of_right, of_solver, of_blinder, record_words, session_from}
use Rattle.entry.specs.Steps.{also, lower_than, recorded, free_tests, first_step, blinder_ending, next_step, drop_step}
use Rattle.entry.specs.Entry.{Lent, Left, line_of, in_room, left, record_tests, whole_tests, session_in, session_tests, slot_of, entered, takes_message, first_tests, first_on, next_on, drop_on}
use Rattle.entry.proofs.Bytes.{Below, below-cons, below-append, below-drop, words_back, bytes-length}

-- ---- a record is read back

-- what is known of a session that entries made: its numbers and what it keeps are words, 280 of them
pub record Made (x : Session) : Type 0 where
  pub words : Below 4294967296 (record_words x)
  pub size : length x.kept ≡ 272

record-length : (x : Session) → Made x → length (bytes_of (record_words x)) ≡ 1120
unfolding record_words
record-length x m = bytes-length (record_words x) ∙ omega (arith, m.size)

from-words : (x : Session) → session_from (record_words x) ≡ x
unfolding record_words session_from
from-words x = refl

whole-record : (bytes : List ℕ) → length bytes ≡ 1120 → session_in bytes ≡ session_from (words_of bytes)
unfolding session_in
whole-record bytes e = rw (eq-eqb (length bytes) 1120 e) refl

over-all : (ws l : List ℕ) → length l ≤ length ws → over ws l ≡ ws
unfolding over
over-all ws l h = rw (drop_of_length-le l h) (append-nil ws)

pub record-back : (x : Session) (host : List ℕ) → Made x → length host ≡ 1120 → session_in (over (bytes_of (record_words x)) host) ≡ x
record-back x host m e =
    let n : length (bytes_of (record_words x)) ≡ 1120 = record-length x m in
    ap session_in (over-all (bytes_of (record_words x)) host (omega arith))
    ∙ whole-record (bytes_of (record_words x)) n
    ∙ ap session_from (words_back (record_words x) m.words)
    ∙ from-words x

words-zeros : (n : ℕ) → words_of (zeros (n * 4)) ≡ zeros n
unfolding zeros tabulate words_of word_of
words-zeros zero = refl
words-zeros (suc n) =
    let four : suc n * 4 ≡ suc (suc (suc (suc (n * 4)))) = omega arith in
    rw four (ap (λ (l : List ℕ). 0 ∷ l) (words-zeros n))

from-zeros : session_from (zeros 280) ≡ no_session
unfolding session_from zeros tabulate
from-zeros = refl

zeros-length : (n : ℕ) → length (zeros n) ≡ n
unfolding zeros
zeros-length n = length-tabulate n (λ i. 0)

pub zeros-back : session_in (zeros 1120) ≡ no_session
zeros-back = whole-record (zeros 1120) (zeros-length 1120) ∙ ap session_from (words-zeros 280) ∙ from-zeros

-- ---- the session of an end is read back

pub right-back : (x : RightSession) → right_of (of_right x) ≡ x
unfolding right_of of_right
right-back x = refl

pub solver-back : (x : SolverSession) → length x.s ≡ 16 → solver_of (of_solver x) ≡ x
unfolding solver_of of_solver padded over
solver-back x e =
    let keeps : List ℕ → SolverSession = λ l. record { terms = x.terms; due = x.due; s = l } in
    ap keeps (take_at x.s (drop (length x.s) (zeros 272)) 16 e)

pub blinder-back : (x : BlinderSession) → length x.mm ≡ 256 → blinder_of (of_blinder x) ≡ x
unfolding blinder_of of_blinder
blinder-back x e =
    let keeps : List ℕ → List ℕ → BlinderSession = λ l r. record { terms = x.terms; due = x.due; mm = l; y = r } in
    ap₂ keeps (take_at x.mm x.y 256 e) (drop_at x.mm x.y 256 e)

-- ---- the ends' records are such

-- numbers that are words
pub record Numbers (t : Terms) : Type 0 where
  pub session : t.session.0 < 4294967296
  pub tape : t.tape.0 < 4294967296
  pub modulus : t.q < 4294967296
  pub rows : t.m < 4294967296
  pub inner : t.k < 4294967296
  pub columns : t.p < 4294967296

made : (x : Session) → x.end < 4294967296 → Numbers x.terms → x.due < 4294967296 → Below 4294967296 x.kept → length x.kept ≡ 272
    → Made x
unfolding record_words
made x end n due kept size = record { words = words; size = size }
  where
    words : Below 4294967296 (record_words x)
    words zero = end
    words (suc zero) = n.session
    words (suc (suc zero)) = n.tape
    words (suc (suc (suc zero))) = n.modulus
    words (suc (suc (suc (suc zero)))) = n.rows
    words (suc (suc (suc (suc (suc zero))))) = n.inner
    words (suc (suc (suc (suc (suc (suc zero)))))) = n.columns
    words (suc (suc (suc (suc (suc (suc (suc zero))))))) = due
    words (suc (suc (suc (suc (suc (suc (suc (suc i)))))))) = kept i

below-zeros : (n : ℕ) → Below 4294967296 (zeros n)
unfolding zeros tabulate
below-zeros zero = λ i. omega arith
below-zeros (suc n) = below-cons 4294967296 0 (zeros n) (omega arith) (below-zeros n)

below-padded : (n : ℕ) (l : List ℕ) → Below 4294967296 l → Below 4294967296 (padded n l)
unfolding padded over
below-padded n l h = below-append 4294967296 l (drop (length l) (zeros n)) h (below-drop 4294967296 (length l) (zeros n) (below-zeros n))

padded-length : (n : ℕ) (l : List ℕ) → length l ≤ n → length (padded n l) ≡ n
unfolding padded over
padded-length n l h = simp (length-append, length-drop, zeros-length) (omega arith)

-- words, in arrays of their length
pub record RightWords (x : RightSession) : Type 0 where
  pub numbers : Numbers x.terms
  pub due-word : x.due < 4294967296

pub record SolverWords (x : SolverSession) : Type 0 where
  pub numbers : Numbers x.terms
  pub due-word : x.due < 4294967296
  pub s-words : Below 4294967296 x.s
  pub s-size : length x.s ≡ 16

pub record BlinderWords (x : BlinderSession) : Type 0 where
  pub numbers : Numbers x.terms
  pub due-word : x.due < 4294967296
  pub m-words : Below 4294967296 x.mm
  pub m-size : length x.mm ≡ 256
  pub y-words : Below 4294967296 x.y
  pub y-size : length x.y ≡ 16

pub made-left : (t : Terms) → Numbers t → Made (of_left t)
unfolding of_left
made-left t n = made (of_left t) (omega arith) n (omega arith) (below-zeros 272) (zeros-length 272)

pub made-right : (x : RightSession) → RightWords x → Made (of_right x)
unfolding of_right
made-right x w = made (of_right x) (omega arith) w.numbers w.due-word (below-zeros 272) (zeros-length 272)

pub made-solver : (x : SolverSession) → SolverWords x → Made (of_solver x)
unfolding of_solver
made-solver x w =
    made (of_solver x) (omega arith) w.numbers w.due-word (below-padded 272 x.s w.s-words) (padded-length 272 x.s (omega (arith, w.s-size)))

pub made-blinder : (x : BlinderSession) → BlinderWords x → Made (of_blinder x)
unfolding of_blinder
made-blinder x w =
    made (of_blinder x) (omega arith) w.numbers w.due-word
    (below-append 4294967296 x.mm x.y w.m-words w.y-words) (length-append x.mm x.y ∙ omega (arith, w.m-size, w.y-size))

-- ---- every accepted step leaves such a session

abbrev pub Keeps : {S : Type 0} → (S → Type 0) → Outcome S → Type 0
Keeps {S} P o = (e : Effect S) → o ≡ done e → P e.session

judged-keeps : {S : Type 0} (P : S → Type 0) (ts : List Test) (a : Effect S) → P a.session → Keeps P (judge ts a)
judged-keeps {S} P ts a p e h = subst (λ (z : Effect S). P z.session) (passed ts h).1 p

either-keeps : {S : Type 0} (P : S → Type 0) (b : Bool) {o p : Outcome S} → Keeps P o → Keeps P p → Keeps P (cond b o p)
either-keeps P true h k = h
either-keeps P false h k = k

all_words : (q : ℕ) (l : List ℕ) → q ≤ 4294967296 → all_below q l ≡ true → Below 4294967296 l
unfolding all_below
all_words q [] h b = λ i. omega arith
all_words q (x ∷ l) h b =
    below-cons 4294967296 x l (let k : x < q = ltb-true x q (and_left _ _ b) in omega arith) (all_words q l h (and_right _ _ b))

residues-words : {q n : ℕ} {l : List ℕ} → q ≤ 4294967296 → Residues q n l → Below 4294967296 l
residues-words {q} {n} {l} h r = all_words q l h (residues-below r)

-- a system's matrix and vector are at most this long
system-size : (t : Terms) → TermsFit system t → (t.m * t.m ≤ 256) × (t.m * columns t.m t.p ≤ 16)
unfolding columns
system-size t f =
    let s = (system-sides t.m t.k t.p).0 f.sides in
    let one : columns t.m t.p ≤ 1 = omega (arith, s.high) in (
      mul-le-mul {n₁ = t.m} {m₁ = t.m} {n₂ = 16} {m₂ = 16} s.few s.few,
      mul-le-mul {n₁ = t.m} {m₁ = columns t.m t.p} {n₂ = 16} {m₂ = 1} s.few one,
    )

module _ (t : Terms) (n : Numbers t) (s : Slot) where
  pub right-first-words : (y : List ℕ) (room : ℕ) → Keeps RightWords (right_first t s y room)
  unfolding right_first right_first_effect
  right-first-words y room = judged-keeps RightWords _ _ (record { numbers = n; due-word = omega arith })

  pub solver-first-words : (l x : List ℕ) (room : ℕ) → Keeps SolverWords (solver_first t s l x room)
  unfolding solver_first solver_first_effect
  solver-first-words l x room =
      judged-keeps SolverWords _ _ (record { numbers = n; due-word = omega arith; s-words = below-zeros 16; s-size = zeros-length 16 })

  pub blinder-first-words : (scratch_room : ℕ) (mm y words : List ℕ) (a : Message) (room : ℕ)
      → Keeps BlinderWords (blinder_first t s scratch_room mm y words a room)
  unfolding blinder_first_effect side_size
  blinder-first-words scratch_room mm y words a room e h =
      let f = (blinder-first t s scratch_room mm y words a room).means h in
      let long = system-size t f.0.first.terms in
      subst (λ (z : Effect BlinderSession). BlinderWords z.session) f.1 (record {
        numbers = n;
        due-word = omega arith;
        m-words = below-padded 256 mm (residues-words (omega (arith, n.modulus)) f.0.m-fits);
        m-size = padded-length 256 mm (omega (arith, f.0.m-fits.size, long.0));
        y-words = below-padded 16 y (residues-words (omega (arith, n.modulus)) f.0.y-fits);
        y-size = padded-length 16 y (omega (arith, f.0.y-fits.size, long.1));
      })

closed-right : (x : RightSession) → RightWords x → RightWords (closed_right x)
closed-right x w = record { numbers = w.numbers; due-word = omega arith }

closed-solver : (x : SolverSession) → SolverWords x → SolverWords (closed_solver x)
closed-solver x w = record { numbers = w.numbers; due-word = omega arith; s-words = below-zeros 16; s-size = zeros-length 16 }

closed-blinder : (x : BlinderSession) → BlinderWords x → BlinderWords (closed_blinder x)
closed-blinder x w = record {
  numbers = w.numbers;
  due-word = omega arith;
  m-words = below-zeros 256;
  m-size = zeros-length 256;
  y-words = below-zeros 16;
  y-size = zeros-length 16;
}

module _ (x : RightSession) (w : RightWords x) (s : Slot) where
  pub right-last-words : (a : Message) (share : ℕ) → Keeps RightWords (right_last x s a share)
  unfolding right_last right_last_effect
  right-last-words a share = judged-keeps RightWords _ _ (closed-right x w)

  pub right-drop-words : Keeps RightWords (drop_right x s)
  unfolding drop_right
  right-drop-words = judged-keeps RightWords _ _ (closed-right x w)

solver-keeps : (t : Terms) (x1 y0 r1 b0 : List ℕ) → Numbers t → TermsFit system t
    → let rhs = columns t.m t.p in
    SolverWords (record { terms = t; due = 4; s = padded 16 (last_cols t.m rhs (solver_share t.q t.m rhs x1 y0 r1 b0)) })
unfolding solver_share right_share
solver-keeps t x1 y0 r1 b0 n fit =
    let rhs = columns t.m t.p in
    let s = last_cols t.m rhs (solver_share t.q t.m rhs x1 y0 r1 b0) in
    let r : Residues t.q (t.m * rhs) s =
    cols-residues t.m (t.m + rhs) t.m rhs (omega arith) (sub-residues (omega (arith, fit.big)) (t.m * (t.m + rhs)) _ _) in
    record {
      numbers = n;
      due-word = omega arith;
      s-words = below-padded 16 s (residues-words (omega (arith, n.modulus)) r);
      s-size = padded-length 16 s (omega (arith, r.size, (system-size t fit).1));
    }

module _ (x : SolverSession) (w : SolverWords x) (s : Slot) where
  pub solver-second-words : (a : Message) (room : ℕ) → Keeps SolverWords (solver_second x s a room)
  unfolding solver_second_effect
  solver-second-words a room e h =
      let f = (solver-second x s a room).means h in
      subst (λ (z : Effect SolverSession). SolverWords z.session) f.1
      (solver-keeps x.terms _ _ _ _ w.numbers f.0.later.session-open.terms)

  pub solver-ending-words : (a : Message) (room : ℕ) → Keeps SolverWords (solver_ending x s a room)
  unfolding solver_ending solver_last solver_last_effect solver_determinant solver_determinant_effect
  solver-ending-words a room =
      either-keeps SolverWords (is_determinant x.terms) (judged-keeps SolverWords _ _ (closed-solver x w)) (judged-keeps SolverWords _ _ (closed-solver x w))

  pub solver-drop-words : Keeps SolverWords (drop_solver x s)
  unfolding drop_solver
  solver-drop-words = judged-keeps SolverWords _ _ (closed-solver x w)

-- 5 or 6
last-kind-above : (m p : ℕ) → (5 ≤ last_kind m p) × (last_kind m p ≤ 6)
unfolding last_kind
last-kind-above m p = go (eqb p m)
  where
    go : (b : Bool) → (5 ≤ cond b 6 5) × (cond b 6 5 ≤ 6)
    go true = (omega arith, omega arith)
    go false = (omega arith, omega arith)

module _ (x : BlinderSession) (w : BlinderWords x) (s : Slot) (scratch : List ℕ) where
  pub blinder-second-words : (a : Message) (room : ℕ) → Keeps BlinderWords (blinder_second x s scratch a room)
  unfolding blinder_second blinder_second_effect
  blinder-second-words a room = judged-keeps BlinderWords _ _ (record {
    numbers = w.numbers;
    due-word = omega (arith, (last-kind-above x.terms.m x.terms.p).1);
    m-words = w.m-words;
    m-size = w.m-size;
    y-words = w.y-words;
    y-size = w.y-size;
  })

  pub blinder-ending-words : (a : Message) (share : ℕ) → Keeps BlinderWords (blinder_ending x s scratch a share)
  unfolding blinder_ending blinder_last blinder_last_effect blinder_determinant blinder_determinant_effect
  blinder-ending-words a share =
      either-keeps BlinderWords (is_determinant x.terms) (judged-keeps BlinderWords _ _ (closed-blinder x w)) (judged-keeps BlinderWords _ _ (closed-blinder x w))

  pub blinder-drop-words : Keeps BlinderWords (drop_blinder x s scratch)
  unfolding drop_blinder
  blinder-drop-words = judged-keeps BlinderWords _ _ (closed-blinder x w)

-- ---- the step that is due, and the drop

-- by the end's number and what is due
module _ (y : Session) (s : Slot) (scratch : List ℕ) (a : Message) (room share : ℕ) where
  second-of-solver : (x : SolverSession) → y.end ≡ SOLVER → y.due ≡ 2 → solver_of y ≡ x
      → next_step y s scratch a room share ≡ recorded of_solver (solver_second x s a room)
  unfolding next_step
  second-of-solver x e d h = rw (h, e, d) refl

  ending-of-solver : (x : SolverSession) → y.end ≡ SOLVER → y.due ≡ 4 → solver_of y ≡ x
      → next_step y s scratch a room share ≡ recorded of_solver (solver_ending x s a room)
  unfolding next_step
  ending-of-solver x e d h = rw (h, e, d) refl

  second-of-blinder : (x : BlinderSession) → y.end ≡ BLINDER → y.due ≡ 3 → blinder_of y ≡ x
      → next_step y s scratch a room share ≡ recorded of_blinder (blinder_second x s scratch a room)
  unfolding next_step
  second-of-blinder x e d h = rw (h, e, d) refl

  ending-of-blinder : (x : BlinderSession) → y.end ≡ BLINDER → y.due ≡ last_kind x.terms.m x.terms.p → blinder_of y ≡ x
      → next_step y s scratch a room share ≡ recorded of_blinder (blinder_ending x s scratch a share)
  unfolding next_step
  ending-of-blinder x e d h = rw (h, e, ne_eqb y.due 3 (omega (arith, d, (last-kind-above x.terms.m x.terms.p).0))) refl

  last-of-right : (x : RightSession) → y.end ≡ RIGHT → right_of y ≡ x → next_step y s scratch a room share ≡ recorded of_right (right_last x s a share)
  unfolding next_step
  last-of-right x e h = rw (h, e) refl

module _ (y : Session) (s : Slot) (scratch : List ℕ) where
  drop-of-right : (x : RightSession) → y.end ≡ RIGHT → right_of y ≡ x → drop_step y s scratch ≡ recorded of_right (drop_right x s)
  unfolding drop_step
  drop-of-right x e h = rw (h, e) refl

  drop-of-solver : (x : SolverSession) → y.end ≡ SOLVER → solver_of y ≡ x → drop_step y s scratch ≡ recorded of_solver (drop_solver x s)
  unfolding drop_step
  drop-of-solver x e h = rw (h, e) refl

  drop-of-blinder : (x : BlinderSession) → y.end ≡ BLINDER → blinder_of y ≡ x → drop_step y s scratch ≡ recorded of_blinder (drop_blinder x s scratch)
  unfolding drop_step
  drop-of-blinder x e h = rw (h, e) refl

module _ (s : Slot) (scratch : List ℕ) (a : Message) (room share : ℕ) where
  pub next-right : (x : RightSession) → next_step (of_right x) s scratch a room share ≡ recorded of_right (right_last x s a share)
  unfolding of_right
  next-right x = last-of-right (of_right x) s scratch a room share x refl (right-back x)

  pub next-solver-second : (x : SolverSession) → length x.s ≡ 16 → x.due ≡ 2
      → next_step (of_solver x) s scratch a room share ≡ recorded of_solver (solver_second x s a room)
  unfolding of_solver
  next-solver-second x n d = second-of-solver (of_solver x) s scratch a room share x refl d (solver-back x n)

  pub next-solver-ending : (x : SolverSession) → length x.s ≡ 16 → x.due ≡ 4
      → next_step (of_solver x) s scratch a room share ≡ recorded of_solver (solver_ending x s a room)
  unfolding of_solver
  next-solver-ending x n d = ending-of-solver (of_solver x) s scratch a room share x refl d (solver-back x n)

  pub next-blinder-second : (x : BlinderSession) → length x.mm ≡ 256 → x.due ≡ 3
      → next_step (of_blinder x) s scratch a room share ≡ recorded of_blinder (blinder_second x s scratch a room)
  unfolding of_blinder
  next-blinder-second x n d = second-of-blinder (of_blinder x) s scratch a room share x refl d (blinder-back x n)

  pub next-blinder-ending : (x : BlinderSession) → length x.mm ≡ 256 → x.due ≡ last_kind x.terms.m x.terms.p
      → next_step (of_blinder x) s scratch a room share ≡ recorded of_blinder (blinder_ending x s scratch a share)
  unfolding of_blinder
  next-blinder-ending x n d = ending-of-blinder (of_blinder x) s scratch a room share x refl d (blinder-back x n)

module _ (s : Slot) (scratch : List ℕ) where
  pub drop-right : (x : RightSession) → drop_step (of_right x) s scratch ≡ recorded of_right (drop_right x s)
  unfolding of_right
  drop-right x = drop-of-right (of_right x) s scratch x refl (right-back x)

  pub drop-solver : (x : SolverSession) → length x.s ≡ 16 → drop_step (of_solver x) s scratch ≡ recorded of_solver (drop_solver x s)
  unfolding of_solver
  drop-solver x n = drop-of-solver (of_solver x) s scratch x refl (solver-back x n)

  pub drop-blinder : (x : BlinderSession) → length x.mm ≡ 256 → drop_step (of_blinder x) s scratch ≡ recorded of_blinder (drop_blinder x s scratch)
  unfolding of_blinder
  drop-blinder x n = drop-of-blinder (of_blinder x) s scratch x refl (blinder-back x n)

-- ---- the entries

-- what an entry leaves of an outcome, where there is room for its line
abbrev pub outcome_on : Lent → (size index : ℕ) → Outcome Session → Left
outcome_on l size index o = left (index * size) l (in_room (length l.line) o)

-- the record that an entry leaves is read as the session that the step left
pub left_back : {S : Type 0} (f : S → Session) (o : Outcome S) (e : Effect S) (l : Lent) (size index : ℕ) → o ≡ done e → Made (f e.session)
    → length l.host ≡ 1120 → length (line_of e.sent) ≤ length l.line
    → session_in (outcome_on l size index (recorded f o)).lent.host ≡ f e.session
unfolding in_room
left_back f o e l size index d m h room = rw (d, le-leb (length (line_of e.sent)) (length l.line) room) (record-back (f e.session) l.host m h)

-- what is lent has the record's length, and else whole words: an entry's own tests hold
pub record Whole (l : Lent) : Type 0 where
  pub host : length l.host ≡ 1120
  pub pool : length l.pool % 4 ≡ 0
  pub scratch : length l.scratch % 4 ≡ 0
  pub result : length l.result % 4 ≡ 0

append-pass : {ts us : List Test} → Pass ts → Pass us → Pass (ts ++ us)
append-pass {ts} {us} a b = record { all = all_append ts us a.all b.all }

whole-pass : (n : ℕ) → n % 4 ≡ 0 → Pass (whole_tests n)
unfolding whole_tests
whole-pass n e = eq-eqb (n % 4) 0 e next nothing

record-pass : (n : ℕ) → n ≡ 1120 → Pass (record_tests n)
unfolding record_tests
record-pass n e = eq-eqb n 1120 e next nothing

own-pass : (l : Lent) → Whole l → Pass (session_tests l)
unfolding session_tests
own-pass l w = append-pass (record-pass _ w.host) (append-pass (whole-pass _ w.pool) (append-pass (whole-pass _ w.scratch) (whole-pass _ w.result)))

also-passed : {A : Type 0} (ts : List Test) (o : Judged A) → Pass ts → also ts o ≡ o
unfolding also
also-passed ts o h = ap (λ (v : Judged Unit). lower_than v o) (accepts ts tt h.all)

passed-in : (l : Lent) (at : ℕ) (own : List Test) (o : Outcome Session) → Pass own → entered l at own o ≡ left at l (in_room (length l.line) o)
unfolding entered
passed-in l at own o h = ap (λ (z : Outcome Session). left at l (in_room (length l.line) z)) (also-passed own o h)

module _ (l : Lent) (size index : ℕ) (whole : Whole l) where
  -- whatever the end: the step that is due over the session in the record, on the message that the line is
  pub stands : (y : Session) (message : List ℕ) (a : Message) (o : Outcome Session) → session_in l.host ≡ y → parse_message message ≡ done a
      → next_step y (slot_of l size index) (words_of l.scratch) a most_sent (length l.result / 4) ≡ o
      → next_on l size index message ≡ outcome_on l size index o
  unfolding next_on
  stands y message a o e p n = passed-in l (index * size) (session_tests l) _ (own-pass l whole) ∙ rw (p, e, n) refl

  -- and a line that is no message is refused by the number that parsing gives
  pub stands-not : (message : List ℕ) (r : Refusal) → parse_message message ≡ refused r
      → next_on l size index message ≡ outcome_on l size index (refused r)
  unfolding next_on in_room
  stands-not message r p = passed-in l (index * size) (session_tests l) _ (own-pass l whole) ∙ rw p refl

  pub drop-stands : (y : Session) (o : Outcome Session) → session_in l.host ≡ y → drop_step y (slot_of l size index) (words_of l.scratch) ≡ o
      → drop_on l size index ≡ outcome_on l size index o
  unfolding drop_on
  drop-stands y o e n = passed-in l (index * size) (session_tests l) _ (own-pass l whole) ∙ rw (e, n) refl

  -- ---- of each end: same number, same words, same line as the step

  module _ (message : List ℕ) (a : Message) (parses : parse_message message ≡ done a) where
    pub right-stands : (x : RightSession) → session_in l.host ≡ of_right x
        → next_on l size index message
        ≡ outcome_on l size index (recorded of_right (right_last x (slot_of l size index) a (length l.result / 4)))
    right-stands x e = stands (of_right x) message a _ e parses (next-right (slot_of l size index) (words_of l.scratch) a most_sent (length l.result / 4) x)

    pub solver-second-stands : (x : SolverSession) → length x.s ≡ 16 → session_in l.host ≡ of_solver x → x.due ≡ 2
        → next_on l size index message ≡ outcome_on l size index (recorded of_solver (solver_second x (slot_of l size index) a most_sent))
    solver-second-stands x n e d =
        stands (of_solver x) message a _ e parses
        (next-solver-second (slot_of l size index) (words_of l.scratch) a most_sent (length l.result / 4) x n d)

    pub solver-ending-stands : (x : SolverSession) → length x.s ≡ 16 → session_in l.host ≡ of_solver x → x.due ≡ 4
        → next_on l size index message ≡ outcome_on l size index (recorded of_solver (solver_ending x (slot_of l size index) a most_sent))
    solver-ending-stands x n e d =
        stands (of_solver x) message a _ e parses
        (next-solver-ending (slot_of l size index) (words_of l.scratch) a most_sent (length l.result / 4) x n d)

    pub blinder-second-stands : (x : BlinderSession) → length x.mm ≡ 256 → session_in l.host ≡ of_blinder x → x.due ≡ 3
        → next_on l size index message
        ≡ outcome_on l size index (recorded of_blinder (blinder_second x (slot_of l size index) (words_of l.scratch) a most_sent))
    blinder-second-stands x n e d =
        stands (of_blinder x) message a _ e parses
        (next-blinder-second (slot_of l size index) (words_of l.scratch) a most_sent (length l.result / 4) x n d)

    pub blinder-ending-stands : (x : BlinderSession) → length x.mm ≡ 256 → session_in l.host ≡ of_blinder x → x.due ≡ last_kind x.terms.m x.terms.p
        → next_on l size index message
        ≡ outcome_on l size index (recorded of_blinder (blinder_ending x (slot_of l size index) (words_of l.scratch) a (length l.result / 4)))
    blinder-ending-stands x n e d =
        stands (of_blinder x) message a _ e parses
        (next-blinder-ending (slot_of l size index) (words_of l.scratch) a most_sent (length l.result / 4) x n d)

  pub right-drop-stands : (x : RightSession) → session_in l.host ≡ of_right x
      → drop_on l size index ≡ outcome_on l size index (recorded of_right (drop_right x (slot_of l size index)))
  right-drop-stands x e = drop-stands (of_right x) _ e (drop-right (slot_of l size index) (words_of l.scratch) x)

  pub solver-drop-stands : (x : SolverSession) → length x.s ≡ 16 → session_in l.host ≡ of_solver x
      → drop_on l size index ≡ outcome_on l size index (recorded of_solver (drop_solver x (slot_of l size index)))
  solver-drop-stands x n e = drop-stands (of_solver x) _ e (drop-solver (slot_of l size index) (words_of l.scratch) x n)

  pub blinder-drop-stands : (x : BlinderSession) → length x.mm ≡ 256 → session_in l.host ≡ of_blinder x
      → drop_on l size index
      ≡ outcome_on l size index (recorded of_blinder (drop_blinder x (slot_of l size index) (words_of l.scratch)))
  blinder-drop-stands x n e = drop-stands (of_blinder x) _ e (drop-blinder (slot_of l size index) (words_of l.scratch) x n)

-- ---- first steps, over a record that holds no open session

module _ (l : Lent) (size index : ℕ) (whole : Whole l) (free : (session_in l.host).due ≡ 0)
    (t : Terms) (input words message : List ℕ) (whole-input : length input % 4 ≡ 0) (whole_words : length words % 4 ≡ 0) where
  first-pass : Pass (first_tests l (length input) (length words))
  unfolding first_tests free_tests
  first-pass =
      append-pass (own-pass l whole) (append-pass (whole-pass _ whole-input) (append-pass (whole-pass _ whole_words) (eq-eqb _ 0 free next nothing)))

  pub right-first-stands : first_on l size index RIGHT t input words message
      ≡ outcome_on l size index (recorded of_right (right_first t (slot_of l size index) (words_of input) most_sent))
  unfolding first_on first_step takes_message
  right-first-stands = passed-in l (index * size) _ _ first-pass

  pub solver-first-stands : first_on l size index SOLVER t input words message
      ≡ outcome_on l size index (recorded of_solver
      (solver_first t (slot_of l size index) (take (t.m * t.m) (words_of input)) (drop (t.m * t.m) (words_of input)) most_sent))
  unfolding first_on first_step takes_message
  solver-first-stands = passed-in l (index * size) _ _ first-pass

  module _ (a : Message) (parses : parse_message message ≡ done a) where
    pub left-stands : first_on l size index LEFT t input words message
        ≡ outcome_on l size index (recorded (λ _. of_left t)
        (left_step t (slot_of l size index) (words_of input) (words_of words) a most_sent (length l.result / 4)))
    unfolding first_on first_step takes_message
    left-stands = passed-in l (index * size) _ _ first-pass ∙ rw parses refl

    pub blinder-first-stands : first_on l size index BLINDER t input words message
        ≡ outcome_on l size index (recorded of_blinder
        (blinder_first t (slot_of l size index) (length (words_of l.scratch)) (take (t.m * t.m) (words_of input)) (drop (t.m * t.m) (words_of input))
        (words_of words) a most_sent))
    unfolding first_on first_step takes_message
    blinder-first-stands = passed-in l (index * size) _ _ first-pass ∙ rw parses refl
