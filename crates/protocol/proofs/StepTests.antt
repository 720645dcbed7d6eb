-- Each call as a record of what it needs: it is accepted exactly where the record holds, and then has its effect. Nobody reads tests by their position.
--   RightFirstFits, LeftFits, RightLastFits                       right-first, left_step_lem, right-last
--   SolverFirstFits, BlinderFirstFits                             solver-first, blinder-first
--   SolverFits (steps 3 and 5), BlinderFits (steps 4 and 6)       solver-second, blinder-second, blinder-last
--   SolverLastFits, BlinderDeterminantFits                        solver-last, solver-determinant, blinder-determinant
--   OpenFits (of Tests), DropBlinderFits                          drop-right, drop-solver, drop-blinder
-- Assumes nothing.
use mathlib.Core.Path.{◌≡◌, refl, sym}
use mathlib.Core.Logic.{◌↔◌}
use mathlib.Core.Bool.{true}
use mathlib.Core.List.{List, [], ◌++◌}
use Prim.Native.Nat.{ℕ, ◌*◌, ◌≤◌}
use lib.ListN.{length, take}
use borrow.Author.Tests.{eqb-true, eq-eqb}
use Rattle.algebra.specs.Matrix.{Residues, zeros}
use Rattle.algebra.specs.Count.{both, part}
use Rattle.algebra.specs.Elimination.{regular}
use Rattle.protocol.specs.declared.Terms.{Terms}
use Rattle.protocol.specs.declared.RightSession.{RightSession}
use Rattle.protocol.specs.declared.SolverSession.{SolverSession}
use Rattle.protocol.specs.declared.BlinderSession.{BlinderSession}
use Rattle.protocol.specs.Judge.{given}
use Rattle.protocol.specs.Drawing.{residues_of}
use Rattle.protocol.specs.Bounds.{system, within, all_below, room_tests}
use Rattle.protocol.specs.Tape.{Slot, slot_words, left, right, blinder, solver, matrices, words_spent}
use Rattle.protocol.specs.Message.{Message, kind_known, kind_sort, last_kind, message_size, message_tests, due_tests}
use Rattle.protocol.specs.Step.{is_open}
use Rattle.protocol.specs.Product.{closed_right, right_first_effect, right_first_tests, right_first, left_effect, left_tests, left_step, right_last_effect, right_last_tests, right_last}
use Rattle.protocol.specs.System.{closed_solver, closed_blinder, side_size, kept_s, kept_m, kept_y, scratch_size, scratch_parts, regular_tests, kept_tests}
use Rattle.protocol.specs.System.{blinder_tests, solver_tests, coins_of, solver_first_effect, solver_first_tests, solver_first, blinder_first_effect}
use Rattle.protocol.specs.System.{blinder_first_tests, blinder_first, solver_second_effect, solver_second_tests, solver_second, blinder_second_effect}
use Rattle.protocol.specs.System.{blinder_second_tests, blinder_second, solver_last_effect, solver_last_tests, solver_last, blinder_last_effect, blinder_last_tests}
use Rattle.protocol.specs.System.{blinder_last, last_tests, solver_determinant_effect, solver_determinant_tests, solver_determinant}
use Rattle.protocol.specs.System.{blinder_determinant_effect, blinder_determinant_tests, blinder_determinant}
use Rattle.protocol.specs.Drop.{dropped, drop_right, drop_solver, drop_blinder}
use Rattle.protocol.proofs.Judge.{Pass, ◌also◌, ◌next◌, nothing, split, here, pass-given, given-pass}
use Rattle.protocol.proofs.Tests.{Decides, decides, TermsFit, product-of-system, FirstFits, first-tests, open-due, OpenFits, open-tests, LaterFits, later-tests, MessageFits, message-facts, message-own, message-due, input-tests, room-tests, draw-tests}

-- ---- a product

pub record RightFirstFits (t : Terms) (s : Slot) (y : List ℕ) (room : ℕ) : Type 0 where
  pub first : FirstFits right t s
  pub y-fits : Residues t.q (t.k * t.p) y
  pub message-room : message_size 1 t ≤ room

pub right-first : (t : Terms) (s : Slot) (y : List ℕ) (room : ℕ) → Decides (right_first t s y room) (right_first_effect t s y) (RightFirstFits t s y room)
unfolding right_first right_first_tests
right-first t s y room = decides _ _ (
  λ a.
      let (a1, in-room) = split a in
      let (in-first, in-y) = split a1 in
      record { first = (first-tests right t s).0 in-first; y-fits = (input-tests _ _ _).0 in-y; message-room = (room-tests _ _).0 in-room },
  λ f. (first-tests right t s).1 f.first also (input-tests _ _ _).1 f.y-fits also (room-tests _ _).1 f.message-room,
)

pub record LeftFits (t : Terms) (s : Slot) (x words : List ℕ) (a : Message) (room share_room : ℕ) : Type 0 where
  pub first : FirstFits left t s
  pub message : MessageFits 1 t a
  pub x_fits : Residues t.q (t.m * t.k) x
  pub message-room : message_size 2 t ≤ room
  pub share-room : t.m * t.p ≤ share_room
  pub enough : t.m * t.p ≤ length (residues_of t.q words)

pub left_step_lem : (t : Terms) (s : Slot) (x words : List ℕ) (a : Message) (room share_room : ℕ)
    → Decides (left_step t s x words a room share_room) (left_effect t s x words a) (LeftFits t s x words a room share_room)
unfolding left_step left_tests
left_step_lem t s x words a room share_room = decides _ _ (
  λ h.
      let (h1, in_words_lem) = split h in
      let (h2, in-share) = split h1 in
      let (h3, in-room) = split h2 in
      let (h4, in-x) = split h3 in
      let (h5, in-due) = split h4 in
      let (in-message, in-first) = split h5 in
      record {
        first = (first-tests left t s).0 in-first;
        message = message-facts 1 t a in-message in-due;
        x_fits = (input-tests _ _ _).0 in-x;
        message-room = (room-tests _ _).0 in-room;
        share-room = (room-tests _ _).0 in-share;
        enough = (draw-tests _ _ _).0 in_words_lem;
      },
  λ f. message-own 1 t a (unfold within both in refl) (unfold kind_sort in f.first.terms) f.message
      also (first-tests left t s).1 f.first
      also message-due 1 t a f.message
      also (input-tests _ _ _).1 f.x_fits
      also (room-tests _ _).1 f.message-room
      also (room-tests _ _).1 f.share-room
      also (draw-tests _ _ _).1 f.enough,
)

pub record RightLastFits (x : RightSession) (s : Slot) (a : Message) (share_room : ℕ) : Type 0 where
  pub later : LaterFits right 2 x.due x.terms s
  pub message : MessageFits 2 x.terms a
  pub share-room : x.terms.m * x.terms.p ≤ share_room

pub right-last : (x : RightSession) (s : Slot) (a : Message) (share_room : ℕ)
    → Decides (right_last x s a share_room) (right_last_effect x s a) (RightLastFits x s a share_room)
unfolding right_last right_last_tests
right-last x s a share_room = decides _ _ (
  λ h.
      let (h1, in-share) = split h in
      let (h2, in-due) = split h1 in
      let (in-message, in-later) = split h2 in
      let later = (later-tests right 2 x.due x.terms s).0 in-later in
      record {
        later = later;
        message = message-facts 2 x.terms a in-message in-due;
        share-room = (room-tests _ _).0 (given-pass ((open-due x.due).1 later.session-open.is_open) in-share);
      },
  λ f. message-own 2 x.terms a (unfold within both in refl) (unfold kind_sort in f.later.session-open.terms) f.message
      also (later-tests right 2 x.due x.terms s).1 f.later
      also message-due 2 x.terms a f.message
      also pass-given (is_open x.due) _ ((room-tests _ _).1 f.share-room),
)

-- ---- a system: first steps

pub record SolverFirstFits (t : Terms) (s : Slot) (l x : List ℕ) (room : ℕ) : Type 0 where
  pub first : FirstFits solver t s
  pub l-fits : Residues t.q (t.m * t.m) l
  pub x_fits : Residues t.q (side_size t) x
  pub message-room : message_size 1 t ≤ room
  pub l-regular : regular t.q t.m l ≡ true

pub solver-first : (t : Terms) (s : Slot) (l x : List ℕ) (room : ℕ)
    → Decides (solver_first t s l x room) (solver_first_effect t s l x) (SolverFirstFits t s l x room)
unfolding solver_first solver_first_tests regular_tests
solver-first t s l x room = decides _ _ (
  λ h.
      let (h1, in-regular) = split h in
      let (h2, in-room) = split h1 in
      let (h3, in-x) = split h2 in
      let (in-first, in-l) = split h3 in
      record {
        first = (first-tests solver t s).0 in-first;
        l-fits = (input-tests _ _ _).0 in-l;
        x_fits = (input-tests _ _ _).0 in-x;
        message-room = (room-tests _ _).0 in-room;
        l-regular = here in-regular;
      },
  λ f. (first-tests solver t s).1 f.first
      also (input-tests _ _ _).1 f.l-fits
      also (input-tests _ _ _).1 f.x_fits
      also (room-tests _ _).1 f.message-room
      also (f.l-regular next nothing),
)

pub record BlinderFirstFits (t : Terms) (s : Slot) (scratch_room : ℕ) (mm y words : List ℕ) (a : Message) (room : ℕ) : Type 0 where
  pub first : FirstFits blinder t s
  pub message : MessageFits 1 t a
  pub m-fits : Residues t.q (t.m * t.m) mm
  pub y-fits : Residues t.q (side_size t) y
  pub scratch-room : scratch_size t ≤ scratch_room
  pub message-room : message_size 2 t ≤ room
  pub enough : scratch_size t ≤ length (residues_of t.q words)
  pub m-regular : regular t.q t.m mm ≡ true
  pub p-regular : regular t.q t.m (part 0 (scratch_parts t (coins_of t words))) ≡ true

pub blinder-first : (t : Terms) (s : Slot) (scratch_room : ℕ) (mm y words : List ℕ) (a : Message) (room : ℕ)
    → Decides (blinder_first t s scratch_room mm y words a room) (blinder_first_effect t s mm y words a) (BlinderFirstFits t s scratch_room mm y words a room)
unfolding blinder_first blinder_first_tests regular_tests
blinder-first t s scratch_room mm y words a room = decides _ _ (
  λ h.
      let (h1, in_p) = split h in
      let (h2, in-regular) = split h1 in
      let (h3, in_words_lem) = split h2 in
      let (h4, in-room) = split h3 in
      let (h5, in-scratch) = split h4 in
      let (h6, in-y) = split h5 in
      let (h7, in-m) = split h6 in
      let (h8, in-due) = split h7 in
      let (in-message, in-first) = split h8 in
      record {
        first = (first-tests blinder t s).0 in-first;
        message = message-facts 1 t a in-message in-due;
        m-fits = (input-tests _ _ _).0 in-m;
        y-fits = (input-tests _ _ _).0 in-y;
        scratch-room = (room-tests _ _).0 in-scratch;
        message-room = (room-tests _ _).0 in-room;
        enough = (draw-tests _ _ _).0 in_words_lem;
        m-regular = here in-regular;
        p-regular = here in_p;
      },
  λ f. message-own 1 t a (unfold within both in refl) (unfold kind_sort in product-of-system t f.first.terms) f.message
      also (first-tests blinder t s).1 f.first
      also message-due 1 t a f.message
      also (input-tests _ _ _).1 f.m-fits
      also (input-tests _ _ _).1 f.y-fits
      also (room-tests _ _).1 f.scratch-room
      also (room-tests _ _).1 f.message-room
      also (draw-tests _ _ _).1 f.enough
      also (f.m-regular next nothing)
      also (f.p-regular next nothing),
)

-- ---- a system: later steps, which take a message of one kind and write so many words

pub record SolverFits (kind : ℕ) (x : SolverSession) (s : Slot) (a : Message) (size room : ℕ) : Type 0 where
  pub later : LaterFits solver kind x.due x.terms s
  pub message : MessageFits kind x.terms a
  pub s-below : all_below x.terms.q (kept_s x) ≡ true
  pub message-room : size ≤ room

module _ (kind : ℕ) (x : SolverSession) (s : Slot) (a : Message) (size room : ℕ) (known : kind_known kind ≡ true)
    (own : TermsFit system x.terms → TermsFit (kind_sort kind) x.terms) where
  solver-tests : ◌↔◌ {0, 0} (Pass (message_tests a ++ solver_tests kind x s ++ due_tests kind x.terms a ++ given (is_open x.due) (room_tests size room)))
      (SolverFits kind x s a size room)
  unfolding solver_tests kept_tests
  solver-tests = (
    λ h.
        let (h1, in-room) = split h in
        let (h2, in-due) = split h1 in
        let (in-message, in-solver) = split h2 in
        let (in-later, in-s) = split in-solver in
        let later = (later-tests solver kind x.due x.terms s).0 in-later in
        record {
          later = later;
          message = message-facts kind x.terms a in-message in-due;
          s-below = here in-s;
          message-room = (room-tests _ _).0 (given-pass ((open-due x.due).1 later.session-open.is_open) in-room);
        },
    λ f. message-own kind x.terms a known (own f.later.session-open.terms) f.message
        also ((later-tests solver kind x.due x.terms s).1 f.later also (f.s-below next nothing))
        also message-due kind x.terms a f.message
        also pass-given (is_open x.due) _ ((room-tests _ _).1 f.message-room),
  )

pub solver-second : (x : SolverSession) (s : Slot) (a : Message) (room : ℕ)
    → Decides (solver_second x s a room) (solver_second_effect x s a) (SolverFits 2 x s a (message_size 3 x.terms) room)
unfolding solver_second solver_second_tests
solver-second x s a room =
    decides _ _ (solver-tests 2 x s a (message_size 3 x.terms) room (unfold within both in refl) (unfold kind_sort in product-of-system x.terms))

-- and the session is of the step's sort
pub record SolverLastFits (kind : ℕ) (x : SolverSession) (s : Slot) (a : Message) (size room : ℕ) : Type 0 where
  pub fits : SolverFits 4 x s a size room
  pub sort-is : last_kind x.terms.m x.terms.p ≡ kind

module _ (kind : ℕ) (x : SolverSession) (s : Slot) (a : Message) (size room : ℕ) where
  solver-last-tests : ◌↔◌ {0, 0}
      (Pass (message_tests a ++ solver_tests 4 x s ++ due_tests 4 x.terms a ++ given (is_open x.due) (room_tests size room) ++ last_tests kind x.terms))
      (SolverLastFits kind x s a size room)
  unfolding last_tests
  solver-last-tests =
      let tests = solver-tests 4 x s a size room (unfold within both in refl) (unfold kind_sort in λ f. f) in (
        λ h.
            let (h1, in-sort) = split h in
            record { fits = tests.0 h1; sort-is = sym (eqb-true _ _ (here in-sort)) },
        λ f. tests.1 f.fits also (eq-eqb kind _ (sym f.sort-is) next nothing),
      )

pub solver-last : (x : SolverSession) (s : Slot) (a : Message) (room : ℕ)
    → Decides (solver_last x s a room) (solver_last_effect x s a) (SolverLastFits 5 x s a (message_size 5 x.terms) room)
unfolding solver_last solver_last_tests
solver-last x s a room = decides _ _ (solver-last-tests 5 x s a (message_size 5 x.terms) room)

pub solver-determinant : (x : SolverSession) (s : Slot) (a : Message) (room : ℕ)
    → Decides (solver_determinant x s a room) (solver_determinant_effect x s a) (SolverLastFits 6 x s a (message_size 6 x.terms) room)
unfolding solver_determinant solver_determinant_tests
solver-determinant x s a room = decides _ _ (solver-last-tests 6 x s a (message_size 6 x.terms) room)

pub record BlinderFits (kind : ℕ) (x : BlinderSession) (s : Slot) (scratch : List ℕ) (a : Message) (size room : ℕ) : Type 0 where
  pub later : LaterFits blinder kind x.due x.terms s
  pub message : MessageFits kind x.terms a
  pub scratch-room : scratch_size x.terms ≤ length scratch
  pub m-below : all_below x.terms.q (kept_m x) ≡ true
  pub y-below : all_below x.terms.q (kept_y x) ≡ true
  pub scratch-below : all_below x.terms.q (take (scratch_size x.terms) scratch) ≡ true
  pub write-room : size ≤ room

module _ (kind : ℕ) (x : BlinderSession) (s : Slot) (scratch : List ℕ) (a : Message) (size room : ℕ) (known : kind_known kind ≡ true)
    (own : TermsFit system x.terms → TermsFit (kind_sort kind) x.terms) where
  blinder-tests : ◌↔◌ {0, 0} (Pass (message_tests a ++ blinder_tests kind x s scratch ++ due_tests kind x.terms a ++ given (is_open x.due) (room_tests size room)))
      (BlinderFits kind x s scratch a size room)
  unfolding blinder_tests kept_tests
  blinder-tests = (
    λ h.
        let (h1, in-room) = split h in
        let (h2, in-due) = split h1 in
        let (in-message, in-blinder) = split h2 in
        let (b1, in_words_lem) = split in-blinder in
        let (b2, in-y) = split b1 in
        let (b3, in-m) = split b2 in
        let (in-later, in-scratch) = split b3 in
        let later = (later-tests blinder kind x.due x.terms s).0 in-later in
        let is_open = (open-due x.due).1 later.session-open.is_open in
        record {
          later = later;
          message = message-facts kind x.terms a in-message in-due;
          scratch-room = (room-tests _ _).0 (given-pass is_open in-scratch);
          m-below = here in-m;
          y-below = here in-y;
          scratch-below = here in_words_lem;
          write-room = (room-tests _ _).0 (given-pass is_open in-room);
        },
    λ f. message-own kind x.terms a known (own f.later.session-open.terms) f.message
        also ((later-tests blinder kind x.due x.terms s).1 f.later
        also pass-given (is_open x.due) _ ((room-tests _ _).1 f.scratch-room)
        also (f.m-below next nothing)
        also (f.y-below next nothing)
        also (f.scratch-below next nothing))
        also message-due kind x.terms a f.message
        also pass-given (is_open x.due) _ ((room-tests _ _).1 f.write-room),
  )

pub blinder-second : (x : BlinderSession) (s : Slot) (scratch : List ℕ) (a : Message) (room : ℕ)
    → Decides (blinder_second x s scratch a room) (blinder_second_effect x s scratch a) (BlinderFits 3 x s scratch a (message_size 4 x.terms) room)
unfolding blinder_second blinder_second_tests
blinder-second x s scratch a room =
    decides _ _ (blinder-tests 3 x s scratch a (message_size 4 x.terms) room (unfold within both in refl) (unfold kind_sort in λ f. f))

pub blinder-last : (x : BlinderSession) (s : Slot) (scratch : List ℕ) (a : Message) (answer_room : ℕ)
    → Decides (blinder_last x s scratch a answer_room) (blinder_last_effect x s scratch a) (BlinderFits 5 x s scratch a (side_size x.terms) answer_room)
unfolding blinder_last blinder_last_tests
blinder-last x s scratch a answer_room =
    decides _ _ (blinder-tests 5 x s scratch a (side_size x.terms) answer_room (unfold within both in refl) (unfold kind_sort in λ f. f))

-- and P and Q, by whose determinants it divides, have an inverse
pub record BlinderDeterminantFits (x : BlinderSession) (s : Slot) (scratch : List ℕ) (a : Message) (room : ℕ) : Type 0 where
  pub fits : BlinderFits 6 x s scratch a (message_size 6 x.terms) room
  pub p-regular : regular x.terms.q x.terms.m (part 0 (scratch_parts x.terms scratch)) ≡ true
  pub q-regular : regular x.terms.q x.terms.m (part 2 (matrices blinder x.terms (slot_words s))) ≡ true

pub blinder-determinant : (x : BlinderSession) (s : Slot) (scratch : List ℕ) (a : Message) (answer_room : ℕ)
    → Decides (blinder_determinant x s scratch a answer_room) (blinder_determinant_effect x s scratch a) (BlinderDeterminantFits x s scratch a answer_room)
unfolding blinder_determinant blinder_determinant_tests regular_tests
blinder-determinant x s scratch a answer_room =
    let tests = blinder-tests 6 x s scratch a (message_size 6 x.terms) answer_room (unfold within both in refl) (unfold kind_sort in λ f. f) in
    decides _ _ (
      λ h.
          let (h1, in-q) = split h in
          let (h2, in_p) = split h1 in
          record { fits = tests.0 h2; p-regular = here in_p; q-regular = here in-q },
      λ f. tests.1 f.fits also (f.p-regular next nothing) also (f.q-regular next nothing),
    )

-- ---- drops

pub drop-right : (x : RightSession) (s : Slot)
    → Decides (drop_right x s) (dropped (closed_right x) (words_spent right x.terms (slot_words s)) []) (OpenFits right x.due x.terms s)
unfolding drop_right
drop-right x s = decides _ _ (open-tests right x.due x.terms s)

pub drop-solver : (x : SolverSession) (s : Slot)
    → Decides (drop_solver x s) (dropped (closed_solver x) (words_spent solver x.terms (slot_words s)) []) (OpenFits solver x.due x.terms s)
unfolding drop_solver
drop-solver x s = decides _ _ (open-tests solver x.due x.terms s)

pub record DropBlinderFits (x : BlinderSession) (s : Slot) (scratch : List ℕ) : Type 0 where
  pub session-open : OpenFits blinder x.due x.terms s
  pub scratch-room : scratch_size x.terms ≤ length scratch

pub drop-blinder : (x : BlinderSession) (s : Slot) (scratch : List ℕ)
    → Decides (drop_blinder x s scratch) (dropped (closed_blinder x) (words_spent blinder x.terms (slot_words s)) (zeros (scratch_size x.terms)))
    (DropBlinderFits x s scratch)
unfolding drop_blinder
drop-blinder x s scratch = decides _ _ (
  λ h.
      let (in-open, in-scratch) = split h in
      let o = (open-tests blinder x.due x.terms s).0 in-open in
      record { session-open = o; scratch-room = (room-tests _ _).0 (given-pass ((open-due x.due).1 o.is_open) in-scratch) },
  λ f. (open-tests blinder x.due x.terms s).1 f.session-open also pass-given (is_open x.due) _ ((room-tests _ _).1 f.scratch-room),
)
