-- The steps of each end of a system by itself, for any number `rhs` of right-hand side columns: on whatever residues the end gets, and with
-- slices long enough, each step is accepted, and what it sends are algebra's formulas.
--   system_terms, wide_terms   the terms of a system, with one column and with any number
--   SolverEnd, BlinderEnd    an end that holds its half, with an input that its first step takes
--   last-system, last-determinant, last-late, of-system, of-determinant, system-kind, determinant-kind, one-column   which last steps a session has
--   ending-system, ending-determinant   and the solver's
--   step1, step3, step5, step5-determinant   the solver's steps are accepted; sent1, sent3, sent5, sent5-determinant: what they send
--   step2, step4, step6, step6-determinant   the blinder's; sent2, sent4, answer6, answer6-determinant
-- That L and M have an inverse is used for the tests of steps 1 and 2 alone.
-- Assumes nothing.
use mathlib.Core.Path.{◌≡◌, refl, sym, ◌∙◌}
use mathlib.Core.Bool.{Bool, true, false, cond, false≢true}
use mathlib.Core.List.{List, [], ◌∷◌}
use Prim.Native.Nat.{ℕ, ◌+◌, ◌*◌, ◌≤◌, ◌<◌}
use native.Mathlib.Omega.{arith}
use native.Mathlib.Decide.{dec_lt}
use lib.Dec.{ltb, eqb}
use lib.ListN.{length, get_or, take}
use borrow.Author.Tests.{eq-eqb, ne_eqb}
use Rattle.algebra.specs.Matrix.{Residues, zeros, mat_mul}
use Rattle.algebra.specs.Count.{part, total}
use Rattle.algebra.specs.Columns.{beside}
use Rattle.algebra.specs.Words.{over}
use Rattle.algebra.specs.Elimination.{regular, solution}
use Rattle.algebra.specs.Product.{send_y, send_x, send_r, right_share}
use Rattle.algebra.specs.System.{last_cols, solver_share, send_f, send_w, send_c, sum_matrix, sum_vector}
use Rattle.determinant.specs.Determinant.{det}
use Rattle.determinant.specs.Session.{answer}
use Rattle.algebra.proofs.Lists.{add-residues, sub-residues}
use Rattle.algebra.proofs.Columns.{cols-residues}
use Rattle.algebra.proofs.Parts.{Fits, none, ◌then◌, fits-parts}
use Rattle.protocol.specs.declared.SessionId.{SessionId}
use Rattle.protocol.specs.declared.TapeId.{TapeId}
use Rattle.protocol.specs.declared.Terms.{Terms}
use Rattle.protocol.specs.declared.SolverSession.{SolverSession}
use Rattle.protocol.specs.declared.BlinderSession.{BlinderSession}
use Rattle.std.specs.Prelude.{Ok, Err}
use Rattle.protocol.specs.declared.Refusal.TheVariants.{Singular}
use Rattle.protocol.specs.Judge.{done}
use Rattle.protocol.specs.Drawing.{residues_of}
use Rattle.protocol.specs.Bounds.{system, columns, all_below}
use Rattle.protocol.specs.Tape.{Slot, slot_words, blinder, solver, READY, IN-USE}
use Rattle.protocol.specs.Message.{Message, no_message, message_of, is_determinant, last_kind, last_fits, message_layout, message_size}
use Rattle.protocol.specs.System.{padded, side_size, kept_s, kept_m, kept_y, scratch_layout, scratch_size, scratch_parts, coins_of, joint_sum, solver_first_effect}
use Rattle.protocol.specs.System.{solver_first, blinder_first_effect, blinder_first, solver_second_effect, solver_second, blinder_second_effect, blinder_second}
use Rattle.protocol.specs.System.{solver_last_effect, solver_last, blinder_last_effect, blinder_last}
use Rattle.protocol.specs.System.{solver_determinant_effect, solver_determinant, solver_ending, blinder_determinant_effect, blinder_determinant}
use Rattle.protocol.proofs.Slots.{written}
use Rattle.protocol.proofs.Residues.{residues-below, residues-drawn, take-over, parts-over, over-length, zeros-below}
use Rattle.protocol.proofs.Tests.{early, TermsFit, system-sides, draw-tests}
use Rattle.protocol.proofs.StepTests.{solver-first, blinder-first, solver-second, blinder-second, SolverFits, solver-last, solver-determinant, BlinderFits, blinder-last, blinder-determinant}
use Rattle.protocol.proofs.Halves.{Holding, holding-matrices, holding-used, holding-same, first_fits, later-fits}
use Rattle.protocol.proofs.Messages.{message-parts, own-message}

-- n unknowns, and rhs columns of right-hand sides
abbrev pub wide_terms : SessionId → TapeId → (q n rhs : ℕ) → Terms
wide_terms session tape q n rhs = record { session = session; tape = tape; q = q; m = n; k = n; p = n + rhs }

-- the terms of a system: one column (RULES 1.3)
abbrev pub system_terms : SessionId → TapeId → (q n : ℕ) → Terms
system_terms session tape q n = wide_terms session tape q n 1

pub columns-are : (n rhs : ℕ) → columns n (n + rhs) ≡ rhs
unfolding columns
columns-are n rhs = omega arith

pub side-are : (session : SessionId) (tape : TapeId) (q n rhs : ℕ) → side_size (wide_terms session tape q n rhs) ≡ n * rhs
unfolding side_size
side-are session tape q n rhs = rw (columns-are n rhs)

-- one column, and none
pub last-system : (n : ℕ) → last_kind n (n + 1) ≡ 5
unfolding last_kind
last-system n = rw (ne_eqb (n + 1) n (omega arith))

pub last-determinant : (n : ℕ) → last_kind n (n + 0) ≡ 6
unfolding last_kind
last-determinant n = rw (eq-eqb (n + 0) n (omega arith))

-- either comes after message 4
pub last-late : (m p : ℕ) → 4 < last_kind m p
unfolding last_kind
last-late m p = go (eqb p m)
  where
    go : (b : Bool) → 4 < cond b 6 5
    go true = omega arith
    go false = omega arith

-- by its terms
pub system-kind : (t : Terms) → is_determinant t ≡ false → last_kind t.m t.p ≡ 5
unfolding last_kind
system-kind t e = rw e

pub determinant-kind : (t : Terms) → is_determinant t ≡ true → last_kind t.m t.p ≡ 6
unfolding last_kind
determinant-kind t e = rw e

kind-of : (b : Bool) → (◌≡◌ {A = ℕ} (cond b 6 5) 5 → b ≡ false) × (◌≡◌ {A = ℕ} (cond b 6 5) 6 → b ≡ true)
kind-of true = (λ e. absurd (omega (arith, e)), λ e. refl)
kind-of false = (λ e. refl, λ e. absurd (omega (arith, e)))

pub of-system : (t : Terms) → last_kind t.m t.p ≡ 5 → is_determinant t ≡ false
unfolding last_kind
of-system t = (kind-of (is_determinant t)).0

pub of-determinant : (t : Terms) → last_kind t.m t.p ≡ 6 → is_determinant t ≡ true
unfolding last_kind
of-determinant t = (kind-of (is_determinant t)).1

-- one column where a solution is asked for
pub one-column : (t : Terms) → TermsFit system t → last_kind t.m t.p ≡ 5 → columns t.m t.p ≡ 1
unfolding columns
one-column t f k =
    let s = (system-sides t.m t.k t.p).0 f.sides in
    elim (dec_lt t.m t.p) [
      | yes l ↦ omega (arith, l, s.high)
      | no l ↦ absurd (false≢true (sym (of-system t k) ∙ eq-eqb t.p t.m (let e : t.p ≡ t.m = omega (arith, l, s.low) in e)))
    ]

module _ (x : SolverSession) (s : Slot) (a : Message) (room : ℕ) where
  pub ending-system : last_kind x.terms.m x.terms.p ≡ 5 → solver_ending x s a room ≡ solver_last x s a room
  unfolding solver_ending
  ending-system e = rw (of-system x.terms e)

  pub ending-determinant : last_kind x.terms.m x.terms.p ≡ 6 → solver_ending x s a room ≡ solver_determinant x s a room
  unfolding solver_ending
  ending-determinant e = rw (of-determinant x.terms e)

-- ---- the solver

-- a solver that holds its half of a tape, ready, with L and x that its first step takes
pub record SolverEnd (rhs : ℕ) : Type 0 where
  pub session : SessionId
  pub tape : TapeId
  pub q : ℕ
  pub n : ℕ
  pub y0 : List ℕ
  pub b0 : List ℕ
  pub r : List ℕ
  pub v : List ℕ
  pub slot : Slot
  pub l : List ℕ
  pub x : List ℕ
  pub terms-fit : TermsFit system (wide_terms session tape q n rhs)
  pub half : Holding solver READY (wide_terms session tape q n rhs) (y0 ∷ b0 ∷ r ∷ v ∷ []) slot
  pub l-fits : Residues q (n * n) l
  pub x_fits : Residues q (side_size (wide_terms session tape q n rhs)) x
  pub l-regular : regular q n l ≡ true

module _ {rhs : ℕ} (E : SolverEnd rhs) where
  abbrev t : Terms
  t = wide_terms E.session E.tape E.q E.n rhs

  abbrev q : ℕ
  q = E.q

  abbrev n : ℕ
  n = E.n

  abbrev half : List (List ℕ)
  half = E.y0 ∷ E.b0 ∷ E.r ∷ E.v ∷ []

  h0 : 0 < E.q
  h0 = omega (arith, E.terms-fit.big)

  columns-is : columns E.n (E.n + rhs) ≡ rhs
  columns-is = columns-are E.n rhs

  -- Y1
  unfoldable pub y1 : List ℕ
  y1 = send_y q n n (n + rhs) (beside n n rhs E.l E.x) E.y0

  pub fits1 : Fits q (message_layout 1 n n (n + rhs)) (y1 ∷ [])
  unfolding message_layout y1 send_y
  fits1 = sub-residues h0 _ _ _ then none

  pub step1 : (room : ℕ) → message_size 1 t ≤ room → solver_first t E.slot E.l E.x room ≡ done (solver_first_effect t E.slot E.l E.x)
  step1 room long = (solver-first t E.slot E.l E.x room).accepts (record {
    first = first_fits E.half E.terms-fit;
    l-fits = E.l-fits;
    x_fits = E.x_fits;
    message-room = long;
    l-regular = E.l-regular;
  })

  pub sent1 : (solver_first_effect t E.slot E.l E.x).sent ≡ message_of 1 t (y1 ∷ [])
  unfolding solver_first_effect y1
  sent1 = rw (holding-matrices solver READY t _ E.slot E.half, columns-is)

  unfoldable pub solver1 : SolverSession
  solver1 = record { terms = t; due = 2; s = zeros 16 }

  unfoldable pub slot1 : Slot
  slot1 = written E.slot (solver_first_effect t E.slot E.l E.x).slot

  held1 : Holding solver IN-USE t half slot1
  unfolding slot1 solver_first_effect
  held1 = holding-used solver t _ E.slot E.half

  unfoldable pub slot3 : Slot
  slot3 = written slot1 (slot_words slot1)

  held3 : Holding solver IN-USE t half slot3
  unfolding slot3
  held3 = holding-same solver IN-USE t _ slot1 held1

  -- S and F, by message 2 in its parts
  unfoldable pub share : List (List ℕ) → List ℕ
  share c2 = solver_share q n rhs (part 0 c2) E.y0 (part 1 c2) E.b0

  unfoldable pub f : List (List ℕ) → List ℕ
  f c2 = send_f q n rhs E.r (share c2)

  unfoldable pub solver3 : List (List ℕ) → SolverSession
  solver3 c2 = record { terms = t; due = 4; s = padded 16 (last_cols n rhs (share c2)) }

  -- W + V by message 4, and c + s
  unfoldable pub sum : List (List ℕ) → List ℕ
  sum c4 = sum_matrix q n (part 0 c4) E.v

  unfoldable pub target : (c2 c4 : List (List ℕ)) → List ℕ
  target c2 c4 = sum_vector q n rhs (part 1 c4) (share c2)

  pub sum-residues : (c4 : List (List ℕ)) → Residues q (n * n) (sum c4)
  unfolding sum sum_matrix
  sum-residues c4 = add-residues h0 (n * n) _ _

  pub target-residues : (c2 c4 : List (List ℕ)) → Residues q (n * rhs) (target c2 c4)
  unfolding target sum_vector
  target-residues c2 c4 = add-residues h0 (n * rhs) _ _

  pub fits3 : (c2 : List (List ℕ)) → Fits q (message_layout 3 n n (n + rhs)) (f c2 ∷ [])
  unfolding message_layout f send_f
  fits3 c2 = sub-residues h0 _ _ _ then none

  module _ (c2 : List (List ℕ)) (f2 : Fits q (message_layout 2 n n (n + rhs)) c2) where
    pub step3 : (room : ℕ) → message_size 3 t ≤ room → solver_second solver1 slot1 (message_of 2 t c2) room ≡ done (solver_second_effect solver1 slot1 (message_of 2 t c2))
    unfolding solver1 kept_s
    step3 room long = (solver-second solver1 slot1 (message_of 2 t c2) room).accepts (record {
      later = later-fits held1 E.terms-fit (omega arith);
      message = own-message 2 t c2 f2 (early _ _ 2 refl);
      s-below = zeros-below q 16 (side_size t) h0;
      message-room = long;
    })

    pub sent3 : (solver_second_effect solver1 slot1 (message_of 2 t c2)).sent ≡ message_of 3 t (f c2 ∷ [])
    unfolding solver_second_effect solver1 f share
    sent3 = rw (columns-is, holding-matrices solver IN-USE t _ slot1 held1, message-parts 2 t c2 f2)

    pub session3 : (solver_second_effect solver1 slot1 (message_of 2 t c2)).session ≡ solver3 c2
    unfolding solver_second_effect solver1 solver3 share
    session3 = rw (columns-is, holding-matrices solver IN-USE t _ slot1 held1, message-parts 2 t c2 f2)

  module _ (c2 c4 : List (List ℕ)) (f4 : Fits q (message_layout 4 n n (n + rhs)) c4) where
    last-residues : Residues q (n * rhs) (last_cols n rhs (share c2))
    unfolding share solver_share right_share
    last-residues = cols-residues n (n + rhs) n rhs (omega arith) (sub-residues h0 (n * (n + rhs)) _ _)

    kept-s : kept_s (solver3 c2) ≡ last_cols n rhs (share c2)
    unfolding kept_s solver3 padded
    kept-s = rw (side-are E.session E.tape E.q E.n rhs) (take-over (zeros 16) last-residues)

    -- either last step
    last_fits_lem : {size : ℕ} (room : ℕ) → size ≤ room → SolverFits 4 (solver3 c2) slot3 (message_of 4 t c4) size room
    unfolding solver3
    last_fits_lem room long = record {
      later = later-fits held3 E.terms-fit (omega arith);
      message = own-message 4 t c4 f4 (early _ _ 4 refl);
      s-below = rw kept-s (residues-below last-residues);
      message-room = long;
    }

    pub step5 : last_kind n (n + rhs) ≡ 5 → (room : ℕ) → message_size 5 t ≤ room
        → solver_last (solver3 c2) slot3 (message_of 4 t c4) room ≡ done (solver_last_effect (solver3 c2) slot3 (message_of 4 t c4))
    unfolding solver3
    step5 k room long = (solver-last (solver3 c2) slot3 (message_of 4 t c4) room).accepts (record { fits = last_fits_lem room long; sort-is = k })

    joint-is : joint_sum (solver3 c2) slot3 (message_of 4 t c4) ≡ sum c4
    unfolding joint_sum solver3 sum
    joint-is = rw (holding-matrices solver IN-USE t _ slot3 held3, message-parts 4 t c4 f4)

    pub sent5 : (solver_last_effect (solver3 c2) slot3 (message_of 4 t c4)).sent
        ≡ cond (regular q n (sum c4)) (message_of 5 t (solution q n (sum c4) (target c2 c4) ∷ [])) no_message
    unfolding solver_last_effect target sum_vector solver3
    sent5 = rw (joint-is, columns-is, message-parts 4 t c4 f4, kept-s)

    pub answer5 : (solver_last_effect (solver3 c2) slot3 (message_of 4 t c4)).answer ≡ cond (regular q n (sum c4)) (Ok 0) (Err Singular)
    unfolding solver_last_effect solver3
    answer5 = rw joint-is

    pub step5-determinant : last_kind n (n + rhs) ≡ 6 → (room : ℕ) → message_size 6 t ≤ room
        → solver_determinant (solver3 c2) slot3 (message_of 4 t c4) room ≡ done (solver_determinant_effect (solver3 c2) slot3 (message_of 4 t c4))
    unfolding solver3
    step5-determinant k room long = (solver-determinant (solver3 c2) slot3 (message_of 4 t c4) room).accepts (record { fits = last_fits_lem room long; sort-is = k })

    pub sent5-determinant : (solver_determinant_effect (solver3 c2) slot3 (message_of 4 t c4)).sent ≡ message_of 6 t ((det q n (sum c4) ∷ []) ∷ [])
    unfolding solver_determinant_effect solver3
    sent5-determinant = rw joint-is

-- ---- the blinder

-- a blinder that holds its half of a tape, ready, with M, y, raw words and a scratch that its first step takes
pub record BlinderEnd (rhs : ℕ) : Type 0 where
  pub session : SessionId
  pub tape : TapeId
  pub q : ℕ
  pub n : ℕ
  pub x0 : List ℕ
  pub a0 : List ℕ
  pub qm : List ℕ
  pub g : List ℕ
  pub slot : Slot
  pub mm : List ℕ
  pub y : List ℕ
  pub words : List ℕ
  pub scratch : List ℕ
  pub terms-fit : TermsFit system (wide_terms session tape q n rhs)
  pub half : Holding blinder READY (wide_terms session tape q n rhs) (x0 ∷ a0 ∷ qm ∷ g ∷ []) slot
  pub m-fits : Residues q (n * n) mm
  pub y-fits : Residues q (side_size (wide_terms session tape q n rhs)) y
  pub m-regular : regular q n mm ≡ true
  pub enough : scratch_size (wide_terms session tape q n rhs) ≤ length (residues_of q words)
  pub p-regular : regular q n (part 0 (scratch_parts (wide_terms session tape q n rhs) (coins_of (wide_terms session tape q n rhs) words))) ≡ true
  pub scratch-room : scratch_size (wide_terms session tape q n rhs) ≤ length scratch

module _ {rhs : ℕ} (E : BlinderEnd rhs) where
  abbrev bt : Terms
  bt = wide_terms E.session E.tape E.q E.n rhs

  abbrev bhalf : List (List ℕ)
  bhalf = E.x0 ∷ E.a0 ∷ E.qm ∷ E.g ∷ []

  bh0 : 0 < E.q
  bh0 = omega (arith, E.terms-fit.big)

  bcolumns-is : columns E.n (E.n + rhs) ≡ rhs
  bcolumns-is = columns-are E.n rhs

  -- P and U0
  unfoldable pub coins : List ℕ
  coins = coins_of bt E.words

  unfoldable pub pm : List ℕ
  pm = part 0 (scratch_parts bt coins)

  unfoldable pub u0 : List ℕ
  u0 = part 1 (scratch_parts bt coins)

  coins-residues : Residues E.q (total (scratch_layout bt)) coins
  unfolding coins coins_of scratch_size
  coins-residues = residues-drawn E.q (E.n * E.n + E.n * (E.n + rhs)) E.words bh0 ((draw-tests _ _ _).1 E.enough).all

  coins-fit : Fits E.q (E.n * E.n ∷ E.n * (E.n + rhs) ∷ []) (scratch_parts bt coins)
  unfolding scratch_parts
  coins-fit = fits-parts (scratch_layout bt) coins-residues

  pub pm-residues : Residues E.q (E.n * E.n) pm
  unfolding pm
  pm-residues = at coins-fit
    where
      at : {q a b : ℕ} {ls : List (List ℕ)} → Fits q (a ∷ b ∷ []) ls → Residues q a (part 0 ls)
      at (ra then rb then none) = ra

  pub pm-regular : regular E.q E.n pm ≡ true
  unfolding pm coins
  pm-regular = E.p-regular

  unfoldable pub x1 : List ℕ
  x1 = send_x E.q E.n E.n (E.n + rhs) pm E.x0

  unfoldable pub blinder2 : BlinderSession
  blinder2 = record { terms = bt; due = 3; mm = padded 256 E.mm; y = padded 16 E.y }

  unfoldable pub blinder4 : BlinderSession
  blinder4 = record { terms = bt; due = last_kind E.n (E.n + rhs); mm = padded 256 E.mm; y = padded 16 E.y }

  kept-m : kept_m blinder2 ≡ E.mm
  unfolding kept_m blinder2 padded
  kept-m = take-over (zeros 256) E.m-fits

  kept-y : kept_y blinder2 ≡ E.y
  unfolding kept_y blinder2 padded
  kept-y = take-over (zeros 16) E.y-fits

  m-below : all_below E.q (kept_m blinder2) ≡ true
  m-below = rw kept-m (residues-below E.m-fits)

  y-below : all_below E.q (kept_y blinder2) ≡ true
  y-below = rw kept-y (residues-below E.y-fits)

  scratch-parts : scratch_parts bt (over coins E.scratch) ≡ scratch_parts bt coins
  unfolding scratch_parts
  scratch-parts = parts-over (scratch_layout bt) E.scratch coins-residues

  scratch-room : scratch_size bt ≤ length (over coins E.scratch)
  scratch-room =
      let size : length coins ≡ scratch_size bt = unfold scratch_size in coins-residues.size in
      omega (arith, over-length coins E.scratch (omega (arith, E.scratch-room)), E.scratch-room)

  scratch-below : all_below E.q (take (scratch_size bt) (over coins E.scratch)) ≡ true
  unfolding scratch_size
  scratch-below = rw (take-over E.scratch coins-residues) (residues-below coins-residues)

  -- R1, by message 1 in its parts
  unfoldable pub r1 : List (List ℕ) → List ℕ
  r1 c1 = send_r E.q E.n E.n (E.n + rhs) pm (part 0 c1) u0 E.a0

  pub fits2 : (c1 : List (List ℕ)) → Fits E.q (message_layout 2 E.n E.n (E.n + rhs)) (x1 ∷ r1 c1 ∷ [])
  unfolding message_layout x1 r1 send_x send_r
  fits2 c1 = add-residues bh0 _ _ _ then sub-residues bh0 _ _ _ then none

  -- W by message 3, and c
  unfoldable pub w : List (List ℕ) → List ℕ
  w c3 = send_w E.q E.n rhs u0 (part 0 c3) E.qm pm E.mm E.g

  unfoldable pub c : List ℕ
  c = send_c E.q E.n rhs u0 pm E.y

  pub fits4 : (c3 : List (List ℕ)) → Fits E.q (message_layout 4 E.n E.n (E.n + rhs)) (w c3 ∷ c ∷ [])
  unfolding message_layout w c send_w send_c
  fits4 c3 = rw bcolumns-is (sub-residues bh0 (E.n * E.n) _ _ then add-residues bh0 (E.n * rhs) _ _ then none)

  -- the slot after steps 2 and 4
  unfoldable pub slot2 : List (List ℕ) → Slot
  slot2 c1 = written E.slot (blinder_first_effect bt E.slot E.mm E.y E.words (message_of 1 bt c1)).slot

  held2 : (c1 : List (List ℕ)) → Holding blinder IN-USE bt bhalf (slot2 c1)
  unfolding slot2 blinder_first_effect
  held2 c1 = holding-used blinder bt _ E.slot E.half

  unfoldable pub slot4 : List (List ℕ) → Slot
  slot4 c1 = written (slot2 c1) (slot_words (slot2 c1))

  pub held4 : (c1 : List (List ℕ)) → Holding blinder IN-USE bt bhalf (slot4 c1)
  unfolding slot4
  held4 c1 = holding-same blinder IN-USE bt _ (slot2 c1) (held2 c1)

  module _ (c1 : List (List ℕ)) (f1 : Fits E.q (message_layout 1 E.n E.n (E.n + rhs)) c1) where
    pub step2 : (room : ℕ) → message_size 2 bt ≤ room
        → blinder_first bt E.slot (length E.scratch) E.mm E.y E.words (message_of 1 bt c1) room
        ≡ done (blinder_first_effect bt E.slot E.mm E.y E.words (message_of 1 bt c1))
    step2 room long = (blinder-first bt E.slot (length E.scratch) E.mm E.y E.words (message_of 1 bt c1) room).accepts (record {
      first = first_fits E.half E.terms-fit;
      message = own-message 1 bt c1 f1 (early _ _ 1 refl);
      m-fits = E.m-fits;
      y-fits = E.y-fits;
      scratch-room = E.scratch-room;
      message-room = long;
      enough = E.enough;
      m-regular = E.m-regular;
      p-regular = E.p-regular;
    })

    pub sent2 : (blinder_first_effect bt E.slot E.mm E.y E.words (message_of 1 bt c1)).sent ≡ message_of 2 bt (x1 ∷ r1 c1 ∷ [])
    unfolding blinder_first_effect x1 r1 pm u0 coins
    sent2 = rw (holding-matrices blinder READY bt _ E.slot E.half, message-parts 1 bt c1 f1)

  module _ (c1 c3 : List (List ℕ)) (f3 : Fits E.q (message_layout 3 E.n E.n (E.n + rhs)) c3) where
    pub step4 : (room : ℕ) → message_size 4 bt ≤ room
        → blinder_second blinder2 (slot2 c1) (over coins E.scratch) (message_of 3 bt c3) room
        ≡ done (blinder_second_effect blinder2 (slot2 c1) (over coins E.scratch) (message_of 3 bt c3))
    unfolding blinder2
    step4 room long = (blinder-second blinder2 (slot2 c1) (over coins E.scratch) (message_of 3 bt c3) room).accepts (record {
      later = later-fits (held2 c1) E.terms-fit (omega arith);
      message = own-message 3 bt c3 f3 (early _ _ 3 refl);
      scratch-room = scratch-room;
      m-below = m-below;
      y-below = y-below;
      scratch-below = scratch-below;
      write-room = long;
    })

    pub sent4 : (blinder_second_effect blinder2 (slot2 c1) (over coins E.scratch) (message_of 3 bt c3)).sent ≡ message_of 4 bt (w c3 ∷ c ∷ [])
    unfolding blinder_second_effect blinder2 w c pm u0
    sent4 = rw (bcolumns-is, holding-matrices blinder IN-USE bt _ (slot2 c1) (held2 c1), message-parts 3 bt c3 f3, scratch-parts, kept-m, kept-y)

  -- either last step
  last_step : (c1 : List (List ℕ)) (kind : ℕ) (c : List (List ℕ)) → Fits E.q (message_layout kind E.n E.n (E.n + rhs)) c
      → last_kind E.n (E.n + rhs) ≡ kind → 0 < kind → {size : ℕ} (room : ℕ) → size ≤ room
      → BlinderFits kind blinder4 (slot4 c1) (over coins E.scratch) (message_of kind bt c) size room
  unfolding blinder4
  last_step c1 kind c f k some room long = record {
    later = rw k (later-fits (held4 c1) E.terms-fit some);
    message = own-message kind bt c f (unfold last_fits in rw (k, eq-eqb kind kind refl) (either (ltb 4 kind)));
    scratch-room = scratch-room;
    m-below = unfold kept_m blinder2 in m-below;
    y-below = unfold kept_y blinder2 in y-below;
    scratch-below = scratch-below;
    write-room = long;
  }
    where
      either : (b : Bool) → cond b true true ≡ true
      either true = refl
      either false = refl

  module _ (c1 c5 : List (List ℕ)) (f5 : Fits E.q (message_layout 5 E.n E.n (E.n + rhs)) c5) where
    pub step6 : last_kind E.n (E.n + rhs) ≡ 5 → (room : ℕ) → side_size bt ≤ room
        → blinder_last blinder4 (slot4 c1) (over coins E.scratch) (message_of 5 bt c5) room
        ≡ done (blinder_last_effect blinder4 (slot4 c1) (over coins E.scratch) (message_of 5 bt c5))
    unfolding blinder4
    step6 k room long = (blinder-last blinder4 (slot4 c1) (over coins E.scratch) (message_of 5 bt c5) room).accepts (last_step c1 5 c5 f5 k (omega arith) room long)

    -- z = Q × t
    pub answer6 : (blinder_last_effect blinder4 (slot4 c1) (over coins E.scratch) (message_of 5 bt c5)).result ≡ mat_mul E.q E.n E.n rhs E.qm (part 0 c5)
    unfolding blinder_last_effect blinder4
    answer6 = rw (bcolumns-is, holding-matrices blinder IN-USE bt _ (slot4 c1) (held4 c1), message-parts 5 bt c5 f5)

  module _ (c1 c6 : List (List ℕ)) (f6 : Fits E.q (message_layout 6 E.n E.n (E.n + rhs)) c6) (q-regular : regular E.q E.n E.qm ≡ true) where
    pub step6-determinant : last_kind E.n (E.n + rhs) ≡ 6 → (room : ℕ) → message_size 6 bt ≤ room
        → blinder_determinant blinder4 (slot4 c1) (over coins E.scratch) (message_of 6 bt c6) room
        ≡ done (blinder_determinant_effect blinder4 (slot4 c1) (over coins E.scratch) (message_of 6 bt c6))
    unfolding blinder4
    step6-determinant k room long = (blinder-determinant blinder4 (slot4 c1) (over coins E.scratch) (message_of 6 bt c6) room).accepts (record {
      fits = last_step c1 6 c6 f6 k (omega arith) room long;
      p-regular = rw scratch-parts (unfold pm in pm-regular);
      q-regular = rw (holding-matrices blinder IN-USE bt _ (slot4 c1) (held4 c1)) q-regular;
    })

    -- the determinant, divided by those of P and Q
    pub answer6-determinant : (blinder_determinant_effect blinder4 (slot4 c1) (over coins E.scratch) (message_of 6 bt c6)).result
        ≡ answer E.q E.n pm E.qm (get_or (part 0 c6) 0 0) ∷ []
    unfolding blinder_determinant_effect blinder4 pm
    answer6-determinant = rw (holding-matrices blinder IN-USE bt _ (slot4 c1) (held4 c1), message-parts 6 bt c6 f6, scratch-parts)
