-- Every step and drop, with what its tests and its effect show: its answer tells whether it was done, and it writes nothing where it is lent nothing.
--   left-told .. drop-blinder-told      an accepted call was done; of the solver's later ones one, too, that answered a singular sum
--   left-no-scratch ..                  what it writes nothing over
-- Assumes nothing.
use mathlib.Core.Path.{◌≡◌, refl}
use mathlib.Core.Bool.{Bool, true, false, cond}
use mathlib.Core.List.{List}
use Prim.Native.Nat.{ℕ}
use lib.Dec.{eqb}
use Rattle.algebra.specs.Count.{both}
use Rattle.algebra.specs.Elimination.{regular}
use Rattle.protocol.specs.declared.Terms.{Terms}
use Rattle.protocol.specs.declared.RightSession.{RightSession}
use Rattle.protocol.specs.declared.SolverSession.{SolverSession}
use Rattle.protocol.specs.declared.BlinderSession.{BlinderSession}
use Rattle.std.specs.Prelude.{Ok, Err}
use Rattle.protocol.specs.declared.Refusal.TheVariants.{Singular}
use Rattle.protocol.specs.Judge.{clear, given}
use Rattle.protocol.specs.Bounds.{shape_tests, terms_tests, input_tests, room_tests}
use Rattle.protocol.specs.Tape.{Slot, Role, solver, slot_tests, half_tests, tape_tests, body_tests}
use Rattle.protocol.specs.Message.{Message, is_determinant, message_size, message_tests, due_tests}
use Rattle.protocol.specs.Step.{Outcome, is_open, open_tests, later_tests}
use Rattle.protocol.specs.Product.{right_first_effect, right_first, left_effect, left_step, right_last_effect, right_last}
use Rattle.protocol.specs.System.{kept_s, last_tests, solver_tests, kept_tests}
use Rattle.protocol.specs.System.{joint_sum, solver_first_effect, solver_first, blinder_first_effect, blinder_first}
use Rattle.protocol.specs.System.{solver_second_effect, solver_second_tests, solver_second, blinder_second_effect, blinder_second}
use Rattle.protocol.specs.System.{solver_last_effect, solver_last_tests, solver_last, solver_determinant_effect, solver_determinant_tests, solver_determinant, solver_ending}
use Rattle.protocol.specs.System.{blinder_last_effect, blinder_last, blinder_determinant_effect, blinder_determinant}
use Rattle.protocol.specs.Drop.{drop_right, drop_solver, drop_blinder}
use Rattle.entry.specs.declared.Session.{Session}
use Rattle.entry.specs.Steps.{recorded, blinder_ending}
use Rattle.local.specs.Settled.{is_accepted, is_settled}
use Rattle.local.proofs.Recorded.{Told, told-first, NoTen, ◌and◌, told-later, NoScratch, NoSent, NoResult, no-scratch, no-sent, no_result}

-- what holds of two calls holds of either
either-of : {S : Type 0} (P : Outcome S → Type 0) (b : Bool) {o u : Outcome S} → P o → P u → P (cond b o u)
either-of P true h k = h
either-of P false h k = k

-- ---- first steps

module _ (t : Terms) (s : Slot) (x words : List ℕ) (a : Message) (room share : ℕ) where
  pub left-told : Told is_accepted (left_step t s x words a room share)
  unfolding left_step left_effect
  left-told = told-first _ _ refl

  pub left-no-scratch : (f : Unit → Session) → NoScratch (recorded f (left_step t s x words a room share))
  unfolding left_step left_effect
  left-no-scratch f = no-scratch f _ _ refl

module _ (t : Terms) (s : Slot) (y : List ℕ) (room : ℕ) where
  pub right-first-told : Told is_accepted (right_first t s y room)
  unfolding right_first right_first_effect
  right-first-told = told-first _ _ refl

  pub right-first-no-scratch : (f : RightSession → Session) → NoScratch (recorded f (right_first t s y room))
  unfolding right_first right_first_effect
  right-first-no-scratch f = no-scratch f _ _ refl

  pub right-first-no-result : (f : RightSession → Session) → NoResult (recorded f (right_first t s y room))
  unfolding right_first right_first_effect
  right-first-no-result f = no_result f _ _ refl

module _ (t : Terms) (s : Slot) (lent : ℕ) (mm y words : List ℕ) (a : Message) (room : ℕ) where
  pub blinder-first-told : Told is_accepted (blinder_first t s lent mm y words a room)
  unfolding blinder_first blinder_first_effect
  blinder-first-told = told-first _ _ refl

  pub blinder-first-no-result : (f : BlinderSession → Session) → NoResult (recorded f (blinder_first t s lent mm y words a room))
  unfolding blinder_first blinder_first_effect
  blinder-first-no-result f = no_result f _ _ refl

module _ (t : Terms) (s : Slot) (l x : List ℕ) (room : ℕ) where
  pub solver-first-told : Told is_accepted (solver_first t s l x room)
  unfolding solver_first solver_first_effect
  solver-first-told = told-first _ _ refl

  pub solver-first-no-scratch : (f : SolverSession → Session) → NoScratch (recorded f (solver_first t s l x room))
  unfolding solver_first solver_first_effect
  solver-first-no-scratch f = no-scratch f _ _ refl

  pub solver-first-no-result : (f : SolverSession → Session) → NoResult (recorded f (solver_first t s l x room))
  unfolding solver_first solver_first_effect
  solver-first-no-result f = no_result f _ _ refl

-- ---- tests that the solver's later steps and its drop share

of-message : (a : Message) → NoTen (message_tests a)
unfolding message_tests terms_tests shape_tests input_tests clear both
of-message a = record { none = refl }

of-due : (kind : ℕ) (t : Terms) (a : Message) → NoTen (due_tests kind t a)
unfolding due_tests clear both
of-due kind t a = record { none = refl }

of-open : (role : Role) (due : ℕ) (t : Terms) (s : Slot) → NoTen (open_tests role due t s)
unfolding open_tests terms_tests shape_tests slot_tests half_tests tape_tests given clear both
of-open role due t s = record { none = refl }

of-later : (role : Role) (kind due : ℕ) (t : Terms) (s : Slot) → NoTen (later_tests role kind due t s)
unfolding later_tests open_tests terms_tests shape_tests slot_tests half_tests tape_tests body_tests given clear both
of-later role kind due t s = record { none = refl }

of_room : (b : Bool) (n room : ℕ) → NoTen (given b (room_tests n room))
unfolding room_tests given clear both
of_room b n room = record { none = refl }

of-kept : (q : ℕ) (l : List ℕ) → NoTen (kept_tests q l)
unfolding kept_tests clear both
of-kept q l = record { none = refl }

of-solver : (kind : ℕ) (x : SolverSession) (s : Slot) → NoTen (solver_tests kind x s)
unfolding solver_tests
of-solver kind x s = of-later solver kind x.due x.terms s and of-kept x.terms.q (kept_s x)

of-last : (kind : ℕ) (t : Terms) → NoTen (last_tests kind t)
unfolding last_tests clear both
of-last kind t = record { none = refl }

-- ---- later steps

module _ (x : RightSession) (s : Slot) (a : Message) (room : ℕ) where
  pub right-last-told : Told is_accepted (right_last x s a room)
  unfolding right_last right_last_effect
  right-last-told = told-first _ _ refl

  pub right-last-no-scratch : (f : RightSession → Session) → NoScratch (recorded f (right_last x s a room))
  unfolding right_last right_last_effect
  right-last-no-scratch f = no-scratch f _ _ refl

  pub right-last-no-sent : (f : RightSession → Session) → NoSent (recorded f (right_last x s a room))
  unfolding right_last right_last_effect
  right-last-no-sent f = no-sent f _ _ refl

module _ (x : SolverSession) (s : Slot) (a : Message) (room : ℕ) where
  pub solver-second-told : Told is_settled (solver_second x s a room)
  unfolding solver_second solver_second_tests solver_second_effect
  solver-second-told =
      let tests =
      of-message a and of-solver 2 x s and of-due 2 x.terms a and of_room (is_open x.due) (message_size 3 x.terms) room in
      told-later _ _ tests refl

  pub solver-second-no-scratch : (f : SolverSession → Session) → NoScratch (recorded f (solver_second x s a room))
  unfolding solver_second solver_second_effect
  solver-second-no-scratch f = no-scratch f _ _ refl

  pub solver-second-no-result : (f : SolverSession → Session) → NoResult (recorded f (solver_second x s a room))
  unfolding solver_second solver_second_effect
  solver-second-no-result f = no_result f _ _ refl

  -- regular or not, the answer is settled
  either-settled : (c : Bool) → is_settled (cond c (Ok 0) (Err Singular)) ≡ true
  either-settled true = refl
  either-settled false = refl

  pub solver-ending-told : Told is_settled (solver_ending x s a room)
  unfolding solver_ending solver_last solver_last_tests solver_last_effect solver_determinant solver_determinant_tests solver_determinant_effect
  solver-ending-told =
      let tests : (n : ℕ) → NoTen _ = λ n. of-message a and of-solver 4 x s and of-due 4 x.terms a and of_room (is_open x.due) n room in
      either-of (Told is_settled) (is_determinant x.terms) (told-later _ _ (tests (message_size 6 x.terms) and of-last 6 x.terms) refl)
      (told-later _ _ (tests (message_size 5 x.terms) and of-last 5 x.terms) (either-settled (regular x.terms.q x.terms.m (joint_sum x s a))))

  pub solver-ending-no-scratch : (f : SolverSession → Session) → NoScratch (recorded f (solver_ending x s a room))
  unfolding solver_ending solver_last solver_last_effect solver_determinant solver_determinant_effect
  solver-ending-no-scratch f = either-of (λ o. NoScratch (recorded f o)) (is_determinant x.terms) (no-scratch f _ _ refl) (no-scratch f _ _ refl)

  pub solver-ending-no-result : (f : SolverSession → Session) → NoResult (recorded f (solver_ending x s a room))
  unfolding solver_ending solver_last solver_last_effect solver_determinant solver_determinant_effect
  solver-ending-no-result f = either-of (λ o. NoResult (recorded f o)) (is_determinant x.terms) (no_result f _ _ refl) (no_result f _ _ refl)

  -- whichever of the two is due
  module _ (due : ℕ) (f : SolverSession → Session) where
    pub solver-next-no-scratch : NoScratch (recorded f (cond (eqb due 2) (solver_second x s a room) (solver_ending x s a room)))
    solver-next-no-scratch = either-of (λ o. NoScratch (recorded f o)) (eqb due 2) (solver-second-no-scratch f) (solver-ending-no-scratch f)

    pub solver-next-no-result : NoResult (recorded f (cond (eqb due 2) (solver_second x s a room) (solver_ending x s a room)))
    solver-next-no-result = either-of (λ o. NoResult (recorded f o)) (eqb due 2) (solver-second-no-result f) (solver-ending-no-result f)

module _ (x : BlinderSession) (s : Slot) (scratch : List ℕ) (a : Message) (room : ℕ) where
  pub blinder-second-told : Told is_accepted (blinder_second x s scratch a room)
  unfolding blinder_second blinder_second_effect
  blinder-second-told = told-first _ _ refl

  pub blinder-second-no-result : (f : BlinderSession → Session) → NoResult (recorded f (blinder_second x s scratch a room))
  unfolding blinder_second blinder_second_effect
  blinder-second-no-result f = no_result f _ _ refl

  pub blinder-ending-told : Told is_accepted (blinder_ending x s scratch a room)
  unfolding blinder_ending blinder_last blinder_last_effect blinder_determinant blinder_determinant_effect
  blinder-ending-told = either-of (Told is_accepted) (is_determinant x.terms) (told-first _ _ refl) (told-first _ _ refl)

  pub blinder-ending-no-sent : (f : BlinderSession → Session) → NoSent (recorded f (blinder_ending x s scratch a room))
  unfolding blinder_ending blinder_last blinder_last_effect blinder_determinant blinder_determinant_effect
  blinder-ending-no-sent f = either-of (λ o. NoSent (recorded f o)) (is_determinant x.terms) (no-sent f _ _ refl) (no-sent f _ _ refl)

-- ---- drops

pub drop-right-told : (x : RightSession) (s : Slot) → Told is_accepted (drop_right x s)
unfolding drop_right
drop-right-told x s = told-first _ _ refl

pub drop-right-no-scratch : (x : RightSession) (s : Slot) (f : RightSession → Session) → NoScratch (recorded f (drop_right x s))
unfolding drop_right
drop-right-no-scratch x s f = no-scratch f _ _ refl

pub drop-solver-told : (x : SolverSession) (s : Slot) → Told is_settled (drop_solver x s)
unfolding drop_solver
drop-solver-told x s = told-later _ _ (of-open solver x.due x.terms s) refl

pub drop-solver-no-scratch : (x : SolverSession) (s : Slot) (f : SolverSession → Session) → NoScratch (recorded f (drop_solver x s))
unfolding drop_solver
drop-solver-no-scratch x s f = no-scratch f _ _ refl

pub drop-blinder-told : (x : BlinderSession) (s : Slot) (scratch : List ℕ) → Told is_accepted (drop_blinder x s scratch)
unfolding drop_blinder
drop-blinder-told x s scratch = told-first _ _ refl
