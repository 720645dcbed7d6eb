-- What is known of the outcome of a call: by its answer it was done or not, and what it leaves is proper.
--   first-told, next-told, drop-told   by its answer
--   first-behaves, later-behaves       how code may go by it
-- Assumes nothing.
use mathlib.Core.Path.{◌≡◌, refl, sym, ap, ◌∙◌}
use mathlib.Core.Bool.{Bool, true, false, not, cond, false≢true}
use mathlib.Core.List.{List, []}
use Prim.Native.Nat.{ℕ, ◌*◌}
use lib.Dec.{eqb}
use lib.ListN.{length, take, drop}
use Rattle.algebra.specs.Count.{both}
use Rattle.protocol.specs.Answer.{Answer}
use Rattle.std.specs.Prelude.{Ok, Err}
use Rattle.protocol.specs.declared.Terms.{Terms}
use Rattle.protocol.specs.declared.Refusal.{Refusal}
use Rattle.protocol.specs.Judge.{refused, done}
use Rattle.protocol.specs.Tape.{Slot}
use Rattle.protocol.specs.Message.{Message}
use Rattle.protocol.specs.Step.{Effect, Outcome, answer_after}
use Rattle.protocol.specs.Product.{right_first, left_step, right_last}
use Rattle.protocol.specs.System.{solver_first, blinder_first, solver_second, blinder_second, solver_ending}
use Rattle.protocol.specs.Drop.{drop_right, drop_solver, drop_blinder}
use Rattle.local.specs.Settled.{is_accepted, is_settled, is_done_by}
use Rattle.local.proofs.Recorded.{was_done, Told}
use Rattle.local.proofs.Ends.{left-told, right-first-told, blinder-first-told, solver-first-told, right-last-told, solver-second-told, solver-ending-told, blinder-second-told, blinder-ending-told, drop-right-told, drop-solver-told, drop-blinder-told}
use Rattle.entry.specs.declared.Session.{Session}
use Rattle.entry.specs.Record.{LEFT, RIGHT, BLINDER, SOLVER, right_of, solver_of, blinder_of, of_left, of_right, of_solver, of_blinder}
use Rattle.entry.specs.Steps.{recorded, first_step, blinder_ending, next_step, drop_step}
use Rattle.local.proofs.Proper.{Proper, first-proper, next-proper, drop-proper}
use Rattle.local.specs.Entered.{later_step}
use Rattle.local.proofs.Finish.{Behaves}

told-recorded : {S : Type 0} {is : Answer → Bool} (f : S → Session) (o : Outcome S) → Told is o → Told is (recorded f o)
told-recorded f (refused r) h = record { tells = h.tells }
told-recorded f (done e) h = record { tells = h.tells }

-- ---- by its answer

module _ (end : ℕ) (t : Terms) (s : Slot) (scratch input words : List ℕ) (a : Message) (room share : ℕ) where
  pub first-told : Told is_accepted (first_step end t s scratch input words a room share)
  unfolding first_step
  first-told = go (eqb end LEFT) (eqb end RIGHT) (eqb end BLINDER) (eqb end SOLVER) refl refl refl refl
    where
      matrix : List ℕ
      matrix = take (t.m * t.m) input

      vector : List ℕ
      vector = drop (t.m * t.m) input

      go : (b c d e : Bool) → eqb end LEFT ≡ b → eqb end RIGHT ≡ c → eqb end BLINDER ≡ d → eqb end SOLVER ≡ e
          → Told is_accepted (first_step end t s scratch input words a room share)
      go true c d e i j k l =
          rw i (told-recorded (λ (u : Unit). of_left t) (left_step t s input words a room share) (left-told t s input words a room share))
      go false true d e i j k l = rw (i, j) (told-recorded of_right (right_first t s input room) (right-first-told t s input room))
      go false false true e i j k l =
          rw (i, j, k) (told-recorded of_blinder (blinder_first t s (length scratch) matrix vector words a room)
          (blinder-first-told t s (length scratch) matrix vector words a room))
      go false false false true i j k l =
          rw (i, j, k, l) (told-recorded of_solver (solver_first t s matrix vector room) (solver-first-told t s matrix vector room))
      go false false false false i j k l = rw (i, j, k, l) (record { tells = refl })

-- whether the record is the solver's
abbrev pub solves : Session → Bool
solves x = eqb x.end SOLVER

module _ (x : Session) (s : Slot) (scratch : List ℕ) (a : Message) (room share : ℕ) where
  pub next-told : Told (is_done_by (solves x)) (next_step x s scratch a room share)
  unfolding next_step
  next-told = go (eqb x.end SOLVER) (eqb x.end BLINDER) (eqb x.due 2) (eqb x.due 3) refl refl refl refl
    where
      go : (b c d e : Bool) → eqb x.end SOLVER ≡ b → eqb x.end BLINDER ≡ c → eqb x.due 2 ≡ d → eqb x.due 3 ≡ e
          → Told (is_done_by (solves x)) (next_step x s scratch a room share)
      go true c true e i j k l =
          rw (i, k) (told-recorded of_solver (solver_second (solver_of x) s a room) (solver-second-told (solver_of x) s a room))
      go true c false e i j k l = rw (i, k) (told-recorded of_solver (solver_ending (solver_of x) s a room) (solver-ending-told (solver_of x) s a room))
      go false true d true i j k l =
          rw (i, j, l) (told-recorded of_blinder (blinder_second (blinder_of x) s scratch a room) (blinder-second-told (blinder_of x) s scratch a room))
      go false true d false i j k l =
          rw (i, j, l) (told-recorded of_blinder (blinder_ending (blinder_of x) s scratch a share) (blinder-ending-told (blinder_of x) s scratch a share))
      go false false d e i j k l = rw (i, j) (told-recorded of_right (right_last (right_of x) s a share) (right-last-told (right_of x) s a share))

module _ (x : Session) (s : Slot) (scratch : List ℕ) where
  pub drop-told : Told (is_done_by (solves x)) (drop_step x s scratch)
  unfolding drop_step
  drop-told = go (eqb x.end SOLVER) (eqb x.end BLINDER) refl refl
    where
      go : (b c : Bool) → eqb x.end SOLVER ≡ b → eqb x.end BLINDER ≡ c → Told (is_done_by (solves x)) (drop_step x s scratch)
      go true c i j = rw i (told-recorded of_solver (drop_solver (solver_of x) s) (drop-solver-told (solver_of x) s))
      go false true i j = rw (i, j) (told-recorded of_blinder (drop_blinder (blinder_of x) s scratch) (drop-blinder-told (blinder_of x) s scratch))
      go false false i j = rw (i, j) (told-recorded of_right (drop_right (right_of x) s) (drop-right-told (right_of x) s))

-- ---- how a call behaves

-- where no refusal is done
accepted-behaves : (s : Slot) (o : Outcome Session) → Told is_accepted o → ((e : Effect Session) → o ≡ done e → Proper s e) → Behaves false s o
unfolding both
accepted-behaves s o h p = record {
  refuses = λ r e. refl;
  answers = λ e r f g. absurd (false≢true (sym (ap is_accepted g) ∙ (ap (λ (z : Outcome Session). is_accepted (answer_after z)) (sym f) ∙ (h.tells ∙ ap was_done f))));
  proper = p;
}

settled-behaves : (s : Slot) (o : Outcome Session) → Told is_settled o → ((e : Effect Session) → o ≡ done e → Proper s e) → Behaves true s o
unfolding both
settled-behaves s o h p = record {
  refuses = λ r e. sym (ap (λ (z : Outcome Session). is_settled (answer_after z)) e) ∙ (h.tells ∙ ap was_done e);
  answers = λ e r f g. sym (ap is_settled g) ∙ (ap (λ (z : Outcome Session). is_settled (answer_after z)) (sym f) ∙ (h.tells ∙ ap was_done f));
  proper = p;
}

pub first-behaves : (end : ℕ) (t : Terms) (s : Slot) (scratch input words : List ℕ) (a : Message) (room share : ℕ)
    → Behaves false s (first_step end t s scratch input words a room share)
first-behaves end t s scratch input words a room share =
    accepted-behaves s _ (first-told end t s scratch input words a room share) (first-proper end t s scratch input words a room share)

told-behaves : (sums : Bool) (s : Slot) (o : Outcome Session) → Told (is_done_by sums) o → ((e : Effect Session) → o ≡ done e → Proper s e) → Behaves sums s o
told-behaves true = settled-behaves
told-behaves false = accepted-behaves

pub later-behaves : (drops : Bool) (x : Session) (s : Slot) (scratch : List ℕ) (a : Message) (room share : ℕ)
    → Behaves (solves x) s (later_step drops x s scratch a room share)
unfolding later_step
later-behaves true x s scratch a room share = told-behaves (solves x) s (drop_step x s scratch) (drop-told x s scratch) (drop-proper x s scratch)
later-behaves false x s scratch a room share =
    told-behaves (solves x) s (next_step x s scratch a room share) (next-told x s scratch a room share) (next-proper x s scratch a room share)
