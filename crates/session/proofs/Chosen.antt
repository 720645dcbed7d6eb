-- Which end's step a call of a session is. Assumes nothing.
--   first-left, first-right, first-blinder, first-solver, first-other   a first step, by the end's number
--   unopened-left .. unopened-other                                     its record where it is refused
--   next-solver, next-blinder, next-right                               the step that is due, by the record's end
--   drop-solver, drop-blinder, drop-right                               the drop
use mathlib.Core.Path.{◌≡◌}
use mathlib.Core.Bool.{cond}
use mathlib.Core.List.{List}
use Prim.Native.Nat.{ℕ, ◌*◌}
use lib.Dec.{eqb}
use lib.ListN.{length, take, drop}
use borrow.Author.Tests.{eq-eqb, ne_eqb}
use Rattle.protocol.specs.declared.Terms.{Terms}
use Rattle.protocol.specs.declared.Refusal.TheVariants.{Size}
use Rattle.protocol.specs.Judge.{refused}
use Rattle.protocol.specs.Tape.{Slot}
use Rattle.protocol.specs.Message.{Message}
use Rattle.protocol.specs.Product.{no_right, right_first, left_step, right_last}
use Rattle.protocol.specs.System.{no_solver, no_blinder, solver_first, blinder_first, solver_second, blinder_second, solver_ending}
use Rattle.protocol.specs.Drop.{drop_right, drop_solver, drop_blinder}
use Rattle.entry.specs.declared.Session.{Session}
use Rattle.entry.specs.Record.{LEFT, RIGHT, BLINDER, SOLVER, right_of, solver_of, blinder_of, of_left, of_right, of_solver, of_blinder}
use Rattle.entry.specs.Steps.{recorded, first_step, blinder_ending, next_step, drop_step}
use Rattle.local.specs.Settled.{unopened}

module _ {end : ℕ} (t : Terms) (s : Slot) (scratch input words : List ℕ) (a : Message) (room share : ℕ) where
  pub first-left : end ≡ LEFT
      → first_step end t s scratch input words a room share ≡ recorded (λ _. of_left t) (left_step t s input words a room share)
  unfolding first_step
  first-left h = rw h

  pub first-right : end ≡ RIGHT → first_step end t s scratch input words a room share ≡ recorded of_right (right_first t s input room)
  unfolding first_step
  first-right h = rw h

  pub first-blinder : end ≡ BLINDER → first_step end t s scratch input words a room share
      ≡ recorded of_blinder (blinder_first t s (length scratch) (take (t.m * t.m) input) (drop (t.m * t.m) input) words a room)
  unfolding first_step
  first-blinder h = rw h

  pub first-solver : end ≡ SOLVER → first_step end t s scratch input words a room share
      ≡ recorded of_solver (solver_first t s (take (t.m * t.m) input) (drop (t.m * t.m) input) room)
  unfolding first_step
  first-solver h = rw h

  pub first-other : (end ≡ LEFT → ⊥) → (end ≡ RIGHT → ⊥) → (end ≡ BLINDER → ⊥) → (end ≡ SOLVER → ⊥)
      → first_step end t s scratch input words a room share ≡ refused Size
  unfolding first_step
  first-other l r b o =
      rw (
        ne_eqb end LEFT l,
        ne_eqb end RIGHT r,
        ne_eqb end BLINDER b,
        ne_eqb end SOLVER o,
      )

-- the record of a first step that is refused
module _ {end : ℕ} (t : Terms) where
  pub unopened-left : end ≡ LEFT → unopened end t ≡ of_left t
  unfolding unopened
  unopened-left h = rw h

  pub unopened-right : end ≡ RIGHT → unopened end t ≡ of_right no_right
  unfolding unopened
  unopened-right h = rw h

  pub unopened-blinder : end ≡ BLINDER → unopened end t ≡ of_blinder no_blinder
  unfolding unopened
  unopened-blinder h = rw h

  pub unopened-solver : end ≡ SOLVER → unopened end t ≡ of_solver no_solver
  unfolding unopened
  unopened-solver h = rw h

  pub unopened-other : (end ≡ RIGHT → ⊥) → (end ≡ BLINDER → ⊥) → (end ≡ SOLVER → ⊥) → unopened end t ≡ of_left t
  unfolding unopened
  unopened-other r b o = rw (ne_eqb end RIGHT r, ne_eqb end BLINDER b, ne_eqb end SOLVER o)

module _ (x : Session) (s : Slot) (scratch : List ℕ) where
  module _ (a : Message) (room share : ℕ) where
    pub next-solver : x.end ≡ SOLVER → next_step x s scratch a room share
        ≡ recorded of_solver (cond (eqb x.due 2) (solver_second (solver_of x) s a room) (solver_ending (solver_of x) s a room))
    unfolding next_step
    next-solver e = rw (eq-eqb x.end SOLVER e)

    pub next-blinder : (x.end ≡ SOLVER → ⊥) → x.end ≡ BLINDER → next_step x s scratch a room share
        ≡ recorded of_blinder (cond (eqb x.due 3) (blinder_second (blinder_of x) s scratch a room) (blinder_ending (blinder_of x) s scratch a share))
    unfolding next_step
    next-blinder h e = rw (ne_eqb x.end SOLVER h, eq-eqb x.end BLINDER e)

    pub next-right : (x.end ≡ SOLVER → ⊥) → (x.end ≡ BLINDER → ⊥) → next_step x s scratch a room share ≡ recorded of_right (right_last (right_of x) s a share)
    unfolding next_step
    next-right h k = rw (ne_eqb x.end SOLVER h, ne_eqb x.end BLINDER k)

  pub drop-solver : x.end ≡ SOLVER → drop_step x s scratch ≡ recorded of_solver (drop_solver (solver_of x) s)
  unfolding drop_step
  drop-solver e = rw (eq-eqb x.end SOLVER e)

  pub drop-blinder : (x.end ≡ SOLVER → ⊥) → x.end ≡ BLINDER → drop_step x s scratch ≡ recorded of_blinder (drop_blinder (blinder_of x) s scratch)
  unfolding drop_step
  drop-blinder h e = rw (ne_eqb x.end SOLVER h, eq-eqb x.end BLINDER e)

  pub drop-right : (x.end ≡ SOLVER → ⊥) → (x.end ≡ BLINDER → ⊥) → drop_step x s scratch ≡ recorded of_right (drop_right (right_of x) s)
  unfolding drop_step
  drop-right h k = rw (ne_eqb x.end SOLVER h, ne_eqb x.end BLINDER k)
