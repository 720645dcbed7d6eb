-- The four ends' sessions as one type, and all their steps and drops as functions into it: each runs the definition that the code's promises cite.
--   Session                   a session of any end, or none yet
--   First, Later, Step        first steps; later steps and drops; any of them
--   StepKind, row             which of the steps and drops it is, and the table of them: role, turn, messages
--   opening, going            each with what it is handed, and the definition that it runs
--   run_step                   a step or drop on a session, a slot and a scratch
-- Assumes nothing.
use Rattle.std.specs.Prelude.{Bool, true, false, List, [], ◌∷◌, ℕ, ◌*◌, length}
use Rattle.protocol.specs.declared.Terms.{Terms}
use Rattle.protocol.specs.declared.RightSession.{RightSession}
use Rattle.protocol.specs.declared.SolverSession.{SolverSession}
use Rattle.protocol.specs.declared.BlinderSession.{BlinderSession}
use Rattle.protocol.specs.Judge.{refused, done}
use Rattle.protocol.specs.Drawing.{drawn}
use Rattle.protocol.specs.Tape.{Slot, Role, left, right, blinder, solver}
use Rattle.protocol.specs.Message.{Message, no_terms, last_kind, message_size}
use Rattle.protocol.specs.Step.{Effect, Outcome}
use Rattle.protocol.specs.Product.{no_right, right_first, left_step, right_last}
use Rattle.protocol.specs.System.{no_solver, no_blinder, side_size, coins_of, solver_first, blinder_first, solver_second, blinder_second, solver_last, blinder_last, solver_determinant, blinder_determinant}
use Rattle.protocol.specs.Drop.{drop_right, drop_solver, drop_blinder}

-- ---- sessions

-- a session of any end, or none yet. Left's session begins and ends with its one step
pub data Session : Type 0 where
  absent : Session
  left_end : Terms → Session
  right_end : RightSession → Session
  solver_end : SolverSession → Session
  blinder_end : BlinderSession → Session

abbrev pub is_begun : Session → Bool
is_begun absent = false
is_begun (left_end t) = true
is_begun (right_end x) = true
is_begun (solver_end x) = true
is_begun (blinder_end x) = true

-- the kind of the message that is due, 0 where the session is closed
abbrev pub due_in : Session → ℕ
due_in absent = 0
due_in (left_end t) = 0
due_in (right_end x) = x.due
due_in (solver_end x) = x.due
due_in (blinder_end x) = x.due

abbrev pub terms_in : Session → Terms
terms_in absent = no_terms
terms_in (left_end t) = t
terms_in (right_end x) = x.terms
terms_in (solver_end x) = x.terms
terms_in (blinder_end x) = x.terms

abbrev pub role_in : Session → Role
role_in absent = left
role_in (left_end t) = left
role_in (right_end x) = right
role_in (solver_end x) = solver
role_in (blinder_end x) = blinder

-- an end's session, as its own steps take it. Another end's session doesn't fit their type: a closed one stands in for it
abbrev pub as_right : Session → RightSession
as_right absent = no_right
as_right (left_end t) = no_right
as_right (right_end x) = x
as_right (solver_end x) = no_right
as_right (blinder_end x) = no_right

abbrev pub as_solver : Session → SolverSession
as_solver absent = no_solver
as_solver (left_end t) = no_solver
as_solver (right_end x) = no_solver
as_solver (solver_end x) = x
as_solver (blinder_end x) = no_solver

abbrev pub as_blinder : Session → BlinderSession
as_blinder absent = no_blinder
as_blinder (left_end t) = no_blinder
as_blinder (right_end x) = no_blinder
as_blinder (solver_end x) = no_blinder
as_blinder (blinder_end x) = x

-- ---- steps

-- first steps, with what each is handed besides terms, slot and scratch
pub data First : Type 0 where
  right-first : (y : List ℕ) (room : ℕ) → First
  left-only : (x words : List ℕ) → Message → (room share_room : ℕ) → First
  solver-first : (l x : List ℕ) (room : ℕ) → First
  blinder-first : (mm y words : List ℕ) → Message → (room : ℕ) → First

-- later steps and drops, with what each is handed besides session, slot and scratch
pub data Later : Type 0 where
  right-last solver-second solver-last blinder-second blinder-last : Message → (room : ℕ) → Later
  solver-determinant blinder-determinant : Message → (room : ℕ) → Later
  right-drop solver-drop blinder-drop : Later

-- the same effect, with its session as one of any end
abbrev pub as_any : {S : Type 0} → (S → Session) → Effect S → Effect Session
as_any f e = record { answer = e.answer; session = f e.session; slot = e.slot; scratch = e.scratch; sent = e.sent; result = e.result }

abbrev pub of_any : {S : Type 0} → (S → Session) → Outcome S → Outcome Session
of_any f (refused r) = refused r
of_any f (done e) = done (as_any f e)

-- ---- the table of steps

-- which step or drop it is, by its constructor, whatever it is handed
pub data StepKind : Type 0 where
  first-right only-left first-solver first-blinder : StepKind
  last-right second-solver last-solver second-blinder last-blinder : StepKind
  determinant-solver determinant-blinder : StepKind
  drop-right drop-solver drop-blinder : StepKind
  deriving Discrete as kind-eq

-- a step begins a session, or is made while the session awaits its message; a drop is made at any turn
pub data Turn : Type 0 where
  opens awaits drops : Turn

-- what a step gives its caller: a share is left's or right's, and the solution or the determinant is the blinder's
pub data Result : Type 0 where
  no_result left-share right-share solution determinant : Result

-- the message that is due after a step: one of this kind, 0 where the step ends its session, or the solver's last one, which the terms tell
pub data Next : Type 0 where
  due : (kind : ℕ) → Next
  due-last : Next

abbrev pub next_kind : Next → Terms → ℕ
next_kind (due kind) t = kind
next_kind due-last t = last_kind t.m t.p

-- what each of them is. Messages by their kinds: the one that it takes, the one that it sends, and the one that is due after it
pub record Row : Type 0 where
  pub role : Role
  pub turn : Turn
  pub takes : ℕ
  pub sends : ℕ
  pub gives : Result
  pub next : Next

abbrev pub row : StepKind → Row
row first-right = record { role = right; turn = opens; takes = 0; sends = 1; gives = no_result; next = due 2 }
row only-left = record { role = left; turn = opens; takes = 1; sends = 2; gives = left-share; next = due 0 }
row first-solver = record { role = solver; turn = opens; takes = 0; sends = 1; gives = no_result; next = due 2 }
row first-blinder = record { role = blinder; turn = opens; takes = 1; sends = 2; gives = no_result; next = due 3 }
row last-right = record { role = right; turn = awaits; takes = 2; sends = 0; gives = right-share; next = due 0 }
row second-solver = record { role = solver; turn = awaits; takes = 2; sends = 3; gives = no_result; next = due 4 }
row last-solver = record { role = solver; turn = awaits; takes = 4; sends = 5; gives = no_result; next = due 0 }
row second-blinder = record { role = blinder; turn = awaits; takes = 3; sends = 4; gives = no_result; next = due-last }
row last-blinder = record { role = blinder; turn = awaits; takes = 5; sends = 0; gives = solution; next = due 0 }
row determinant-solver = record { role = solver; turn = awaits; takes = 4; sends = 6; gives = no_result; next = due 0 }
row determinant-blinder = record { role = blinder; turn = awaits; takes = 6; sends = 0; gives = determinant; next = due 0 }
row drop-right = record { role = right; turn = drops; takes = 0; sends = 0; gives = no_result; next = due 0 }
row drop-solver = record { role = solver; turn = drops; takes = 0; sends = 0; gives = no_result; next = due 0 }
row drop-blinder = record { role = blinder; turn = drops; takes = 0; sends = 0; gives = no_result; next = due 0 }

-- a first step with what it is handed: its input, the coins that it draws, its message if it takes one, and the definition that it runs.
-- `scratch`: what the caller lends; of no account but to a blinder
pub record Opening : Type 0 where
  pub kind : StepKind
  pub input : List (List ℕ)
  pub coins : Terms → List ℕ
  pub taken : List Message
  pub runs : Terms → Slot → (scratch : List ℕ) → Outcome Session

abbrev pub opening : First → Opening
opening (right-first y room) =
    record { kind = first-right; input = y ∷ []; coins = λ t. []; taken = []; runs = λ t s u. of_any right_end (right_first t s y room) }
opening (left-only x words a room share_room) = record {
  kind = only-left;
  input = x ∷ [];
  coins = λ t. drawn t.q (t.m * t.p) words;
  taken = a ∷ [];
  runs = λ t s u. of_any (λ z. left_end t) (left_step t s x words a room share_room);
}
opening (solver-first l x room) =
    record { kind = first-solver; input = l ∷ x ∷ []; coins = λ t. []; taken = []; runs = λ t s u. of_any solver_end (solver_first t s l x room) }
opening (blinder-first mm y words a room) = record {
  kind = first-blinder;
  input = mm ∷ y ∷ [];
  coins = λ t. coins_of t words;
  taken = a ∷ [];
  runs = λ t s u. of_any blinder_end (blinder_first t s (length u) mm y words a room);
}

-- a later step or a drop with what it is handed: its message, the words that it writes for its caller and the room for them, and the definition that it runs
pub record Going : Type 0 where
  pub kind : StepKind
  pub taken : List Message
  pub writes : Terms → ℕ
  pub room : ℕ
  pub runs : Session → Slot → (scratch : List ℕ) → Outcome Session

abbrev pub going : Later → Going
going (right-last a room) =
    record { kind = last-right; taken = a ∷ []; writes = λ t. t.m * t.p; room = room; runs = λ x s u. of_any right_end (right_last (as_right x) s a room) }
going (solver-second a room) =
    record { kind = second-solver; taken = a ∷ []; writes = message_size 3; room = room; runs = λ x s u. of_any solver_end (solver_second (as_solver x) s a room) }
going (solver-last a room) =
    record { kind = last-solver; taken = a ∷ []; writes = message_size 5; room = room; runs = λ x s u. of_any solver_end (solver_last (as_solver x) s a room) }
going (blinder-second a room) = record {
  kind = second-blinder;
  taken = a ∷ [];
  writes = message_size 4;
  room = room;
  runs = λ x s u. of_any blinder_end (blinder_second (as_blinder x) s u a room);
}
going (blinder-last a room) =
    record { kind = last-blinder; taken = a ∷ []; writes = side_size; room = room; runs = λ x s u. of_any blinder_end (blinder_last (as_blinder x) s u a room) }
going (solver-determinant a room) = record {
  kind = determinant-solver;
  taken = a ∷ [];
  writes = message_size 6;
  room = room;
  runs = λ x s u. of_any solver_end (solver_determinant (as_solver x) s a room);
}
going (blinder-determinant a room) = record {
  kind = determinant-blinder;
  taken = a ∷ [];
  writes = message_size 6;
  room = room;
  runs = λ x s u. of_any blinder_end (blinder_determinant (as_blinder x) s u a room);
}
going right-drop = record { kind = drop-right; taken = []; writes = λ t. 0; room = 0; runs = λ x s u. of_any right_end (drop_right (as_right x) s) }
going solver-drop = record { kind = drop-solver; taken = []; writes = λ t. 0; room = 0; runs = λ x s u. of_any solver_end (drop_solver (as_solver x) s) }
going blinder-drop = record { kind = drop-blinder; taken = []; writes = λ t. 0; room = 0; runs = λ x s u. of_any blinder_end (drop_blinder (as_blinder x) s u) }

-- ---- read off the table

abbrev pub kind_first : First → StepKind
kind_first k = (opening k).kind

abbrev pub kind_later : Later → StepKind
kind_later k = (going k).kind

abbrev pub role_first : First → Role
role_first k = (row (kind_first k)).role

abbrev pub role_later : Later → Role
role_later k = (row (kind_later k)).role

unfoldable pub run_first : Terms → First → Slot → (scratch : List ℕ) → Outcome Session
run_first t k s u = (opening k).runs t s u

unfoldable pub run_later : Later → Session → Slot → (scratch : List ℕ) → Outcome Session
run_later k x s u = (going k).runs x s u

-- a step or drop
pub data Step : Type 0 where
  begins : Terms → First → Step
  goes_on : Later → Step

abbrev pub kind_of : Step → StepKind
kind_of (begins t k) = kind_first k
kind_of (goes_on k) = kind_later k

abbrev pub role_of : Step → Role
role_of (begins t k) = role_first k
role_of (goes_on k) = role_later k

-- `x`: the session that the call is for; a first step makes a new one
abbrev pub run_step : Step → (x : Session) → Slot → (scratch : List ℕ) → Outcome Session
run_step (begins t k) x s u = run_first t k s u
run_step (goes_on k) x s u = run_later k x s u
