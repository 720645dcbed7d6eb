-- The ends as the code names them, their numbers and their sorts; `joint`, where a message and a session have one modulus. Assumes nothing.
use Rattle.std.specs.Prelude.{◌≡◌, ◌≢◌, ℕ, Result, MatchResult}
use Rattle.protocol.specs.Bounds.{Sort, product, system}
use Rattle.protocol.specs.Tape.{Role, left, right, blinder, solver, sort_of}
use Rattle.entry.specs.Record.{LEFT, RIGHT, BLINDER, SOLVER}
use Rattle.tape.specs.declared.End.{End}
use Rattle.tape.specs.declared.End.TheVariants.{Left, Right, Blinder, Solver}
use Rattle.tape.specs.declared.NoEnd.{NoEnd}

abbrev pub role : End → Role
role Left = left
role Right = right
role Blinder = blinder
role Solver = solver

-- an end's number (RULES 11.1)
abbrev pub number : End → ℕ
number Left = LEFT
number Right = RIGHT
number Blinder = BLINDER
number Solver = SOLVER

-- the result is the end with this number, or an error with the number where no end has it
abbrev pub Numbered : ℕ → Result End NoEnd → Type 0
Numbered n r = MatchResult r (λ end. number end ≡ n) (λ e. (e.0 ≡ n) × ((end : End) → number end ≢ n))

-- the sort of session that the end belongs to
abbrev pub sort : End → Sort
sort end = sort_of (role end)

-- the sort that a modulus of both has to fit
abbrev pub joint : Sort → Sort → Sort
joint product s = s
joint system s = system
