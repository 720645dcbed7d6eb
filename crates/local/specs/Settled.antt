-- How code sees by its answer that a call was done, and what a call's tests alone tell. Assumes nothing.
use Rattle.std.specs.Prelude.{Bool, true, false, cond, ℕ, eqb}
use Rattle.protocol.specs.declared.Terms.{Terms}
use Rattle.protocol.specs.Answer.{Answer}
use Rattle.std.specs.Prelude.{Ok, Err}
use Rattle.protocol.specs.declared.Refusal.{Refusal}
use Rattle.protocol.specs.Judge.{Judged, refused, done}
use Rattle.protocol.specs.Product.{no_right}
use Rattle.protocol.specs.System.{no_blinder, no_solver}
use Rattle.entry.specs.declared.Session.{Session}
use Rattle.entry.specs.Record.{RIGHT, BLINDER, SOLVER, of_left, of_right, of_solver, of_blinder}
use Rattle.protocol.specs.declared.Refusal.TheVariants.{Form, Modulus, Composite, Size, Turn, Mark, Stranger, Residue, Dry, Singular}

-- a call that is done is accepted
abbrev pub is_accepted : Answer → Bool
is_accepted (Ok n) = true
is_accepted (Err r) = false

abbrev pub is_singular : Refusal → Bool
is_singular Form = false
is_singular Modulus = false
is_singular Composite = false
is_singular Size = false
is_singular Turn = false
is_singular Mark = false
is_singular Stranger = false
is_singular Residue = false
is_singular Dry = false
is_singular Singular = true

-- a later step or a drop of the solver: one that answers a singular sum is done, too. At any other end, that is a refusal
abbrev pub is_settled : Answer → Bool
is_settled (Ok n) = true
is_settled (Err r) = is_singular r

-- `sums`: it is the solver's
abbrev pub is_done_by : (sums : Bool) → Answer → Bool
is_done_by sums a = cond sums (is_settled a) (is_accepted a)

-- whether a call is done, and the refusal if not: what its tests alone tell
abbrev pub judgement : {A : Type 0} → Judged A → Judged Unit
judgement (refused r) = refused r
judgement (done a) = done tt

-- the record that a first step answers with where it is refused: none that is open
unfoldable pub unopened : (end : ℕ) → Terms → Session
unopened end t = cond (eqb end RIGHT) (of_right no_right) (cond (eqb end BLINDER) (of_blinder no_blinder) (cond (eqb end SOLVER) (of_solver no_solver) (of_left t)))
