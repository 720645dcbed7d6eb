-- The inputs that are counted over are those that the first steps take: where a first step is accepted, its input is `Taken`. That `Taken` is enough, with all
-- else in order, is in CompletionProduct (`right-sends`, `left-sends`) and CompletionSystem (`solver-first`, `blinder-first`). Assumes nothing.
-- taken-by-right, taken-by-left, taken-by-solver, taken-by-blinder
use mathlib.Core.Path.{◌≡◌}
use mathlib.Core.Bool.{true}
use mathlib.Core.List.{List, [], ◌∷◌}
use Prim.Native.Nat.{ℕ, ◌*◌}
use Rattle.algebra.specs.Matrix.{Residues}
use Rattle.algebra.specs.Elimination.{regular}
use Rattle.protocol.specs.declared.Terms.{Terms}
use Rattle.protocol.specs.declared.RightSession.{RightSession}
use Rattle.protocol.specs.declared.SolverSession.{SolverSession}
use Rattle.protocol.specs.declared.BlinderSession.{BlinderSession}
use Rattle.protocol.specs.Judge.{done}
use Rattle.protocol.specs.Tape.{Slot, left, right, blinder, solver}
use Rattle.protocol.specs.Message.{Message}
use Rattle.protocol.specs.Step.{Effect}
use Rattle.protocol.specs.Product.{right_first, left_step}
use Rattle.protocol.specs.System.{side_size, regular_tests, solver_first, blinder_first}
use Rattle.protocol.specs.Completion.{pair_tests, taken_tests, Taken}
use Rattle.protocol.proofs.Judge.{Pass, ◌also◌, ◌next◌, nothing, accepts}
use Rattle.protocol.proofs.Residues.{residues-input}
use Rattle.protocol.proofs.Tests.{input-tests}
use Rattle.protocol.proofs.StepTests.{right-first, left_step_lem, solver-first, blinder-first}

pub taken-by-right : (t : Terms) (s : Slot) (y : List ℕ) (room : ℕ) {e : Effect RightSession} → right_first t s y room ≡ done e → Taken right t (y ∷ [])
taken-by-right t s y room h = accepts (taken_tests right t (y ∷ [])) tt (residues-input ((right-first t s y room).means h).0.y-fits)

pub taken-by-left : (t : Terms) (s : Slot) (x words : List ℕ) (a : Message) (room share_room : ℕ) {e : Effect Unit}
    → left_step t s x words a room share_room ≡ done e → Taken left t (x ∷ [])
taken-by-left t s x words a room share_room h =
    accepts (taken_tests left t (x ∷ [])) tt (residues-input ((left_step_lem t s x words a room share_room).means h).0.x_fits)

pair-taken : (t : Terms) (a b : List ℕ) → Residues t.q (t.m * t.m) a → Residues t.q (side_size t) b → regular t.q t.m a ≡ true → Taken solver t (a ∷ b ∷ [])
unfolding regular_tests
pair-taken t a b ra rb i =
    let c : Pass (regular_tests t.q t.m a) = i next nothing in
    accepts (pair_tests t (a ∷ b ∷ [])) tt ((input-tests t.q (t.m * t.m) a).1 ra also (input-tests t.q (side_size t) b).1 rb also c).all

pub taken-by-solver : (t : Terms) (s : Slot) (l x : List ℕ) (room : ℕ) {e : Effect SolverSession} → solver_first t s l x room ≡ done e → Taken solver t (l ∷ x ∷ [])
taken-by-solver t s l x room h = let f = ((solver-first t s l x room).means h).0 in pair-taken t l x f.l-fits f.x_fits f.l-regular

pub taken-by-blinder : (t : Terms) (s : Slot) (scratch_room : ℕ) (mm y words : List ℕ) (a : Message) (room : ℕ) {e : Effect BlinderSession}
    → blinder_first t s scratch_room mm y words a room ≡ done e → Taken blinder t (mm ∷ y ∷ [])
taken-by-blinder t s scratch_room mm y words a room h =
    let f = ((blinder-first t s scratch_room mm y words a room).means h).0 in pair-taken t mm y f.m-fits f.y-fits f.m-regular
