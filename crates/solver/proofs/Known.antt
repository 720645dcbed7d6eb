-- What is known where tests passed.
--   Few, few, one_side                       the sides in numbers, and a system's one column of right-hand sides
--   inputs-known, arriving-known             before the last phase of a check
--   first-known, second-known                an accepted step
--   last-known, determinant-known            an accepted last step
--   second-counts, last-terms, last-placed, last-count   what its writers ask for
--   kept-length, len-le                      the length of what a session keeps
-- Assumes nothing.
use mathlib.Core.Path.{◌≡◌, sym, ap, ◌∙◌}
use mathlib.Core.Bool.{true}
use mathlib.Core.List.{List, map, ◌++◌}
use Prim.Native.Nat.{ℕ, ◌+◌, ◌-◌, ◌*◌, ◌≤◌, ◌<◌}
use native.Mathlib.Nat.{mul-le-mul}
use native.Mathlib.Omega.{arith}
use lib.ListN.{length, length-map}
use Rattle.algebra.specs.Matrix.{Residues}
use Rattle.protocol.specs.declared.Terms.{Terms}
use Rattle.protocol.specs.declared.SolverSession.{SolverSession}
use Rattle.protocol.specs.Judge.{Test, done}
use Rattle.protocol.specs.Bounds.{sides_fit, system, columns, input_tests, room_tests}
use Rattle.protocol.specs.Tape.{Slot, solver}
use Rattle.protocol.specs.Message.{Message, last_kind, message_size, message_tests, due_tests}
use Rattle.protocol.specs.Step.{first_tests, later_tests}
use Rattle.protocol.specs.System.{side_size, solver_first_effect, solver_first_tests, solver_first, solver_second_effect, solver_second_tests, solver_second}
use Rattle.protocol.specs.System.{solver_last_effect, solver_last_tests, solver_last, solver_determinant_effect, solver_determinant_tests, solver_determinant}
use Rattle.protocol.proofs.Judge.{Pass, split, all_split, passed}
use Rattle.protocol.proofs.Tests.{TermsFit, FirstFits, first-tests, later-tests, input-tests}
use Rattle.protocol.proofs.StepTests.{SolverFirstFits, solver-first, SolverFits, solver-second, SolverLastFits, solver-last, solver-determinant}
use Rattle.judging.specs.InOrder.{judged}
use Rattle.judging.proofs.InOrder.{accepted-by}
use Rattle.judging.proofs.KindLaws.{size-2, size-3, size-4, last-system}
use Rattle.judging.proofs.Fits.{open-placed}
use Rattle.tape.specs.Placed.{Placed}
use Rattle.tape.proofs.Sides.{unknowns, one-column}
use Rattle.solver.specs.Groups.{arriving}

-- ---- the sides

pub record Few (t : Terms) : Type 0 where
  pub some : 0 < t.m
  pub few : t.m ≤ 16
  pub square : t.k ≡ t.m
  pub least : t.m ≤ t.p
  pub mm : t.m * t.m ≤ 256
  pub mp : t.m * t.p ≤ 272
  pub mk-is : t.m * t.k ≡ t.m * t.m
  pub kp-is : t.k * t.p ≡ t.m * t.p
  pub side-few : side_size t ≤ 16
  pub whole : t.m + columns t.m t.p ≡ t.p

pub few : (t : Terms) → sides_fit system t.m t.k t.p ≡ true → Few t
unfolding columns side_size
few t e =
    let u = unknowns t.m t.k t.p e in
    let p17 : t.p ≤ 17 = omega (arith, u.few, u.most) in
    let most : t.p - t.m ≤ 1 = omega (arith, u.most) in
    record {
      some = u.some;
      few = u.few;
      square = u.square;
      least = u.least;
      mm = mul-le-mul {n₁ = t.m} {m₁ = t.m} {n₂ = 16} {m₂ = 16} u.few u.few;
      mp = mul-le-mul {n₁ = t.m} {m₁ = t.p} {n₂ = 16} {m₂ = 17} u.few p17;
      mk-is = ap (λ (x : ℕ). t.m * x) u.square;
      kp-is = ap (λ (x : ℕ). x * t.p) u.square;
      side-few = mul-le-mul {n₁ = t.m} {m₁ = t.p - t.m} {n₂ = 16} {m₂ = 1} u.few most;
      whole = omega (arith, u.least);
    }

pub one_side : (t : Terms) → sides_fit system t.m t.k t.p ≡ true → last_kind t.m t.p ≡ 5 → side_size t ≡ t.m
unfolding columns side_size
one_side t e l =
    let wide = one-column t.m t.k t.p e (last-system t.m t.p l) in
    let one : t.p - t.m ≡ 1 = omega arith in
    ap (λ (x : ℕ). t.m * x) one ∙ omega arith

-- ---- before the last phase of a check

pass_of : (ts : List Test) → judged ts ≡ done tt → Pass ts
pass_of ts e = record { all = (passed ts e).0 }

pub inputs-known : (t : Terms) (s : Slot) (l x : List ℕ) (room : ℕ)
    → judged (first_tests solver t s ++ input_tests t.q (t.m * t.m) l ++ input_tests t.q (side_size t) x ++ room_tests (message_size 1 t) room) ≡ done tt
    → FirstFits solver t s × Residues t.q (t.m * t.m) l
inputs-known t s l x room e =
    let (h1, in-room) = split (pass_of _ e) in
    let (h2, in-x) = split h1 in
    let (in-first, in-l) = split h2 in
    ((first-tests solver t s).0 in-first, (input-tests _ _ _).0 in-l)

second-passed : (ts us vs ws : List Test) → judged ((ts ++ (us ++ vs)) ++ ws) ≡ done tt → Pass us
second-passed ts us vs ws e =
    let h = (all_split (ts ++ (us ++ vs)) ws (passed ((ts ++ (us ++ vs)) ++ ws) e).0).0 in
    record { all = (all_split us vs (all_split ts (us ++ vs) h).1).0 }

pub arriving-known : (kind sends : ℕ) (x : SolverSession) (s : Slot) (a : Message) (room : ℕ) → judged (arriving kind sends x s a room) ≡ done tt
    → sides_fit system x.terms.m x.terms.k x.terms.p ≡ true
unfolding arriving
arriving-known kind sends x s a room e =
    let in-later = second-passed (message_tests a) (later_tests solver kind x.due x.terms s) (due_tests kind x.terms a) _ e in
    ((later-tests solver kind x.due x.terms s).0 in-later).session-open.terms.sides

-- ---- an accepted step

pub first-known : (t : Terms) (s : Slot) (l x : List ℕ) (room : ℕ) → judged (solver_first_tests t s l x room) ≡ done tt → SolverFirstFits t s l x room
unfolding solver_first
first-known t s l x room h = ((solver-first t s l x room).means (accepted-by (solver_first_tests t s l x room) (solver_first_effect t s l x) h)).0

module _ (x : SolverSession) (s : Slot) (a : Message) (room : ℕ) where
  pub second-known : judged (solver_second_tests x s a room) ≡ done tt → SolverFits 2 x s a (message_size 3 x.terms) room
  unfolding solver_second
  second-known h = ((solver-second x s a room).means (accepted-by (solver_second_tests x s a room) (solver_second_effect x s a) h)).0

  pub last-known : judged (solver_last_tests x s a room) ≡ done tt → SolverLastFits 5 x s a (message_size 5 x.terms) room
  unfolding solver_last
  last-known h = ((solver-last x s a room).means (accepted-by (solver_last_tests x s a room) (solver_last_effect x s a) h)).0

  pub determinant-known : judged (solver_determinant_tests x s a room) ≡ done tt → SolverLastFits 6 x s a (message_size 6 x.terms) room
  unfolding solver_determinant
  determinant-known h = ((solver-determinant x s a room).means (accepted-by (solver_determinant_tests x s a room) (solver_determinant_effect x s a) h)).0

  -- X1 and R1, F's room
  pub second-counts : SolverFits 2 x s a (message_size 3 x.terms) room
      → (length a.residues ≡ x.terms.m * x.terms.k + x.terms.m * x.terms.p) × (x.terms.m * x.terms.k ≤ room)
  second-counts f = (f.message.residues.size ∙ sym (size-2 x.terms), omega (arith, f.message-room, size-3 x.terms))

-- either last step: its terms, its half's place, and how many residues W and c have
module _ {kind size room : ℕ} {x : SolverSession} {s : Slot} {a : Message} (f : SolverLastFits kind x s a size room) where
  pub last-terms : TermsFit system x.terms
  last-terms = f.fits.later.session-open.terms

  pub last-placed : Placed solver x.terms s
  last-placed = open-placed solver x.terms s f.fits.later.session-open

  pub last-count : length a.residues ≡ x.terms.m * x.terms.k + side_size x.terms
  unfolding side_size
  last-count = f.fits.message.residues.size ∙ sym (size-4 x.terms)

-- a session's array, whose model is its list, mapped
pub kept-length : (l : List ℕ) → length (map (λ (x : ℕ). x) l) ≡ 16 → length l ≡ 16
kept-length l e = sym (length-map l (λ (x : ℕ). x)) ∙ e

pub len-le : {n k : ℕ} → n ≡ k → k ≤ n
len-le e = omega arith
