-- How many completions the views of the interleaved list have, as numbers, for the other end's own input and for others. The finished views of right and of the
-- blinder have one: proofs/Example, `counted-once`.
--   right-waits, solver-waits          before message 2: 1000000 and 2000
--   blinder-after-1, blinder-after-3   5, and then 1
--   solver-after-2, solver-ended       16; at the end 1 for an input whose solution isn't 0, as the real one isn't, and 0 for another
-- Assumes nothing.
use mathlib.Core.Path.{◌≡◌, refl, sym, ap, ◌∙◌, subst}
use mathlib.Core.Bool.{true}
use mathlib.Core.List.{List, [], ◌∷◌}
use Prim.Native.Nat.{ℕ, ◌+◌, ◌*◌, ◌^◌}
use lib.ListN.{length}
use Rattle.algebra.specs.Count.{eq_list, sum_lists, count, count_parts}
use Rattle.algebra.specs.Inverse.{id_mat, are_inverse, has_inverse}
use Rattle.algebra.specs.Elimination.{inverse, solution, units}
use Rattle.algebra.specs.System.{sum_vector}
use Rattle.algebra.proofs.Pairs.{pair_test, pairs}
use Rattle.protocol.specs.declared.Terms.{Terms}
use Rattle.protocol.specs.Bounds.{columns}
use Rattle.protocol.specs.Tape.{Role, right, blinder, solver}
use Rattle.protocol.specs.Completion.{completions, Taken, joint_matrix}
use Rattle.protocol.proofs.CompletionNumbers.{Numbers, numbers, solved_matrix, solved_vector, joint_sides}
use Rattle.history.specs.Ends.{is_begun}
use Rattle.history.specs.Log.{Call, Premises}
use Rattle.history.specs.Seen.{view}
use Rattle.history.proofs.Known.{arises}
use Rattle.history.proofs.Stands.{known}
use Rattle.history_examples.proofs.Example.{sizes, start, lent, system-terms, three-slots}
use Rattle.history_examples.proofs.Interleaved.{ten-terms, answering, halfway, dropping, calls, after, premises, dropping-kept, halfway-kept, answering-kept}
use Rattle.history_examples.proofs.Computing.{list-rules}

-- ---- the views

-- a view of the list is one that protocol's counts are for
numbers-at : (cs : List Call) → Premises sizes (after cs).log → (n : ℕ) → is_begun ((after cs).state.sessions n) ≡ true → Numbers (view (after cs).log n)
numbers-at cs p n b = numbers (view (after cs).log n) (arises (known sizes start three-slots lent cs p n b))

-- a session of the list: begun, with this role and these terms, and so many messages received
abbrev Stage : (cs : List Call) (n : ℕ) → Role → Terms → (received : ℕ) → Type 0
Stage cs n role t k = (is_begun ((after cs).state.sessions n) ≡ true) × ((view (after cs).log n).role ≡ role) × ((view (after cs).log n).terms ≡ t)
    × (length (view (after cs).log n).received ≡ k)

-- right of the second product is session 2 and the solver session 1; the blinder is session 4
stages : Stage answering 2 right (ten-terms 3) 0 × Stage answering 1 solver (system-terms 2) 0 × Stage halfway 1 solver (system-terms 2) 1
    × Stage halfway 4 blinder (system-terms 2) 1
    × Stage dropping 4 blinder (system-terms 2) 2 × Stage calls 1 solver (system-terms 2) 2 × Stage calls 4 blinder (system-terms 2) 3
unfolding list-rules
stages = (
  (refl, refl, refl, refl),
  (refl, refl, refl, refl),
  (refl, refl, refl, refl),
  (refl, refl, refl, refl),
  (refl, refl, refl, refl),
  (refl, refl, refl, refl),
  (refl, refl, refl, refl),
)

-- the numbers 1 to 4 have an inverse modulo 5
four-units : units 5 1 ≡ 4
unfolding list-rules units count sum_lists
four-units = refl

-- inputs that the blinder's and the solver's first steps take: M 1, y 1 is the blinder's own, and L 2, x 3 the solver's
taken : Taken blinder (system-terms 2) ((1 ∷ []) ∷ (1 ∷ []) ∷ [])
    × Taken blinder (system-terms 2) ((2 ∷ []) ∷ (3 ∷ []) ∷ [])
    × Taken blinder (system-terms 2) ((1 ∷ []) ∷ (2 ∷ []) ∷ [])
    × Taken solver (system-terms 2) ((2 ∷ []) ∷ (3 ∷ []) ∷ []) × Taken solver (system-terms 2) ((4 ∷ []) ∷ (0 ∷ []) ∷ [])
unfolding list-rules
taken = (refl, refl, refl, refl, refl)

-- ---- unfinished

-- right before message 2, for any X: 10 ^ (2 + 4)
pub right-waits : (i : List (List ℕ)) → completions (view (after answering).log 2) i ≡ 1000000
right-waits i =
    let s = stages.0 in
    (numbers-at answering answering-kept 2 s.0).right-waits s.1 s.3 i ∙ ap (λ (t : Terms). t.q ^ (t.m * t.k + t.m * t.p)) s.2

-- the solver before message 2, for any M and y: 4 × 4 × 5 ^ (1 + 2)
pub solver-waits : (i : List (List ℕ)) → completions (view (after answering).log 1) i ≡ 2000
solver-waits i =
    let s = stages.1 in
    (numbers-at answering answering-kept 1 s.0).solver-waits s.1 s.3 i
    ∙ ap (λ (t : Terms). units t.q t.m * (units t.q t.m * t.q ^ (t.m * t.m + t.m * t.p))) s.2
    ∙ ap (λ (u : ℕ). u * (u * 5 ^ 3)) four-units

-- and after it: 4 × 4, for its own input of the blinder and for another
after-2 : (i : List (List ℕ)) → Taken blinder (system-terms 2) i → completions (view (after halfway).log 1) i ≡ 16
after-2 i ti =
    let s = stages.2 in
    (numbers-at halfway halfway-kept 1 s.0).solver-after-2 s.1 s.3 i (subst (λ (t : Terms). Taken blinder t i) (sym s.2) ti)
    ∙ ap (λ (t : Terms). units t.q t.m * units t.q t.m) s.2
    ∙ ap (λ (u : ℕ). u * u) four-units

pub solver-after-2 : (completions (view (after halfway).log 1) ((1 ∷ []) ∷ (1 ∷ []) ∷ []) ≡ 16)
    × (completions (view (after halfway).log 1) ((2 ∷ []) ∷ (3 ∷ []) ∷ []) ≡ 16)
solver-after-2 = (after-2 _ taken.0, after-2 _ taken.1)

-- the blinder after message 1: 5 ^ 1
after-1 : (i : List (List ℕ)) → Taken solver (system-terms 2) i → completions (view (after halfway).log 4) i ≡ 5
after-1 i ti =
    let s = stages.3 in
    (numbers-at halfway halfway-kept 4 s.0).blinder-after-1 s.1 s.3 i (subst (λ (t : Terms). Taken solver t i) (sym s.2) ti)
    ∙ ap (λ (t : Terms). t.q ^ (t.m * t.m)) s.2

pub blinder-after-1 : (completions (view (after halfway).log 4) ((2 ∷ []) ∷ (3 ∷ []) ∷ []) ≡ 5)
    × (completions (view (after halfway).log 4) ((4 ∷ []) ∷ (0 ∷ []) ∷ []) ≡ 5)
blinder-after-1 = (after-1 _ taken.3, after-1 _ taken.4)

-- and after message 3: one
after-3 : (i : List (List ℕ)) → Taken solver (system-terms 2) i → completions (view (after dropping).log 4) i ≡ 1
after-3 i ti =
    let s = stages.4 in
    (numbers-at dropping dropping-kept 4 s.0).blinder-after-3 s.1 s.3 i (subst (λ (t : Terms). Taken solver t i) (sym s.2) ti)

pub blinder-after-3 : (completions (view (after dropping).log 4) ((2 ∷ []) ∷ (3 ∷ []) ∷ []) ≡ 1)
    × (completions (view (after dropping).log 4) ((4 ∷ []) ∷ (0 ∷ []) ∷ []) ≡ 1)
blinder-after-3 = (after-3 _ taken.3, after-3 _ taken.4)

-- ---- finished

-- the pairs P, Q that give what the solver saw
abbrev pairs_for : List (List ℕ) → ℕ
pairs_for i =
    let v = view (after calls).log 1 in
    pairs v.terms.q v.terms.m (columns v.terms.m v.terms.p) (joint_matrix v i) (joint_sides v i) (solved_matrix v) (solved_vector v)

pairs-are : (pairs_for ((1 ∷ []) ∷ (1 ∷ []) ∷ []) ≡ 1) × (pairs_for ((2 ∷ []) ∷ (3 ∷ []) ∷ []) ≡ 1) × (pairs_for ((1 ∷ []) ∷ (2 ∷ []) ∷ []) ≡ 0)
unfolding list-rules units count sum_lists count_parts pairs pair_test eq_list id_mat are_inverse has_inverse sum_vector
pairs-are = (refl, refl, refl)

after-4 : (i : List (List ℕ)) → Taken blinder (system-terms 2) i → completions (view (after calls).log 1) i ≡ pairs_for i
after-4 i ti =
    let s = stages.5 in
    (numbers-at calls premises 1 s.0).solver-after-4 s.1 s.3 i (subst (λ (t : Terms). Taken blinder t i) (sym s.2) ti)

-- the solver at the end: z is 3. One for the blinder's own input and for M 2, y 3, whose z is 4; none for M 1, y 2, whose z is 0
pub solver-ended : (completions (view (after calls).log 1) ((1 ∷ []) ∷ (1 ∷ []) ∷ []) ≡ 1)
    × (completions (view (after calls).log 1) ((2 ∷ []) ∷ (3 ∷ []) ∷ []) ≡ 1)
    × (completions (view (after calls).log 1) ((1 ∷ []) ∷ (2 ∷ []) ∷ []) ≡ 0)
solver-ended = (after-4 _ taken.0 ∙ pairs-are.0, after-4 _ taken.1 ∙ pairs-are.1, after-4 _ taken.2 ∙ pairs-are.2)
