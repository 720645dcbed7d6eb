-- Two determinant sessions on tapes dealt at the same place, computed: the joint table 3 of RULES 9.3, and a singular one, which answers 0 and is not
-- refused. Last steps and messages of a system are refused on them. Assumes nothing.
--   all-answers                         what every call answers
--   determinant-here, singular-here     demand 2: the answers 3 and 0 are the determinants of L + M
--   counted-once, ranked                demand 3: one completion for the determinant seen and none for another; as many for sums of one rank
use mathlib.Core.Path.{◌≡◌, refl, sym, ap, ap₂, ◌∙◌, subst}
use mathlib.Core.Logic.{◌≢◌}
use mathlib.Core.Bool.{true}
use mathlib.Core.List.{List, [], ◌∷◌}
use Prim.Native.Nat.{ℕ, zero, suc}
use native.Mathlib.Omega.{arith}
use lib.ListN.{length, get_or}
use Rattle.algebra.specs.Count.{eq_list, sum_lists, count, count_parts}
use Rattle.algebra.specs.Inverse.{id_mat, are_inverse, has_inverse}
use Rattle.determinant.specs.Rank.{diagonal, diagonal_mat, has_rank, rank_to, rank}
use Rattle.protocol.specs.declared.Terms.{Terms}
use Rattle.protocol.specs.Message.{is_determinant}
use Rattle.protocol.specs.Tape.{blinder, solver}
use Rattle.protocol.specs.Deal.{Request, system_request}
use Rattle.protocol.specs.Completion.{completions, Counted, answer_for, answer_seen, joint_matrix}
use Rattle.history.specs.Ends.{solver-first, blinder-first, solver-second, blinder-second, solver-last, blinder-last, solver-determinant, blinder-determinant}
use Rattle.history.specs.Log.{first, second, Call, dealing, beginning, continuing, World, run, Premises}
use Rattle.history.specs.Seen.{view, as-answered}
use Rattle.history.specs.Claim.{Demand3}
use Rattle.history.specs.Right.{result, JointDeterminant, Demand2}
use Rattle.history.proofs.Demand.{demand-3}
use Rattle.history.proofs.Rightness.{demand-2}
use Rattle.history_examples.proofs.Computing.{list-rules}
use Rattle.history_examples.proofs.Example.{slot-size, sizes, start, lent, msg, answers, distinct, own, other-role, NoBlinder, no-session, three-slots, finished-by, Ends-here, paired, arrived}

-- one row and one column, and no right-hand side
abbrev terms : (tape : ℕ) → Terms
terms i = record { session = record { 0 = 9 }; tape = record { 0 = i }; q = 5; m = 1; k = 1; p = 1 }

-- X0 1, Y0 4, A0 0, Q 3, R 2, G 1
abbrev a-determinant : (tape : ℕ) → Request
a-determinant i = system_request (record { 0 = i }) 5 1 1 (1 ∷ 4 ∷ 0 ∷ 3 ∷ 2 ∷ 1 ∷ [])

-- newest first. L 2 and M 1, P 2, U0 1: the solver is session 0 of the first party, the blinder session 1 of the second, on scratch 3
abbrev opening : List Call
opening =
    beginning first 1 0 (terms 5) (solver-first (2 ∷ []) [] 1)
    ∷ dealing second slot-size 1 (a-determinant 5)
    ∷ []

abbrev regular-run : List Call
regular-run =
    continuing second 1 3 1 (blinder-determinant (msg 6 (terms 5) (3 ∷ [])) 1)
    ∷ continuing second 1 3 1 (blinder-determinant (msg 6 (terms 5) (3 ∷ [])) 0)
    ∷ continuing second 1 3 1 (blinder-determinant (msg 5 (terms 5) []) 1)
    ∷ continuing first 1 0 0 (solver-determinant (msg 4 (terms 5) (1 ∷ [])) 1)
    ∷ continuing first 1 0 0 (solver-last (msg 4 (terms 5) (1 ∷ [])) 1)
    ∷ continuing second 1 3 1 (blinder-second (msg 3 (terms 5) (4 ∷ [])) 1)
    ∷ continuing first 1 0 0 (solver-second (msg 2 (terms 5) (3 ∷ 0 ∷ [])) 1)
    ∷ beginning second 1 3 (terms 5) (blinder-first (1 ∷ []) [] (2 ∷ 1 ∷ []) (msg 1 (terms 5) (3 ∷ [])) 2)
    ∷ opening

-- L 2 and M 3 at the same place, the halves the other way round: sessions 2 and 3
abbrev again : List Call
again =
    beginning second 1 0 (terms 7) (solver-first (2 ∷ []) [] 1)
    ∷ dealing first slot-size 1 (a-determinant 7)
    ∷ regular-run

abbrev calls : List Call
calls =
    continuing first 1 3 3 (blinder-determinant (msg 6 (terms 7) (0 ∷ [])) 1)
    ∷ continuing first 1 3 3 (blinder-last (msg 6 (terms 7) (0 ∷ [])) 1)
    ∷ continuing second 1 0 2 (solver-determinant (msg 4 (terms 7) (3 ∷ [])) 1)
    ∷ continuing first 1 3 3 (blinder-second (msg 3 (terms 7) (4 ∷ [])) 1)
    ∷ continuing second 1 0 2 (solver-second (msg 2 (terms 7) (3 ∷ 0 ∷ [])) 1)
    ∷ beginning first 1 3 (terms 7) (blinder-first (3 ∷ []) [] (2 ∷ 1 ∷ []) (msg 1 (terms 7) (3 ∷ [])) 2)
    ∷ again

abbrev end : World
end = run sizes start lent calls

pub all-answers : answers calls ≡ 0 ∷ 5 ∷ 0 ∷ 0 ∷ 0 ∷ 0 ∷ 0 ∷ 0 ∷ 0 ∷ 4 ∷ 4 ∷ 0 ∷ 5 ∷ 0 ∷ 0 ∷ 0 ∷ 0 ∷ 0 ∷ []
unfolding list-rules
all-answers = refl

-- ---- the premises

calm-first : (n : ℕ) → NoBlinder ((run sizes start lent opening).state.sessions n)
unfolding list-rules
calm-first zero d r = other-role r (λ e. cc)
calm-first (suc n) d r = no-session opening 1 (suc n) refl (omega arith) d r

calm-again : (n : ℕ) → NoBlinder ((run sizes start lent again).state.sessions n)
unfolding list-rules
calm-again zero d r = omega (arith, d)
calm-again (suc zero) d r = omega (arith, d)
calm-again (suc (suc zero)) d r = other-role r (λ e. cc)
calm-again (suc (suc (suc n))) d r = no-session again 3 (suc (suc (suc n))) refl (omega arith) d r

premises : Premises sizes end.log
unfolding list-rules
premises = (
  distinct end.log refl,
  (
    record { own-half = own first blinder refl; own-scratch = λ e. refl },
    (
      record { own-half = own second solver refl; own-scratch = λ e. other-role e (λ e. cc) },
      (
        record { own-half = own first blinder refl; own-scratch = λ e. refl },
        (
          record { own-half = own second solver refl; own-scratch = λ e. other-role e (λ e. cc) },
          (
            record { own-half = own first blinder refl; own-scratch = λ e n d r. absurd (calm-again n d r) },
            (
              record { own-half = own second solver refl; own-scratch = λ e. other-role e (λ e. cc) },
              (
                (λ w. refl),
                (
                  record { own-half = own second blinder refl; own-scratch = λ e. refl },
                  (
                    record { own-half = own first solver refl; own-scratch = λ e. other-role e (λ e. cc) },
                    (
                      record { own-half = own second blinder refl; own-scratch = λ e. refl },
                      (
                        record { own-half = own first solver refl; own-scratch = λ e. other-role e (λ e. cc) },
                        (
                          record { own-half = own second blinder refl; own-scratch = λ e n d r. absurd (calm-first n d r) },
                          (
                            record { own-half = own first solver refl; own-scratch = λ e. other-role e (λ e. cc) },
                            ((λ w. refl), tt),
                          ),
                        ),
                      ),
                    ),
                  ),
                ),
              ),
            ),
          ),
        ),
      ),
    ),
  ),
)

-- ---- demand 2

pub right-here : Demand2 sizes end
right-here = demand-2 sizes start lent three-slots calls premises

regular-met : Ends-here end blinder 1 0 5 ((3 ∷ []) ∷ (4 ∷ []) ∷ (3 ∷ []) ∷ []) ((3 ∷ []) ∷ (4 ∷ []) ∷ (3 ∷ []) ∷ [])
    ((3 ∷ 0 ∷ []) ∷ (1 ∷ []) ∷ []) ((3 ∷ 0 ∷ []) ∷ (1 ∷ []) ∷ [])
unfolding list-rules
regular-met = (refl, refl, refl, refl, refl, refl, refl, refl, refl, refl)

singular-met : Ends-here end blinder 3 2 7 ((3 ∷ []) ∷ (4 ∷ []) ∷ (0 ∷ []) ∷ []) ((3 ∷ []) ∷ (4 ∷ []) ∷ (0 ∷ []) ∷ [])
    ((3 ∷ 0 ∷ []) ∷ (3 ∷ []) ∷ []) ((3 ∷ 0 ∷ []) ∷ (3 ∷ []) ∷ [])
unfolding list-rules
singular-met = (refl, refl, refl, refl, refl, refl, refl, refl, refl, refl)

gave : (result end.log 1 ≡ 3 ∷ []) × (result end.log 3 ≡ 0 ∷ [])
    × (is_determinant (view end.log 1).terms ≡ true) × (is_determinant (view end.log 3).terms ≡ true) × (is_determinant (view end.log 0).terms ≡ true)
unfolding list-rules
gave = (refl, refl, refl, refl, refl)

-- the answer 3 is the determinant of 2 + 1, and 0 that of 2 + 3
pub determinant-here : JointDeterminant (view end.log 1) (view end.log 0) (3 ∷ [])
determinant-here = subst (JointDeterminant (view end.log 1) (view end.log 0)) gave.0
    (right-here.determinant 1 0 (paired end blinder 1 0 5 _ _ _ _ regular-met) gave.2 (arrived end blinder 1 0 5 _ _ regular-met refl refl))

pub singular-here : JointDeterminant (view end.log 3) (view end.log 2) (0 ∷ [])
singular-here = subst (JointDeterminant (view end.log 3) (view end.log 2)) gave.1
    (right-here.determinant 3 2 (paired end blinder 3 2 7 _ _ _ _ singular-met) gave.3 (arrived end blinder 3 2 7 _ _ singular-met refl refl))

-- ---- demand 3

pub of-this-list : Demand3 sizes start lent calls end
of-this-list = demand-3 sizes start lent three-slots calls premises

-- L 2 and L 3 of the solver, M 1 and M 2 of the blinder
counted : Counted (view end.log 1) ((2 ∷ []) ∷ [] ∷ []) × Counted (view end.log 1) ((3 ∷ []) ∷ [] ∷ [])
    × Counted (view end.log 0) ((1 ∷ []) ∷ [] ∷ []) × Counted (view end.log 0) ((2 ∷ []) ∷ [] ∷ [])
unfolding list-rules
counted = (record { taken = refl; sum = refl }, record { taken = refl; sum = refl }, record { taken = refl; sum = refl }, record { taken = refl; sum = refl })

-- with L 2 the determinant is the 3 seen, and with L 3 it is 4
seen : (answer_for (view end.log 1) ((2 ∷ []) ∷ [] ∷ []) ≡ answer_seen (view end.log 1)) × (answer_for (view end.log 1) ((3 ∷ []) ∷ [] ∷ []) ≡ 4 ∷ [])
    × (answer_seen (view end.log 1) ≡ 3 ∷ [])
unfolding list-rules
seen = (refl, refl, refl)

three≢four : ◌≢◌ {A = List ℕ} (4 ∷ []) (3 ∷ [])
three≢four e = omega (arith, ap (λ (l : List ℕ). get_or l 0 0) e)

pub counted-once : (completions (view end.log 1) ((2 ∷ []) ∷ [] ∷ []) ≡ 1) × (completions (view end.log 1) ((3 ∷ []) ∷ [] ∷ []) ≡ 0)
counted-once =
    let s = of-this-list.secret 1 regular-met.0 (view end.log 1) as-answered in
    let f = finished-by (view end.log 1) blinder 3 regular-met.2 (ap length regular-met.6) refl in (
      s.finished-blinder regular-met.2 f ((2 ∷ []) ∷ [] ∷ []) counted.0 seen.0,
      s.other-answer regular-met.2 f ((3 ∷ []) ∷ [] ∷ []) counted.1 (λ e. three≢four (sym seen.1 ∙ e ∙ seen.2)),
    )

-- the sums 2 + 1 and 2 + 2 have the rank 1
ranks : rank 5 1 (3 ∷ []) ≡ rank 5 1 (4 ∷ [])
unfolding list-rules rank rank_to has_rank diagonal_mat diagonal count_parts count sum_lists has_inverse are_inverse id_mat eq_list
ranks = refl

sums : ((view end.log 0).terms ≡ terms 5) × (joint_matrix (view end.log 0) ((1 ∷ []) ∷ [] ∷ []) ≡ 3 ∷ [])
    × (joint_matrix (view end.log 0) ((2 ∷ []) ∷ [] ∷ []) ≡ 4 ∷ [])
unfolding list-rules
sums = (refl, refl, refl)

one_rank : rank (view end.log 0).terms.q (view end.log 0).terms.m (joint_matrix (view end.log 0) ((1 ∷ []) ∷ [] ∷ []))
    ≡ rank (view end.log 0).terms.q (view end.log 0).terms.m (joint_matrix (view end.log 0) ((2 ∷ []) ∷ [] ∷ []))
one_rank =
    ap₂ (λ (t : Terms) (a : List ℕ). rank t.q t.m a) sums.0 sums.1
    ∙ ranks
    ∙ sym (ap₂ (λ (t : Terms) (a : List ℕ). rank t.q t.m a) sums.0 sums.2)

pub ranked : completions (view end.log 0) ((1 ∷ []) ∷ [] ∷ []) ≡ completions (view end.log 0) ((2 ∷ []) ∷ [] ∷ [])
ranked =
    (of-this-list.secret 0 regular-met.1 (view end.log 0) as-answered).same_rank regular-met.3 gave.4
    (finished-by (view end.log 0) solver 2 regular-met.3 (ap length regular-met.8) refl)
    ((1 ∷ []) ∷ [] ∷ []) ((2 ∷ []) ∷ [] ∷ []) counted.2 counted.3 one_rank
