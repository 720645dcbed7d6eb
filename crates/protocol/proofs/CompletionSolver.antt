-- The completions of the solver's view of a finished session: as many for any two inputs of the blinder whose solutions are both zero or both not, or,
-- where the determinant is asked for, whose sums with the solver's have the same rank. Assumes nothing.
-- solver-ended    they are as many as the pairs P, Q of algebra's proofs/Pairs
-- solver-same     as many for two inputs of a system
-- solver-ranked   as many for two inputs of a determinant session
use mathlib.Core.Path.{◌≡◌, refl, sym, ap, ◌∙◌, subst}
use mathlib.Core.Bool.{Bool, true}
use mathlib.Core.Logic.{◌↔◌}
use mathlib.Core.List.{List, [], ◌∷◌}
use Prim.Native.Nat.{ℕ, zero, suc, ◌+◌, ◌*◌, ◌<◌}
use native.Mathlib.Omega.{arith}
use lib.ListN.{length, take}
use Rattle.algebra.specs.Matrix.{Residues, zeros, mat_add, mat_mul}
use Rattle.algebra.specs.Count.{both, parts, part, join}
use Rattle.algebra.specs.Columns.{beside}
use Rattle.algebra.specs.Inverse.{has_inverse}
use Rattle.algebra.specs.Prime.{Prime, is_prime}
use Rattle.algebra.specs.Elimination.{regular, solution}
use Rattle.algebra.specs.Product.{send_y, send_x, send_r}
use Rattle.algebra.specs.System.{solver_share, send_f, send_w, send_c, sum_matrix, sum_vector}
use Rattle.algebra.proofs.Views.{SolverView, gives_solver, solver_completions}
use Rattle.algebra.proofs.Lists.{add-residues, sub-residues}
use Rattle.algebra.proofs.Tests.{and_left, and_right, and_both, same_test}
use Rattle.algebra.proofs.Parts.{Fits, none, ◌then◌, parts_join}
use Rattle.algebra.proofs.Prime.{prime-test}
use Rattle.algebra.proofs.Elimination.{regular-inverse, solution-solves}
use Rattle.algebra.proofs.Inverse.{hq}
use Rattle.algebra.proofs.Solver.{HonestSolver, completions-are-pairs, solver-view}
use Rattle.algebra.proofs.Pairs.{pairs}
use Rattle.determinant.specs.Rank.{rank}
use Rattle.determinant.proofs.Solver.{solver-rank}
use Rattle.protocol.specs.declared.SessionId.{SessionId}
use Rattle.protocol.specs.declared.TapeId.{TapeId}
use Rattle.protocol.specs.declared.Terms.{Terms}
use Rattle.protocol.specs.Judge.{Judged}
use Rattle.protocol.specs.Drawing.{words_for}
use Rattle.protocol.specs.Bounds.{system, field_fits}
use Rattle.protocol.specs.Tape.{blinder, solver, layout}
use Rattle.protocol.specs.Deal.{Dealt}
use Rattle.protocol.specs.Message.{message_layout, message_size}
use Rattle.protocol.specs.System.{side_size}
use Rattle.protocol.specs.Completion.{dealing, dealt_slot, solver_messages, blinder_messages, eq_lists, dealt_together, is_completion, completions, Taken}
use Rattle.protocol.proofs.SystemEnds.{wide_terms, columns-are}
use Rattle.protocol.proofs.Tests.{TermsFit}
use Rattle.protocol.proofs.CompletionDealt.{solver-dealt, blinder-held}
use Rattle.protocol.proofs.CompletionLaws.{first_of, second-of, third_of, fourth-of, same_count, both-same, dealt-alone, message-fits, first-test, half_slot, view_of}
use Rattle.protocol.proofs.CompletionSystem.{taken-pair, solver-sends-two, blinder-sends-all}

-- the tests of the dealer's rules, P, X1, R1, W and c, in algebra's order
shuffle : (b v q p x1 r1 w c : Bool) → both (both q (both b v)) (both p (both (both x1 (both r1 true)) (both (both w (both c true)) true)))
    ≡ both b (both x1 (both r1 (both v (both w (both c (both p q))))))
shuffle b v q p x1 r1 w c = same_test _ _
    (λ e.
    let d = and_left _ _ e in
    let m = and_right _ _ (and_right _ _ e) in
    let f = and_left _ _ m in
    let g = and_left _ _ (and_right _ _ m) in
    and_both (and_left _ _ (and_right _ _ d)) (and_both (and_left _ _ f) (and_both (and_left _ _ (and_right _ _ f)) (and_both (and_right _ _ (and_right _ _ d))
    (and_both (and_left _ _ g) (and_both (and_left _ _ (and_right _ _ g)) (and_both (and_left _ _ (and_right _ _ e)) (and_left _ _ d))))))))
    (λ e.
    let e1 = and_right _ _ e in
    let e2 = and_right _ _ e1 in
    let e3 = and_right _ _ e2 in
    let e4 = and_right _ _ e3 in
    let e5 = and_right _ _ e4 in
    let e6 = and_right _ _ e5 in
    and_both (and_both (and_right _ _ e6) (and_both (and_left _ _ e) (and_left _ _ e3)))
    (and_both (and_left _ _ e6) (and_both (and_both (and_left _ _ e1) (and_both (and_left _ _ e2) refl))
    (and_both (and_both (and_left _ _ e4) (and_both (and_left _ _ e5) refl)) refl))))

-- algebra's theorem for one column of right-hand sides, and determinant's for none
one-column : {q n : ℕ} (rhs : ℕ) → rhs ≡ 1 → (s : SolverView q n rhs) (l x m y z m' y' z' : List ℕ) → is_prime q ≡ true → HonestSolver q n rhs s l x
    → has_inverse q n (mat_add q (n * n) l m) ≡ true → has_inverse q n (mat_add q (n * n) l m') ≡ true
    → Residues q (n * 1) z → Residues q (n * 1) z'
    → mat_mul q n n 1 (mat_add q (n * n) l m) z ≡ mat_add q (n * 1) x y → mat_mul q n n 1 (mat_add q (n * n) l m') z' ≡ mat_add q (n * 1) x y'
    → (z ≡ zeros (n * 1)) ↔ (z' ≡ zeros (n * 1))
    → solver_completions q n rhs s m y ≡ solver_completions q n rhs s m' y'
one-column zero e = absurd (omega (arith, e))
one-column (suc zero) e = solver-view
one-column (suc (suc rhs)) e = absurd (omega (arith, e))

no-column : {q n : ℕ} (rhs : ℕ) → rhs ≡ 0 → Prime q → (s : SolverView q n rhs) (l x m y m' y' : List ℕ) → HonestSolver q n rhs s l x
    → rank q n (mat_add q (n * n) l m) ≡ rank q n (mat_add q (n * n) l m') → solver_completions q n rhs s m y ≡ solver_completions q n rhs s m' y'
no-column zero e = λ p s l x m y m' y' k. solver-rank p s l x m y m' y' k
no-column (suc rhs) e = absurd (omega (arith, e))

module _ (session : SessionId) (tape : TapeId) (q n rhs : ℕ) (terms : TermsFit system (wide_terms session tape q n rhs)) where
  abbrev t : Terms
  t = wide_terms session tape q n rhs

  pub prime : is_prime q ≡ true
  unfolding field_fits
  prime = terms.field

  pub big : 1 < q
  big = terms.big

  pub side-one : side_size t ≡ n * rhs
  unfolding side_size
  side-one = rw (columns-are n rhs)

  -- A z = b has the solution, where A is a sum that has an inverse
  pub solves : (a a' b b' : List ℕ) → has_inverse q n (mat_add q (n * n) a a') ≡ true
      → Residues q (n * 1) (solution q n (mat_add q (n * n) a a') (mat_add q (n * 1) b b'))
      × (mat_mul q n n 1 (mat_add q (n * n) a a') (solution q n (mat_add q (n * n) a a') (mat_add q (n * 1) b b')) ≡ mat_add q (n * 1) b b')
  solves a a' b b' h =
      let ra = add-residues (hq big) (n * n) a a' in
      solution-solves (prime-test q prime) n ra (add-residues (hq big) (n * 1) b b') (regular-inverse (prime-test q prime) n ra ∙ h)

  -- ---- after message 4

  module _ (input : List (List ℕ)) (coins b1 b3 m2 m4 : List ℕ) (sent : List (List ℕ)) (r1 : Residues q (message_size 1 t) b1) (r3 : Residues q (message_size 3 t) b3)
      (r2 : Residues q (message_size 2 t) m2) (r4 : Residues q (message_size 4 t) m4) where
    abbrev cut : ℕ → List ℕ → List (List ℕ)
    cut kind a = parts (message_layout kind n n (n + rhs)) a

    -- the view as algebra has it
    abbrev seen : (y0 b0 r v : List ℕ) → SolverView q n rhs
    seen y0 b0 r v = record {
      y0 = y0;
      b0 = b0;
      r = r;
      v = v;
      y1 = part 0 (cut 1 b1);
      f = part 0 (cut 3 b3);
      x1 = part 0 (cut 2 m2);
      r1 = part 1 (cut 2 m2);
      w = part 0 (cut 4 m4);
      c = part 1 (cut 4 m4);
    }

    module _ (i : List (List ℕ)) (ti : Taken blinder t i) (y0 b0 r v x0 a0 qm g pm u0 : List ℕ) (ry : Residues q (n * (n + rhs)) y0)
        (rr : Residues q (n * n) r) (rx : Residues q (n * n) x0) (ra : Residues q (n * (n + rhs)) a0)
        (rq : Residues q (n * n) qm) (rg : Residues q (n * n) g) (rp : Residues q (n * n) pm) (ru : Residues q (n * (n + rhs)) u0) where
      first : List (List ℕ)
      first = send_x q n n (n + rhs) pm x0 ∷ send_r q n n (n + rhs) pm (part 0 (cut 1 b1)) u0 a0 ∷ []

      second : List (List ℕ)
      second = send_w q n rhs u0 (part 0 (cut 3 b3)) qm pm (part 0 i) g ∷ send_c q n rhs u0 pm (part 1 i) ∷ []

      first_fits : Fits q (message_layout 2 n n (n + rhs)) first
      unfolding message_layout first send_x send_r
      first_fits = add-residues (hq big) _ _ _ then sub-residues (hq big) _ _ _ then none

      second_fits : Fits q (message_layout 4 n n (n + rhs)) second
      unfolding message_layout second send_w send_c
      second_fits = rw (columns-are n rhs) (sub-residues (hq big) (n * n) _ _ then add-residues (hq big) (n * rhs) _ _ then none)

      abbrev dealt : Judged Dealt
      dealt = dealing system t (x0 ∷ y0 ∷ a0 ∷ qm ∷ r ∷ g ∷ [])

      abbrev sends : List (List ℕ)
      sends = blinder_messages t (dealt_slot blinder t dealt) i (b1 ∷ b3 ∷ sent) (words_for q (join (pm ∷ u0 ∷ [])))

      -- the blinder's two messages
      sends-are : dealt_together solver t dealt (y0 ∷ b0 ∷ r ∷ v ∷ []) (x0 ∷ a0 ∷ qm ∷ g ∷ []) ≡ true → regular q n pm ≡ true
          → eq_lists (m2 ∷ m4 ∷ []) (take 2 sends) ≡ both (eq_lists (cut 2 m2) first) (both (eq_lists (cut 4 m4) second) (eq_lists [] []))
      unfolding first second
      sends-are d p =
          ap (λ (z : List (List ℕ)). eq_lists (m2 ∷ m4 ∷ []) (take 2 z))
          (blinder-sends-all session tape q n rhs terms x0 a0 qm g _
          (blinder-held t terms x0 y0 a0 qm r g rx ry ra rq rr rg refl b0 v d) i ti pm u0 b1 rp ru p r1 b3 r3 sent)
          ∙ first-test 2 t m2 r2 first_fits (m4 ∷ []) (join second ∷ [])
          ∙ ap (both (eq_lists (cut 2 m2) first)) (first-test 4 t m4 r4 second_fits [] [])

      one-test : both (dealt_together solver t dealt (y0 ∷ b0 ∷ r ∷ v ∷ []) (x0 ∷ a0 ∷ qm ∷ g ∷ [])) (both (regular q n pm) (eq_lists (m2 ∷ m4 ∷ []) (take 2 sends)))
          ≡ gives_solver q n rhs (seen y0 b0 r v) (part 0 i) (part 1 i) (x0 ∷ a0 ∷ qm ∷ g ∷ pm ∷ u0 ∷ [])
      unfolding gives_solver eq_lists first second message_layout parts
      one-test =
          both-same _ _ _ (λ d. both-same (regular q n pm) _ _ (sends-are d))
          ∙ ap (λ (z : Bool). both z (both (regular q n pm) (both (eq_lists (cut 2 m2) first) (both (eq_lists (cut 4 m4) second) (eq_lists [] [])))))
          (solver-dealt t terms x0 y0 a0 qm r g rx ry ra rq rr rg refl b0 v)
          ∙ shuffle _ _ _ _ _ _ _ _
          ∙ rw (regular-inverse (prime-test q prime) n rp, regular-inverse (prime-test q prime) n rq) refl

    end_same : (i : List (List ℕ)) → Taken blinder t i → (y0 b0 r v : List ℕ) → Residues q (n * (n + rhs)) y0 → Residues q (n * n) r → (ls : List (List ℕ))
        → Fits q (n * n ∷ n * (n + rhs) ∷ n * n ∷ n * n ∷ n * n ∷ n * (n + rhs) ∷ []) ls
        → is_completion (view_of solver t input (y0 ∷ b0 ∷ r ∷ v ∷ []) coins (b1 ∷ b3 ∷ sent) (m2 ∷ m4 ∷ [])) i ls ≡ gives_solver q n rhs (seen y0 b0 r v) (part 0 i) (part 1 i) ls
    unfolding is_completion
    end_same i ti y0 b0 r v ry rr ls (◌then◌ {l = x0} rx (◌then◌ {l = a0} ra (◌then◌ {l = qm} rq (◌then◌ {l = g} rg (◌then◌ {l = pm} rp (◌then◌ {l = u0} ru none)))))) =
        one-test i ti y0 b0 r v x0 a0 qm g pm u0 ry rr rx ra rq rg rp ru

    x1-ok : Residues q (n * n) (part 0 (cut 2 m2))
    unfolding message_layout
    x1-ok = first_of (message-fits 2 t m2 r2)

    r1-ok : Residues q (n * (n + rhs)) (part 1 (cut 2 m2))
    unfolding message_layout
    r1-ok = second-of (message-fits 2 t m2 r2)

    w-ok : Residues q (n * n) (part 0 (cut 4 m4))
    unfolding message_layout
    w-ok = first_of (message-fits 4 t m4 r4)

    c-ok : Residues q (n * rhs) (part 1 (cut 4 m4))
    unfolding message_layout
    c-ok = subst (λ (k : ℕ). Residues q (n * k) (part 1 (cut 4 m4))) (columns-are n rhs) (second-of (message-fits 4 t m4 r4))

    -- the solver kept to the rules
    module _ (own : Taken solver t input) (y0 b0 r v : List ℕ) (fits : Fits q (layout solver n n (n + rhs)) (y0 ∷ b0 ∷ r ∷ v ∷ []))
        (kept : b1 ∷ b3 ∷ sent ≡ solver_messages t (half_slot solver t (y0 ∷ b0 ∷ r ∷ v ∷ [])) input (m2 ∷ m4 ∷ [])) where
      y1-own : List ℕ
      y1-own = send_y q n n (n + rhs) (beside n n rhs (part 0 input) (part 1 input)) y0

      f-own : List ℕ
      f-own = send_f q n rhs r (solver_share q n rhs (part 0 (cut 2 m2)) y0 (part 1 (cut 2 m2)) b0)

      two-own : b1 ∷ b3 ∷ [] ≡ join (y1-own ∷ []) ∷ join (f-own ∷ []) ∷ []
      unfolding y1-own f-own
      two-own = ap (take 2) kept
          ∙ solver-sends-two session tape q n rhs terms y0 b0 r v _ (dealt-alone solver t (y0 ∷ b0 ∷ r ∷ v ∷ []) fits) input own m2 r2 (m4 ∷ [])

      y1-fits : Fits q (message_layout 1 n n (n + rhs)) (y1-own ∷ [])
      unfolding message_layout y1-own send_y
      y1-fits = sub-residues (hq big) _ _ _ then none

      f-fits : Fits q (message_layout 3 n n (n + rhs)) (f-own ∷ [])
      unfolding message_layout f-own send_f
      f-fits = sub-residues (hq big) _ _ _ then none

      y1-is : part 0 (cut 1 b1) ≡ y1-own
      y1-is = ap (λ (z : List (List ℕ)). part 0 (cut 1 (part 0 z))) two-own ∙ ap (part 0) (parts_join y1-fits)

      f-is : part 0 (cut 3 b3) ≡ f-own
      f-is = ap (λ (z : List (List ℕ)). part 0 (cut 3 (part 1 z))) two-own ∙ ap (part 0) (parts_join f-fits)

      honest : HonestSolver q n rhs (seen y0 b0 r v) (part 0 input) (part 1 input)
      unfolding y1-own f-own
      honest = record {
        l-size = (taken-pair t input own).matrix.size;
        x-size = side-length;
        y1-is = y1-is;
        f-is = f-is;
        b0-ok = second-of fits;
        x1-ok = x1-ok;
        r1-ok = r1-ok;
        v-ok = fourth-of fits;
        w-ok = w-ok;
        c-ok = c-ok;
      }
        where
          side-length : length (part 1 input) ≡ n * rhs
          side-length = (taken-pair t input own).side.size ∙ side-one

      -- the completions are algebra's, and as many as pairs P, Q that blind the joint system as W + V and c + s do
      counted : (i : List (List ℕ)) → Taken blinder t i
          → completions (view_of solver t input (y0 ∷ b0 ∷ r ∷ v ∷ []) coins (b1 ∷ b3 ∷ sent) (m2 ∷ m4 ∷ [])) i ≡ solver_completions q n rhs (seen y0 b0 r v) (part 0 i) (part 1 i)
      unfolding completions solver_completions
      counted i ti = same_count q _ _ _ (end_same i ti y0 b0 r v (first_of fits) (third_of fits))

      pub solver-ended : (i : List (List ℕ)) → Taken blinder t i
          → completions (view_of solver t input (y0 ∷ b0 ∷ r ∷ v ∷ []) coins (b1 ∷ b3 ∷ sent) (m2 ∷ m4 ∷ [])) i
          ≡ pairs q n rhs (mat_add q (n * n) (part 0 input) (part 0 i)) (mat_add q (n * rhs) (part 1 input) (part 1 i)) (sum_matrix q n (part 0 (cut 4 m4)) v)
          (sum_vector q n rhs (part 1 (cut 4 m4)) (solver_share q n rhs (part 0 (cut 2 m2)) y0 (part 1 (cut 2 m2)) b0))
      solver-ended i ti = counted i ti ∙ completions-are-pairs big (seen y0 b0 r v) (part 0 input) (part 1 input) (part 0 i) (part 1 i) honest

      -- where a solution is asked for, as many for two inputs whose solutions are both zero or both not
      pub solver-same : rhs ≡ 1 → (i j : List (List ℕ)) → Taken blinder t i → Taken blinder t j
          → has_inverse q n (mat_add q (n * n) (part 0 input) (part 0 i)) ≡ true → has_inverse q n (mat_add q (n * n) (part 0 input) (part 0 j)) ≡ true
          → (solution q n (mat_add q (n * n) (part 0 input) (part 0 i)) (mat_add q (n * 1) (part 1 input) (part 1 i)) ≡ zeros (n * 1))
          ↔ (solution q n (mat_add q (n * n) (part 0 input) (part 0 j)) (mat_add q (n * 1) (part 1 input) (part 1 j)) ≡ zeros (n * 1))
          → completions (view_of solver t input (y0 ∷ b0 ∷ r ∷ v ∷ []) coins (b1 ∷ b3 ∷ sent) (m2 ∷ m4 ∷ [])) i
          ≡ completions (view_of solver t input (y0 ∷ b0 ∷ r ∷ v ∷ []) coins (b1 ∷ b3 ∷ sent) (m2 ∷ m4 ∷ [])) j
      solver-same one i j ti tj hi hj w =
          let s = solves (part 0 input) (part 0 i) (part 1 input) (part 1 i) hi in
          let s' = solves (part 0 input) (part 0 j) (part 1 input) (part 1 j) hj in
          counted i ti
          ∙ one-column rhs one (seen y0 b0 r v) (part 0 input) (part 1 input) (part 0 i) (part 1 i) _ (part 0 j) (part 1 j) _ prime honest hi hj s.0 s'.0 s.1 s'.1 w
          ∙ sym (counted j tj)

      -- where the determinant is, as many for two inputs whose sums with the solver's have the same rank
      pub solver-ranked : rhs ≡ 0 → (i j : List (List ℕ)) → Taken blinder t i → Taken blinder t j
          → rank q n (mat_add q (n * n) (part 0 input) (part 0 i)) ≡ rank q n (mat_add q (n * n) (part 0 input) (part 0 j))
          → completions (view_of solver t input (y0 ∷ b0 ∷ r ∷ v ∷ []) coins (b1 ∷ b3 ∷ sent) (m2 ∷ m4 ∷ [])) i
          ≡ completions (view_of solver t input (y0 ∷ b0 ∷ r ∷ v ∷ []) coins (b1 ∷ b3 ∷ sent) (m2 ∷ m4 ∷ [])) j
      solver-ranked without i j ti tj e =
          counted i ti
          ∙ no-column rhs without (prime-test q prime) (seen y0 b0 r v) (part 0 input) (part 1 input) (part 0 i) (part 1 i) (part 0 j) (part 1 j) honest e
          ∙ sym (counted j tj)
