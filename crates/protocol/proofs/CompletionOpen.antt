-- The completions of the solver's view while its session is unfinished: a number, the same for all inputs of the blinder. Assumes nothing.
-- solver-waiting   before message 2: Q, P, X0 and U0 are free, where Q and P have an inverse
-- solver-heard     after message 2: Q and P alone
use mathlib.Core.Path.{◌≡◌, refl, sym, ap, ap₂, ◌∙◌}
use mathlib.Core.Bool.{Bool, true}
use mathlib.Core.List.{List, [], ◌∷◌}
use Prim.Native.Nat.{ℕ, ◌+◌, ◌*◌, ◌^◌, ◌<◌}
use native.Mathlib.Nat.{pow-zero, mul-one}
use lib.ListN.{drop}
use Rattle.algebra.specs.Matrix.{Residues, mat_sub, mat_mul}
use Rattle.algebra.specs.Count.{both, eq_list, parts, part, total, count, count_parts}
use Rattle.algebra.specs.Elimination.{regular, units}
use Rattle.algebra.specs.Product.{deal_b, send_x, send_r}
use Rattle.algebra.specs.System.{deal_v}
use Rattle.algebra.proofs.Lists.{add-residues, sub-residues}
use Rattle.algebra.proofs.Matrix.{sub-sub, add_comm_sub, sub-of-add}
use Rattle.algebra.proofs.Tests.{and_left, and_right, and_both, eq_list-eq, eq_list-of}
use Rattle.algebra.proofs.Inverse.{hq}
use Rattle.algebra.proofs.Parts.{Fits, none, ◌then◌, parts-transfer, parts_all, parts-both}
use Rattle.algebra.proofs.Product.{fill_x, fill_a, fill_u, fill_x-residues, fill_a-residues, fill_u-residues, fill-b, fill-x, fill-r, fill-only}
use Rattle.protocol.specs.declared.SessionId.{SessionId}
use Rattle.protocol.specs.declared.TapeId.{TapeId}
use Rattle.protocol.specs.declared.Terms.{Terms}
use Rattle.protocol.specs.Bounds.{system}
use Rattle.protocol.specs.Tape.{blinder, solver, layout}
use Rattle.protocol.specs.Message.{message_layout, message_size}
use Rattle.protocol.specs.Completion.{eq_lists, is_completion, completions, Taken}
use Rattle.protocol.proofs.SystemEnds.{wide_terms}
use Rattle.protocol.proofs.Tests.{TermsFit}
use Rattle.protocol.proofs.CompletionDealt.{solver-dealt, blinder-held}
use Rattle.protocol.proofs.CompletionLaws.{first_of, second-of, third_of, fourth-of, same_count, both_true, both-same, message-fits, first-test, view_of}
use Rattle.protocol.proofs.CompletionSystem.{blinder-sends-one}
use Rattle.protocol.proofs.CompletionSolver.{big}

-- ---- Q and P have an inverse, and nothing else is asked

abbrev masks_fit : (q n : ℕ) → List (List ℕ) → Bool
masks_fit q n ls = both (regular q n (part 0 ls)) (both (regular q n (part 0 (drop 1 ls))) true)

masks-count : (q n : ℕ) (ns : List ℕ) → count_parts q (n * n ∷ n * n ∷ ns) (masks_fit q n) ≡ units q n * (units q n * q ^ total ns)
unfolding units
masks-count q n ns =
    parts-both q (n * n) (n * n ∷ ns) (λ a. regular q n a) (λ ls. both (regular q n (part 0 ls)) true)
    ∙ ap (λ (z : ℕ). count q (n * n) (λ a. regular q n a) * z)
    (parts-both q (n * n) ns (λ a. regular q n a) (λ ls. true) ∙ ap (λ (z : ℕ). count q (n * n) (λ a. regular q n a) * z) (parts_all q ns))

module _ (session : SessionId) (tape : TapeId) (q n rhs : ℕ) (terms : TermsFit system (wide_terms session tape q n rhs)) (input : List (List ℕ)) (coins : List ℕ) where
  abbrev t : Terms
  t = wide_terms session tape q n rhs

  h : 0 < q
  h = hq (big session tape q n rhs terms)

  abbrev six : List ℕ
  six = n * n ∷ n * (n + rhs) ∷ n * n ∷ n * n ∷ n * n ∷ n * (n + rhs) ∷ []

  -- the dealer's rules: Q has an inverse, and A0 and G are what X0 and Q leave
  abbrev a_of : (y0 b0 x0 : List ℕ) → List ℕ
  a_of y0 b0 x0 = mat_sub q (n * (n + rhs)) (mat_mul q n n (n + rhs) x0 y0) b0

  abbrev g_of : (r v qm : List ℕ) → List ℕ
  g_of r v qm = mat_sub q (n * n) v (mat_mul q n n n r qm)

  abbrev dealt_test : (y0 b0 r v x0 a0 qm g : List ℕ) → Bool
  dealt_test y0 b0 r v x0 a0 qm g = both (regular q n qm) (both (eq_list b0 (deal_b q n n (n + rhs) x0 y0 a0)) (eq_list v (deal_v q n r qm g)))

  module _ (y0 b0 r v : List ℕ) (fits : Fits q (layout solver n n (n + rhs)) (y0 ∷ b0 ∷ r ∷ v ∷ [])) where
    b-left : (x0 : List ℕ) → b0 ≡ deal_b q n n (n + rhs) x0 y0 (a_of y0 b0 x0)
    unfolding deal_b
    b-left x0 = sym (sub-sub h (mat_mul q n n (n + rhs) x0 y0) (second-of fits))

    a-left : (x0 a0 : List ℕ) → Residues q (n * (n + rhs)) a0 → b0 ≡ deal_b q n n (n + rhs) x0 y0 a0 → a_of y0 b0 x0 ≡ a0
    unfolding deal_b
    a-left x0 a0 ra e = ap (mat_sub q (n * (n + rhs)) (mat_mul q n n (n + rhs) x0 y0)) e ∙ sub-sub h (mat_mul q n n (n + rhs) x0 y0) ra

    v-left : (qm : List ℕ) → v ≡ deal_v q n r qm (g_of r v qm)
    unfolding deal_v
    v-left qm = sym (add_comm_sub h (mat_mul q n n n r qm) (fourth-of fits))

    g-left : (qm g : List ℕ) → Residues q (n * n) g → v ≡ deal_v q n r qm g → g_of r v qm ≡ g
    unfolding deal_v
    g-left qm g rg e = ap (λ (z : List ℕ). mat_sub q (n * n) z (mat_mul q n n n r qm)) e ∙ sub-of-add h (mat_mul q n n n r qm) rg

    -- ---- before message 2

    abbrev waiting_test : List (List ℕ) → Bool
    waiting_test ls = both (dealt_test y0 b0 r v (part 0 ls) (part 1 ls) (part 2 ls) (part 3 ls)) (both (regular q n (part 4 ls)) true)

    waiting-same : (sent i ls : List (List ℕ)) → Fits q six ls → is_completion (view_of solver t input (y0 ∷ b0 ∷ r ∷ v ∷ []) coins sent []) i ls ≡ waiting_test ls
    unfolding is_completion eq_lists
    waiting-same sent i ls (◌then◌ {l = x0} rx (◌then◌ {l = a0} ra (◌then◌ {l = qm} rq (◌then◌ {l = g} rg (◌then◌ {l = pm} rp (◌then◌ {l = u0} ru none)))))) =
        ap (λ (b : Bool). both b (both (regular q n pm) true)) (solver-dealt t terms x0 y0 a0 qm r g rx (first_of fits) ra rq (third_of fits) rg refl b0 v)

    pub solver-waiting : (sent i : List (List ℕ)) → completions (view_of solver t input (y0 ∷ b0 ∷ r ∷ v ∷ []) coins sent []) i ≡ units q n * (units q n * q ^ (n * n + n * (n + rhs)))
    unfolding completions
    solver-waiting sent i =
        same_count q six _ _ (waiting-same sent i)
        ∙ parts-transfer q six (n * n ∷ n * n ∷ n * n ∷ n * (n + rhs) ∷ []) waiting_test (masks_fit q n)
        (λ ls. part 2 ls ∷ part 4 ls ∷ part 0 ls ∷ part 5 ls ∷ []) (λ ls. part 2 ls ∷ a_of y0 b0 (part 2 ls) ∷ part 0 ls ∷ g_of r v (part 0 ls) ∷ part 1 ls ∷ part 3 ls ∷ [])
        (record { fits = λ ls f e. to-fits ls f; passes = to-passes; back = to_back })
        (record { fits = λ ls f e. from-fits ls f; passes = from-passes; back = λ ls f e. from_back ls f })
        ∙ masks-count q n (n * n ∷ n * (n + rhs) ∷ [])
      where
        to-fits : (ls : List (List ℕ)) → Fits q six ls → Fits q (n * n ∷ n * n ∷ n * n ∷ n * (n + rhs) ∷ []) (part 2 ls ∷ part 4 ls ∷ part 0 ls ∷ part 5 ls ∷ [])
        to-fits ls (rx then ra then rq then rg then rp then ru then none) = rq then rp then rx then ru then none

        to-passes : (ls : List (List ℕ)) → Fits q six ls → waiting_test ls ≡ true → masks_fit q n (part 2 ls ∷ part 4 ls ∷ part 0 ls ∷ part 5 ls ∷ []) ≡ true
        to-passes ls f e = and_both (and_left _ _ (and_left _ _ e)) (and_right _ _ e)

        to_back : (ls : List (List ℕ)) → Fits q six ls → waiting_test ls ≡ true
            → part 0 ls ∷ a_of y0 b0 (part 0 ls) ∷ part 2 ls ∷ g_of r v (part 2 ls) ∷ part 4 ls ∷ part 5 ls ∷ [] ≡ ls
        to_back ls (◌then◌ {l = x0} rx (◌then◌ {l = a0} ra (◌then◌ {l = qm} rq (◌then◌ {l = g} rg (◌then◌ {l = pm} rp (◌then◌ {l = u0} ru none)))))) e =
            let d = and_right _ _ (and_left _ _ e) in
            ap₂ (λ (a g : List ℕ). x0 ∷ a ∷ qm ∷ g ∷ pm ∷ u0 ∷ []) (a-left x0 a0 ra (eq_list-eq _ _ (and_left _ _ d))) (g-left qm g rg (eq_list-eq _ _ (and_right _ _ d)))

        from-fits : (ls : List (List ℕ)) → Fits q (n * n ∷ n * n ∷ n * n ∷ n * (n + rhs) ∷ []) ls
            → Fits q six (part 2 ls ∷ a_of y0 b0 (part 2 ls) ∷ part 0 ls ∷ g_of r v (part 0 ls) ∷ part 1 ls ∷ part 3 ls ∷ [])
        from-fits ls (rq then rp then rx then ru then none) = rx then sub-residues h _ _ _ then rq then sub-residues h _ _ _ then rp then ru then none

        from-passes : (ls : List (List ℕ)) → Fits q (n * n ∷ n * n ∷ n * n ∷ n * (n + rhs) ∷ []) ls → masks_fit q n ls ≡ true
            → waiting_test (part 2 ls ∷ a_of y0 b0 (part 2 ls) ∷ part 0 ls ∷ g_of r v (part 0 ls) ∷ part 1 ls ∷ part 3 ls ∷ []) ≡ true
        from-passes ls (◌then◌ {l = qm} rq (◌then◌ {l = pm} rp (◌then◌ {l = x0} rx (◌then◌ {l = u0} ru none)))) e =
            and_both (and_both (and_left _ _ e) (and_both (eq_list-of (b-left x0)) (eq_list-of (v-left qm)))) (and_right _ _ e)

        from_back : (ls : List (List ℕ)) → Fits q (n * n ∷ n * n ∷ n * n ∷ n * (n + rhs) ∷ []) ls → part 0 ls ∷ part 1 ls ∷ part 2 ls ∷ part 3 ls ∷ [] ≡ ls
        from_back ls (rq then rp then rx then ru then none) = refl

    -- ---- after message 2

    module _ (b1 m2 : List ℕ) (sent : List (List ℕ)) (r1 : Residues q (message_size 1 t) b1) (r2 : Residues q (message_size 2 t) m2) where
      abbrev y1 : List ℕ
      y1 = part 0 (parts (message_layout 1 n n (n + rhs)) b1)

      abbrev x1 : List ℕ
      x1 = part 0 (parts (message_layout 2 n n (n + rhs)) m2)

      abbrev rr : List ℕ
      rr = part 1 (parts (message_layout 2 n n (n + rhs)) m2)

      x1-ok : Residues q (n * n) x1
      unfolding message_layout
      x1-ok = first_of (message-fits 2 t m2 r2)

      rr-ok : Residues q (n * (n + rhs)) rr
      unfolding message_layout
      rr-ok = second-of (message-fits 2 t m2 r2)

      abbrev heard_test : List (List ℕ) → Bool
      heard_test ls =
          both (dealt_test y0 b0 r v (part 0 ls) (part 1 ls) (part 2 ls) (part 3 ls))
          (both (regular q n (part 4 ls))
          (both (eq_list x1 (send_x q n n (n + rhs) (part 4 ls) (part 0 ls))) (eq_list rr (send_r q n n (n + rhs) (part 4 ls) y1 (part 5 ls) (part 1 ls)))))

      heard-same : (i : List (List ℕ)) → Taken blinder t i → (ls : List (List ℕ)) → Fits q six ls
          → is_completion (view_of solver t input (y0 ∷ b0 ∷ r ∷ v ∷ []) coins (b1 ∷ sent) (m2 ∷ [])) i ls ≡ heard_test ls
      unfolding is_completion both eq_lists message_layout parts send_x send_r
      heard-same i ti ls (◌then◌ {l = x0} rx (◌then◌ {l = a0} ra (◌then◌ {l = qm} rq (◌then◌ {l = g} rg (◌then◌ {l = pm} rp (◌then◌ {l = u0} ru none)))))) =
          both-same _ _ _ (λ d. both-same (regular q n pm) _ _ (λ p.
          ap (eq_lists (m2 ∷ []))
          (blinder-sends-one session tape q n rhs terms x0 a0 qm g _
          (blinder-held t terms x0 y0 a0 qm r g rx (first_of fits) ra rq (third_of fits) rg refl b0 v d) i ti pm u0 b1 rp ru p r1 sent)
          ∙ first-test 2 t m2 r2 (add-residues h _ _ _ then sub-residues h _ _ _ then none) [] []
          ∙ simp both_true))
          ∙ ap (λ (b : Bool). both b (both (regular q n pm) (both (eq_list x1 (send_x q n n (n + rhs) pm x0)) (eq_list rr (send_r q n n (n + rhs) pm y1 u0 a0)))))
          (solver-dealt t terms x0 y0 a0 qm r g rx (first_of fits) ra rq (third_of fits) rg refl b0 v)

      pub solver-heard : (i : List (List ℕ)) → Taken blinder t i
          → completions (view_of solver t input (y0 ∷ b0 ∷ r ∷ v ∷ []) coins (b1 ∷ sent) (m2 ∷ [])) i ≡ units q n * units q n
      unfolding completions
      solver-heard i ti =
          same_count q six _ _ (heard-same i ti)
          ∙ parts-transfer q six (n * n ∷ n * n ∷ []) heard_test (masks_fit q n) (λ ls. part 2 ls ∷ part 4 ls ∷ []) expand
          (record { fits = λ ls f e. to-fits ls f; passes = to-passes; back = to_back })
          (record { fits = λ ls f e. from-fits ls f; passes = from-passes; back = λ ls f e. from_back ls f })
          ∙ masks-count q n []
          ∙ rw (pow-zero, mul-one) refl
        where
          expand : List (List ℕ) → List (List ℕ)
          expand ls =
              fill_x q n n (n + rhs) h x1 (part 1 ls) ∷ fill_a q n n (n + rhs) h y0 b0 x1 (part 1 ls) ∷ part 0 ls ∷ g_of r v (part 0 ls) ∷ part 1 ls
              ∷ fill_u q n n (n + rhs) h y0 b0 y1 x1 rr (part 1 ls) ∷ []

          to-fits : (ls : List (List ℕ)) → Fits q six ls → Fits q (n * n ∷ n * n ∷ []) (part 2 ls ∷ part 4 ls ∷ [])
          to-fits ls (rx then ra then rq then rg then rp then ru then none) = rq then rp then none

          to-passes : (ls : List (List ℕ)) → Fits q six ls → heard_test ls ≡ true → masks_fit q n (part 2 ls ∷ part 4 ls ∷ []) ≡ true
          to-passes ls f e = and_both (and_left _ _ (and_left _ _ e)) (and_both (and_left _ _ (and_right _ _ e)) refl)

          to_back : (ls : List (List ℕ)) → Fits q six ls → heard_test ls ≡ true → expand (part 2 ls ∷ part 4 ls ∷ []) ≡ ls
          to_back ls (◌then◌ {l = x0} rx (◌then◌ {l = a0} ra (◌then◌ {l = qm} rq (◌then◌ {l = g} rg (◌then◌ {l = pm} rp (◌then◌ {l = u0} ru none)))))) e =
              let d = and_right _ _ (and_left _ _ e) in
              let m = and_right _ _ (and_right _ _ e) in
              let o = fill-only q n n (n + rhs) h y0 b0 y1 x1 rr pm x0 a0 u0 rx ra ru (eq_list-eq _ _ (and_left _ _ d)) (eq_list-eq _ _ (and_left _ _ m))
              (eq_list-eq _ _ (and_right _ _ m)) in
              let z = g-left qm g rg (eq_list-eq _ _ (and_right _ _ d)) in
              cc (o.0, o.1, o.2, z)

          from-fits : (ls : List (List ℕ)) → Fits q (n * n ∷ n * n ∷ []) ls → Fits q six (expand ls)
          from-fits ls (rq then rp then none) =
              fill_x-residues q n n (n + rhs) h _ _ then fill_a-residues q n n (n + rhs) h _ _ _ _ then rq then sub-residues h
              (n * n) _ _ then rp then fill_u-residues q n n (n + rhs) h _ _ _ _ _ _ then none

          from-passes : (ls : List (List ℕ)) → Fits q (n * n ∷ n * n ∷ []) ls → masks_fit q n ls ≡ true → heard_test (expand ls) ≡ true
          from-passes ls (◌then◌ {l = qm} rq (◌then◌ {l = pm} rp none)) e =
              and_both (and_both (and_left _ _ e) (and_both (eq_list-of (fill-b q n n (n + rhs) h y0 b0 x1 pm (second-of fits))) (eq_list-of (v-left qm))))
              (and_both (and_left _ _ (and_right _ _ e)) (and_both (eq_list-of (fill-x q n n (n + rhs) h x1 pm x1-ok)) (eq_list-of (fill-r q n n (n + rhs) h y0 b0 y1 x1 rr pm rr-ok))))

          from_back : (ls : List (List ℕ)) → Fits q (n * n ∷ n * n ∷ []) ls → part 0 ls ∷ part 1 ls ∷ [] ≡ ls
          from_back ls (rq then rp then none) = refl
