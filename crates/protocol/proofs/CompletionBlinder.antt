-- The completions of the blinder's view: one number for all inputs of the solver while the session is unfinished; once it is finished, exactly one for an
-- input with the answer seen, a solution or a determinant, and none for another. Assumes nothing.
-- blinder-started      after message 1
-- blinder-heard        after message 3
-- blinder-ended        after message 5
-- blinder-determined   after message 6
use mathlib.Core.Path.{◌≡◌, refl, sym, ap, ◌∙◌, subst}
use mathlib.Core.Bool.{Bool, true, false, cond}
use mathlib.Core.List.{List, [], ◌∷◌}
use Prim.Native.Nat.{ℕ, ◌+◌, ◌*◌, ◌^◌, ◌<◌}
use native.Mathlib.Omega.{arith}
use lib.Dec.{eqb}
use lib.ListN.{get_or, take}
use lib.Seq.{take_all}
use Rattle.algebra.specs.Matrix.{Residues, mat_add, mat_mul}
use Rattle.algebra.specs.Count.{bit, both, eq_list, parts, part, join, total}
use Rattle.algebra.specs.Columns.{beside}
use Rattle.algebra.specs.Inverse.{has_inverse}
use Rattle.algebra.specs.Elimination.{regular, solution}
use Rattle.algebra.specs.Product.{deal_b, send_y, send_x, send_r}
use Rattle.algebra.specs.System.{deal_v, solver_share, send_f, send_w, send_c, sum_matrix, sum_vector}
use Rattle.algebra.proofs.Views.{solver_tape, BlinderView, gives_y1, gives_f, gives_t, completions_y1, completions_f, completions_t}
use Rattle.algebra.proofs.Lists.{add-residues, sub-residues}
use Rattle.algebra.proofs.Parts.{Fits, none, ◌then◌, fits-parts, parts_join, join-parts}
use Rattle.algebra.proofs.Prime.{prime-test}
use Rattle.algebra.proofs.Inverse.{hq}
use Rattle.algebra.proofs.Elimination.{regular-inverse, solution-solves}
use Rattle.algebra.proofs.Blinder.{blinder-start, blinder-open, HonestBlinder, blinder-end}
use Rattle.determinant.specs.Determinant.{det}
use Rattle.determinant.specs.Session.{send_d, answer}
use Rattle.determinant.proofs.Determinant.{det-residue}
use Rattle.determinant.proofs.Blinder.{gives_d, completions_d, blinder-det}
use Rattle.protocol.specs.declared.SessionId.{SessionId}
use Rattle.protocol.specs.declared.TapeId.{TapeId}
use Rattle.protocol.specs.declared.Terms.{Terms}
use Rattle.protocol.specs.Judge.{Judged}
use Rattle.protocol.specs.Drawing.{words_for}
use Rattle.protocol.specs.Bounds.{system, columns}
use Rattle.protocol.specs.Tape.{Slot, blinder, solver, READY, layout}
use Rattle.protocol.specs.Deal.{Dealt}
use Rattle.protocol.specs.Message.{message_layout, message_size}
use Rattle.protocol.specs.System.{scratch_layout}
use Rattle.protocol.specs.Completion.{dealing, dealt_slot, dealt_together, solver_messages, blinder_messages, eq_lists, is_completion, completions, Taken}
use Rattle.protocol.proofs.SystemEnds.{wide_terms, last-system, last-determinant, columns-are}
use Rattle.protocol.proofs.Halves.{Holding}
use Rattle.protocol.proofs.Residues.{one-residue}
use Rattle.protocol.proofs.Tests.{TermsFit}
use Rattle.protocol.proofs.CompletionDealt.{blinder-dealt, solver-held}
use Rattle.protocol.proofs.CompletionLaws.{first_of, second-of, third_of, fourth-of, same_count, both_true, both-assoc, both-same, dealt-alone, message-fits, first-test, half_slot, view_of}
use Rattle.protocol.proofs.CompletionSystem.{taken-pair, solver-sends-one, solver-sends-two, solver-sends-all, solver-sends-determinant, blinder-sends-all}
use Rattle.protocol.proofs.CompletionSolver.{prime, big, side-one}

module _ (session : SessionId) (tape : TapeId) (q n rhs : ℕ) (terms : TermsFit system (wide_terms session tape q n rhs)) where
  abbrev t : Terms
  t = wide_terms session tape q n rhs

  abbrev cut : ℕ → List ℕ → List (List ℕ)
  cut kind a = parts (message_layout kind n n (n + rhs)) a

  h0 : 0 < q
  h0 = hq (big session tape q n rhs terms)

  y1-ok : (a : List ℕ) → Residues q (message_size 1 t) a → Residues q (n * (n + rhs)) (part 0 (cut 1 a))
  unfolding message_layout
  y1-ok a r = first_of (message-fits 1 t a r)

  f-ok : (a : List ℕ) → Residues q (message_size 3 t) a → Residues q (n * n) (part 0 (cut 3 a))
  unfolding message_layout
  f-ok a r = first_of (message-fits 3 t a r)

  -- the view as algebra has it, of whatever was sent and received
  abbrev seen : (x0 a0 qm g coins b2 b4 m1 m3 last : List ℕ) → BlinderView q n rhs
  seen x0 a0 qm g coins b2 b4 m1 m3 last = record {
    x0 = x0;
    a0 = a0;
    qm = qm;
    g = g;
    pm = part 0 (parts (scratch_layout t) coins);
    u0 = part 1 (parts (scratch_layout t) coins);
    x1 = part 0 (cut 2 b2);
    r1 = part 1 (cut 2 b2);
    w = part 0 (cut 4 b4);
    c = part 1 (cut 4 b4);
    y1 = part 0 (cut 1 m1);
    f = part 0 (cut 3 m3);
    t = last;
  }

  module _ (input : List (List ℕ)) (x0 a0 qm g coins : List ℕ) (own-fits : Fits q (layout blinder n n (n + rhs)) (x0 ∷ a0 ∷ qm ∷ g ∷ [])) (q-regular : regular q n qm ≡ true)
      (i : List (List ℕ)) (ti : Taken solver t i) where
    y1-of : (y0 : List ℕ) → List ℕ
    y1-of y0 = send_y q n n (n + rhs) (beside n n rhs (part 0 i) (part 1 i)) y0

    y1-fits : (y0 : List ℕ) → Fits q (message_layout 1 n n (n + rhs)) (y1-of y0 ∷ [])
    unfolding message_layout y1-of send_y
    y1-fits y0 = sub-residues h0 _ _ _ then none

    -- ---- the dealing, with Q known to have an inverse
    abbrev o : (y0 r : List ℕ) → Judged Dealt
    o y0 r = dealing system t (x0 ∷ y0 ∷ a0 ∷ qm ∷ r ∷ g ∷ [])

    abbrev dealt-test : (y0 b0 r v : List ℕ) → Bool
    dealt-test y0 b0 r v = dealt_together blinder t (o y0 r) (x0 ∷ a0 ∷ qm ∷ g ∷ []) (y0 ∷ b0 ∷ r ∷ v ∷ [])

    dealt : (y0 b0 r v : List ℕ) → Residues q (n * (n + rhs)) y0 → Residues q (n * n) r
        → dealt-test y0 b0 r v ≡ both (eq_list b0 (deal_b q n n (n + rhs) x0 y0 a0)) (eq_list v (deal_v q n r qm g))
    unfolding both
    dealt y0 b0 r v ry rr =
        blinder-dealt t terms x0 y0 a0 qm r g (first_of own-fits) ry (second-of own-fits) (third_of own-fits) rr (fourth-of own-fits) refl b0 v
        ∙ rw q-regular refl

    held : (y0 b0 r v : List ℕ) → Residues q (n * (n + rhs)) y0 → Residues q (n * n) r → dealt-test y0 b0 r v ≡ true
        → Holding solver READY t (y0 ∷ b0 ∷ r ∷ v ∷ []) (dealt_slot solver t (o y0 r))
    held y0 b0 r v ry rr d =
        solver-held t terms x0 y0 a0 qm r g (first_of own-fits) ry (second-of own-fits) (third_of own-fits) rr (fourth-of own-fits) refl b0 v d

    f-of : (b2 y0 b0 r : List ℕ) → List ℕ
    f-of b2 y0 b0 r = send_f q n rhs r (solver_share q n rhs (part 0 (cut 2 b2)) y0 (part 1 (cut 2 b2)) b0)

    f-fits : (b2 y0 b0 r : List ℕ) → Fits q (message_layout 3 n n (n + rhs)) (f-of b2 y0 b0 r ∷ [])
    unfolding message_layout f-of send_f
    f-fits b2 y0 b0 r = sub-residues h0 _ _ _ then none

    -- ---- after message 1
    module _ (m1 : List ℕ) (r1 : Residues q (message_size 1 t) m1) (sent : List (List ℕ)) where
      first-same : (ls : List (List ℕ)) → Fits q (solver_tape n rhs) ls
          → is_completion (view_of blinder t input (x0 ∷ a0 ∷ qm ∷ g ∷ []) coins sent (m1 ∷ [])) i ls
          ≡ gives_y1 q n rhs (seen x0 a0 qm g coins [] [] m1 [] []) (part 0 i) (part 1 i) (part 0 ls) (part 1 ls) (part 2 ls) (part 3 ls)
      unfolding is_completion gives_y1 both eq_lists message_layout parts y1-of
      first-same ls (◌then◌ {l = y0} ry (◌then◌ {l = b0} rb (◌then◌ {l = r} rr (◌then◌ {l = v} rv none)))) =
          both-same _ _ _ (λ d.
          ap (eq_lists (m1 ∷ []))
          (solver-sends-one session tape q n rhs terms y0 b0 r v _ (held y0 b0 r v ry rr d) i ti sent)
          ∙ first-test 1 t m1 r1 (y1-fits y0) [] [])
          ∙ ap (λ (z : Bool). both z (both (eq_lists (cut 1 m1) (y1-of y0 ∷ [])) (eq_lists [] []))) (dealt y0 b0 r v ry rr)
          ∙ simp (both_true, both-assoc)

      pub blinder-started : completions (view_of blinder t input (x0 ∷ a0 ∷ qm ∷ g ∷ []) coins sent (m1 ∷ [])) i ≡ q ^ (n * n)
      unfolding completions completions_y1
      blinder-started =
          same_count q _ _ _ first-same
          ∙ blinder-start (big session tape q n rhs terms) (seen x0 a0 qm g coins [] [] m1 [] []) (part 0 i) (part 1 i) (y1-ok m1 r1)

    -- ---- after message 3
    module _ (m1 m3 b2 : List ℕ) (r1 : Residues q (message_size 1 t) m1) (r3 : Residues q (message_size 3 t) m3) (r2 : Residues q (message_size 2 t) b2) (sent : List (List ℕ)) where
      second-same : (ls : List (List ℕ)) → Fits q (solver_tape n rhs) ls
          → is_completion (view_of blinder t input (x0 ∷ a0 ∷ qm ∷ g ∷ []) coins (b2 ∷ sent) (m1 ∷ m3 ∷ [])) i ls
          ≡ gives_f q n rhs (seen x0 a0 qm g coins b2 [] m1 m3 []) (part 0 i) (part 1 i) (part 0 ls) (part 1 ls) (part 2 ls) (part 3 ls)
      unfolding is_completion gives_f gives_y1 both eq_lists message_layout parts y1-of f-of
      second-same ls (◌then◌ {l = y0} ry (◌then◌ {l = b0} rb (◌then◌ {l = r} rr (◌then◌ {l = v} rv none)))) =
          both-same _ _ _ (λ d.
          ap (eq_lists (m1 ∷ m3 ∷ []))
          (solver-sends-two session tape q n rhs terms y0 b0 r v _ (held y0 b0 r v ry rr d) i ti b2 r2 sent)
          ∙ (first-test 1 t m1 r1 (y1-fits y0) (m3 ∷ []) (join (f-of b2 y0 b0 r ∷ []) ∷ [])
          ∙ ap (both (eq_lists (cut 1 m1) (y1-of y0 ∷ []))) (first-test 3 t m3 r3 (f-fits b2 y0 b0 r) [] [])))
          ∙ ap (λ (z : Bool). both z (both (eq_lists (cut 1 m1) (y1-of y0 ∷ [])) (both (eq_lists (cut 3 m3) (f-of b2 y0 b0 r ∷ [])) (eq_lists [] [])))) (dealt y0 b0 r v ry rr)
          ∙ simp (both_true, both-assoc)

      pub blinder-heard : completions (view_of blinder t input (x0 ∷ a0 ∷ qm ∷ g ∷ []) coins (b2 ∷ sent) (m1 ∷ m3 ∷ [])) i ≡ 1
      unfolding completions completions_f
      blinder-heard =
          same_count q _ _ _ second-same
          ∙ blinder-open (big session tape q n rhs terms) (seen x0 a0 qm g coins b2 [] m1 m3 []) (part 0 i) (part 1 i) (y1-ok m1 r1) (f-ok m3 r3)

    -- ---- after the last message
    module _ (m1 m3 ml b2 b4 : List ℕ) (r1 : Residues q (message_size 1 t) m1) (r3 : Residues q (message_size 3 t) m3)
        (r2 : Residues q (message_size 2 t) b2) (r4 : Residues q (message_size 4 t) b4) (sent : List (List ℕ)) where
      -- what the solver's last step sends, if anything, on the tape Y0, B0, V; `test` compares it with the last message
      last-same : (last_sent : (y0 b0 v : List ℕ) → List (List ℕ)) (test : (y0 b0 v : List ℕ) → Bool)
          → ((y0 b0 r v : List ℕ) (s : Slot) → Holding solver READY t (y0 ∷ b0 ∷ r ∷ v ∷ []) s
          → solver_messages t s i (b2 ∷ b4 ∷ sent) ≡ join (y1-of y0 ∷ []) ∷ join (f-of b2 y0 b0 r ∷ []) ∷ last_sent y0 b0 v)
          → ((y0 b0 v : List ℕ) → eq_lists (ml ∷ []) (take 1 (last_sent y0 b0 v)) ≡ test y0 b0 v)
          → (ls : List (List ℕ)) → Fits q (solver_tape n rhs) ls
          → is_completion (view_of blinder t input (x0 ∷ a0 ∷ qm ∷ g ∷ []) coins (b2 ∷ b4 ∷ sent) (m1 ∷ m3 ∷ ml ∷ [])) i ls
          ≡ both (gives_f q n rhs (seen x0 a0 qm g coins b2 b4 m1 m3 ml) (part 0 i) (part 1 i) (part 0 ls) (part 1 ls) (part 2 ls) (part 3 ls))
          (test (part 0 ls) (part 1 ls) (part 3 ls))
      unfolding is_completion gives_f gives_y1 both message_layout parts y1-of f-of
      last-same last_sent test sends same ls (◌then◌ {l = y0} ry (◌then◌ {l = b0} rb (◌then◌ {l = r} rr (◌then◌ {l = v} rv none)))) =
          both-same _ _ _ (λ d.
          ap (λ (z : List (List ℕ)). eq_lists (m1 ∷ m3 ∷ ml ∷ []) (take 3 z)) (sends y0 b0 r v _ (held y0 b0 r v ry rr d))
          ∙ (first-test 1 t m1 r1 (y1-fits y0) (m3 ∷ ml ∷ []) _
          ∙ ap (both (eq_lists (cut 1 m1) (y1-of y0 ∷ []))) (first-test 3 t m3 r3 (f-fits b2 y0 b0 r) (ml ∷ []) _
          ∙ ap (both (eq_lists (cut 3 m3) (f-of b2 y0 b0 r ∷ []))) (same y0 b0 v))))
          ∙ ap (λ (z : Bool). both z (both (eq_lists (cut 1 m1) (y1-of y0 ∷ [])) (both (eq_lists (cut 3 m3) (f-of b2 y0 b0 r ∷ [])) (test y0 b0 v)))) (dealt y0 b0 r v ry rr)
          ∙ (unfold eq_lists in simp (both_true, both-assoc))

      -- ---- the blinder kept to the rules
      module _ (own : Taken blinder t input) (coins-ok : Residues q (total (scratch_layout t)) coins)
          (p-regular : regular q n (part 0 (parts (scratch_layout t) coins)) ≡ true)
          (kept : b2 ∷ b4 ∷ sent ≡ blinder_messages t (half_slot blinder t (x0 ∷ a0 ∷ qm ∷ g ∷ [])) input (m1 ∷ m3 ∷ ml ∷ []) (words_for q coins)) where
        abbrev pm : List ℕ
        pm = part 0 (parts (scratch_layout t) coins)

        abbrev u0 : List ℕ
        u0 = part 1 (parts (scratch_layout t) coins)

        coins-fit : Fits q (n * n ∷ n * (n + rhs) ∷ []) (parts (scratch_layout t) coins)
        coins-fit = fits-parts (scratch_layout t) coins-ok

        coins-are : join (pm ∷ u0 ∷ []) ≡ coins
        unfolding parts
        coins-are = join-parts (scratch_layout t) coins-ok

        first : List (List ℕ)
        first = send_x q n n (n + rhs) pm x0 ∷ send_r q n n (n + rhs) pm (part 0 (cut 1 m1)) u0 a0 ∷ []

        second : List (List ℕ)
        second = send_w q n rhs u0 (part 0 (cut 3 m3)) qm pm (part 0 input) g ∷ send_c q n rhs u0 pm (part 1 input) ∷ []

        first_fits : Fits q (message_layout 2 n n (n + rhs)) first
        unfolding message_layout first send_x send_r
        first_fits = add-residues h0 _ _ _ then sub-residues h0 _ _ _ then none

        second_fits : Fits q (message_layout 4 n n (n + rhs)) second
        unfolding message_layout second send_w send_c
        second_fits = rw (columns-are n rhs) (sub-residues h0 (n * n) _ _ then add-residues h0 (n * rhs) _ _ then none)

        both-sent : b2 ∷ b4 ∷ sent ≡ join first ∷ join second ∷ []
        unfolding first second
        both-sent = kept
            ∙ (ap (λ (z : List ℕ). blinder_messages t (half_slot blinder t (x0 ∷ a0 ∷ qm ∷ g ∷ [])) input (m1 ∷ m3 ∷ ml ∷ []) (words_for q z)) (sym coins-are)
            ∙ blinder-sends-all session tape q n rhs terms x0 a0 qm g _ (dealt-alone blinder t (x0 ∷ a0 ∷ qm ∷ g ∷ []) own-fits) input own
            pm u0 m1 (first_of coins-fit) (second-of coins-fit) p-regular r1 m3 r3 (ml ∷ []))

        cut-first : cut 2 b2 ≡ first
        cut-first = ap (λ (z : List (List ℕ)). cut 2 (part 0 z)) both-sent ∙ parts_join first_fits

        cut-second : cut 4 b4 ≡ second
        cut-second = ap (λ (z : List (List ℕ)). cut 4 (part 1 z)) both-sent ∙ parts_join second_fits

        honest : HonestBlinder q n rhs (seen x0 a0 qm g coins b2 b4 m1 m3 ml) (part 0 input) (part 1 input)
        unfolding first second
        honest = record {
          x1-is = ap (part 0) cut-first;
          r1-is = ap (part 1) cut-first;
          w-is = ap (part 0) cut-second;
          c-is = ap (part 1) cut-second;
        }

        -- P and Q have an inverse
        p-has : has_inverse q n pm ≡ true
        p-has = sym (regular-inverse (prime-test q (prime session tape q n rhs terms)) n (first_of coins-fit)) ∙ p-regular

        q-has : has_inverse q n qm ≡ true
        q-has = sym (regular-inverse (prime-test q (prime session tape q n rhs terms)) n (third_of own-fits)) ∙ q-regular

-- ---- after message 5, of a system

module _ (session : SessionId) (tape : TapeId) (q n : ℕ) (terms : TermsFit system (wide_terms session tape q n 1)) (input : List (List ℕ)) (x0 a0 qm g coins : List ℕ)
    (own-fits : Fits q (layout blinder n n (n + 1)) (x0 ∷ a0 ∷ qm ∷ g ∷ [])) (q-regular : regular q n qm ≡ true)
    (i : List (List ℕ)) (ti : Taken solver (wide_terms session tape q n 1) i)
    (m1 m3 m5 b2 b4 : List ℕ) (r1 : Residues q (message_size 1 (wide_terms session tape q n 1)) m1) (r3 : Residues q (message_size 3 (wide_terms session tape q n 1)) m3)
    (r5 : Residues q (message_size 5 (wide_terms session tape q n 1)) m5) (r2 : Residues q (message_size 2 (wide_terms session tape q n 1)) b2)
    (r4 : Residues q (message_size 4 (wide_terms session tape q n 1)) b4) (sent : List (List ℕ)) where
  abbrev ts : Terms
  ts = wide_terms session tape q n 1

  abbrev cuts : ℕ → List ℕ → List (List ℕ)
  cuts kind a = parts (message_layout kind n n (n + 1)) a

  abbrev sum : List ℕ → List ℕ
  sum v = sum_matrix q n (part 0 (cuts 4 b4)) v

  abbrev target : (y0 b0 : List ℕ) → List ℕ
  target y0 b0 = sum_vector q n 1 (part 1 (cuts 4 b4)) (solver_share q n 1 (part 0 (cuts 2 b2)) y0 (part 1 (cuts 2 b2)) b0)

  q-some : 0 < q
  q-some = hq (big session tape q n 1 terms)

  t-fits : (y0 b0 v : List ℕ) → regular q n (sum v) ≡ true → Fits q (message_layout 5 n n (n + 1)) (solution q n (sum v) (target y0 b0) ∷ [])
  unfolding message_layout sum_matrix sum_vector
  t-fits y0 b0 v e =
      subst (λ (k : ℕ). Residues q (n * k) (solution q n (sum v) (target y0 b0))) (sym (columns-are n 1))
      (solution-solves (prime-test q (prime session tape q n 1 terms)) n (add-residues q-some (n * n) _ _) (add-residues q-some (n * 1) _ _) e).0
      then none

  t-is : part 0 (cuts 5 m5) ≡ m5
  unfolding message_layout message_size parts
  t-is = take_all (n * columns n (n + 1)) m5 (omega (arith, r5.size))

  t-ok : Residues q (n * 1) m5
  unfolding message_size message_layout
  t-ok = subst (λ (k : ℕ). Residues q (n * k) m5) (columns-are n 1) r5

  -- t is what the solver's last step sends
  last-test : (y0 b0 v : List ℕ) → eq_lists (m5 ∷ []) (take 1 (cond (regular q n (sum v)) (join (solution q n (sum v) (target y0 b0) ∷ []) ∷ []) []))
      ≡ both (regular q n (sum v)) (eq_list m5 (solution q n (sum v) (target y0 b0)))
  unfolding both eq_lists
  last-test y0 b0 v = go (regular q n (sum v)) refl
    where
      go : (c : Bool) → regular q n (sum v) ≡ c → eq_lists (m5 ∷ []) (take 1 (cond c (join (solution q n (sum v) (target y0 b0) ∷ []) ∷ []) []))
          ≡ both c (eq_list m5 (solution q n (sum v) (target y0 b0)))
      go true e = first-test 5 ts m5 r5 (t-fits y0 b0 v e) [] [] ∙ (unfold message_layout parts in rw t-is (simp both_true))
      go false e = refl

  -- the blinder kept to the rules
  pub blinder-ended : (own : Taken blinder ts input) → Residues q (total (scratch_layout ts)) coins → regular q n (part 0 (parts (scratch_layout ts) coins)) ≡ true
      → b2 ∷ b4 ∷ sent ≡ blinder_messages ts (half_slot blinder ts (x0 ∷ a0 ∷ qm ∷ g ∷ [])) input (m1 ∷ m3 ∷ m5 ∷ []) (words_for q coins)
      → has_inverse q n (mat_add q (n * n) (part 0 i) (part 0 input)) ≡ true
      → completions (view_of blinder ts input (x0 ∷ a0 ∷ qm ∷ g ∷ []) coins (b2 ∷ b4 ∷ sent) (m1 ∷ m3 ∷ m5 ∷ [])) i
      ≡ bit (eq_list (solution q n (mat_add q (n * n) (part 0 i) (part 0 input)) (mat_add q (n * 1) (part 1 i) (part 1 input))) (mat_mul q n n 1 qm m5))
  unfolding completions completions_t gives_t y1-of f-of
  blinder-ended own coins-ok p-regular kept sum-has =
      let pr = prime-test q (prime session tape q n 1 terms) in
      same_count q _ _ _
      (last-same session tape q n 1 terms input x0 a0 qm g coins own-fits q-regular i ti m1 m3 m5 b2 b4 r1 r3 r2 r4 sent _ _
      (λ y0 b0 r v s held. solver-sends-all session tape q n 1 terms y0 b0 r v s held i ti (last-system n) b2 b4 r2 r4 sent) last-test)
      ∙ blinder-end pr (seen session tape q n 1 terms x0 a0 qm g coins b2 b4 m1 m3 m5) (part 0 i) (part 1 i) (part 0 input) (part 1 input)
      (taken-pair ts i ti).matrix.size
      ((taken-pair ts i ti).side.size ∙ side-one session tape q n 1 terms)
      (honest session tape q n 1 terms input x0 a0 qm g coins own-fits q-regular i ti m1 m3 m5 b2 b4 r1 r3 r2 r4 sent own coins-ok p-regular kept)
      (y1-ok session tape q n 1 terms m1 r1) (f-ok session tape q n 1 terms m3 r3) t-ok
      (first_of (fits-parts (scratch_layout ts) coins-ok)) (third_of own-fits)
      (p-has session tape q n 1 terms input x0 a0 qm g coins own-fits q-regular i ti m1 m3 m5 b2 b4 r1 r3 r2 r4 sent own coins-ok p-regular kept)
      (q-has session tape q n 1 terms input x0 a0 qm g coins own-fits q-regular i ti m1 m3 m5 b2 b4 r1 r3 r2 r4 sent own coins-ok p-regular kept) sum-has

-- ---- after message 6, of a determinant session

module _ (session : SessionId) (tape : TapeId) (q n : ℕ) (terms : TermsFit system (wide_terms session tape q n 0)) (input : List (List ℕ)) (x0 a0 qm g coins : List ℕ)
    (own-fits : Fits q (layout blinder n n (n + 0)) (x0 ∷ a0 ∷ qm ∷ g ∷ [])) (q-regular : regular q n qm ≡ true)
    (i : List (List ℕ)) (ti : Taken solver (wide_terms session tape q n 0) i)
    (m1 m3 m6 b2 b4 : List ℕ) (r1 : Residues q (message_size 1 (wide_terms session tape q n 0)) m1) (r3 : Residues q (message_size 3 (wide_terms session tape q n 0)) m3)
    (r6 : Residues q (message_size 6 (wide_terms session tape q n 0)) m6) (r2 : Residues q (message_size 2 (wide_terms session tape q n 0)) b2)
    (r4 : Residues q (message_size 4 (wide_terms session tape q n 0)) b4) (sent : List (List ℕ)) where
  abbrev td : Terms
  td = wide_terms session tape q n 0

  abbrev d : List ℕ → ℕ
  d v = send_d q n (part 0 (parts (message_layout 4 n n (n + 0)) b4)) v

  d-ok : Residues q 1 m6
  unfolding message_size message_layout
  d-ok = r6

  d-is : part 0 (parts (message_layout 6 n n (n + 0)) m6) ≡ m6
  unfolding message_layout parts
  d-is = take_all 1 m6 (omega (arith, d-ok.size))

  sent-ok : (v : List ℕ) → Residues q 1 (d v ∷ [])
  unfolding send_d
  sent-ok v = one-residue (det-residue (hq (big session tape q n 0 terms)) n _)

  d-fits : (v : List ℕ) → Fits q (message_layout 6 n n (n + 0)) ((d v ∷ []) ∷ [])
  unfolding message_layout
  d-fits v = sent-ok v then none

  -- d is what the solver's last step sends
  determinant-test : (y0 b0 v : List ℕ) → eq_lists (m6 ∷ []) (take 1 (join ((d v ∷ []) ∷ []) ∷ [])) ≡ eq_list m6 (d v ∷ [])
  unfolding eq_lists
  determinant-test y0 b0 v = first-test 6 td m6 r6 (d-fits v) [] [] ∙ (unfold message_layout parts in rw d-is (simp both_true))

  -- the blinder kept to the rules
  pub blinder-determined : (own : Taken blinder td input) → Residues q (total (scratch_layout td)) coins
      → regular q n (part 0 (parts (scratch_layout td) coins)) ≡ true
      → b2 ∷ b4 ∷ sent ≡ blinder_messages td (half_slot blinder td (x0 ∷ a0 ∷ qm ∷ g ∷ [])) input (m1 ∷ m3 ∷ m6 ∷ []) (words_for q coins)
      → completions (view_of blinder td input (x0 ∷ a0 ∷ qm ∷ g ∷ []) coins (b2 ∷ b4 ∷ sent) (m1 ∷ m3 ∷ m6 ∷ [])) i
      ≡ bit (eqb (det q n (mat_add q (n * n) (part 0 i) (part 0 input))) (answer q n (part 0 (parts (scratch_layout td) coins)) qm (get_or m6 0 0)))
  unfolding completions completions_d gives_d y1-of f-of
  blinder-determined own coins-ok p-regular kept =
      same_count q _ _ _
      (last-same session tape q n 0 terms input x0 a0 qm g coins own-fits q-regular i ti m1 m3 m6 b2 b4 r1 r3 r2 r4 sent _ _
      (λ y0 b0 r v s held. solver-sends-determinant session tape q n 0 terms y0 b0 r v s held i ti (last-determinant n) b2 b4 r2 r4 sent) determinant-test)
      ∙ blinder-det (prime-test q (prime session tape q n 0 terms)) (seen session tape q n 0 terms x0 a0 qm g coins b2 b4 m1 m3 m6) (part 0 i) (part 1 i)
      (part 0 input) (part 1 input) (taken-pair td i ti).matrix.size ((taken-pair td i ti).side.size ∙ side-one session tape q n 0 terms)
      (honest session tape q n 0 terms input x0 a0 qm g coins own-fits q-regular i ti m1 m3 m6 b2 b4 r1 r3 r2 r4 sent own coins-ok p-regular kept)
      (y1-ok session tape q n 0 terms m1 r1) (f-ok session tape q n 0 terms m3 r3) d-ok
      (p-has session tape q n 0 terms input x0 a0 qm g coins own-fits q-regular i ti m1 m3 m6 b2 b4 r1 r3 r2 r4 sent own coins-ok p-regular kept)
      (q-has session tape q n 0 terms input x0 a0 qm g coins own-fits q-regular i ti m1 m3 m6 b2 b4 r1 r3 r2 r4 sent own coins-ok p-regular kept)
