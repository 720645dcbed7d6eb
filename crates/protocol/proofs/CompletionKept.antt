-- A viewer of a finished system whose messages are those of the formulas kept to the rules. Assumes nothing.
-- solver-kept   Y1, F and t; solver-kept-determinant: Y1, F and the determinant
-- blinder-kept  X1, R1, W and c
use mathlib.Core.Path.{◌≡◌, refl, sym, ap, ◌∙◌}
use mathlib.Core.Bool.{true}
use mathlib.Core.List.{List, [], ◌∷◌}
use Prim.Native.Nat.{ℕ, ◌+◌, ◌*◌}
use native.Mathlib.Omega.{arith}
use Rattle.algebra.specs.Matrix.{Residues}
use Rattle.algebra.specs.Count.{parts, part, join, total}
use Rattle.algebra.specs.Columns.{beside}
use Rattle.algebra.specs.Elimination.{regular, solution}
use Rattle.algebra.specs.Product.{send_y, send_x, send_r}
use Rattle.algebra.specs.System.{solver_share, send_f, send_w, send_c, sum_matrix, sum_vector}
use Rattle.determinant.specs.Session.{send_d}
use Rattle.algebra.proofs.Parts.{Fits, fits-parts, join-parts}
use Rattle.protocol.specs.declared.SessionId.{SessionId}
use Rattle.protocol.specs.declared.TapeId.{TapeId}
use Rattle.protocol.specs.declared.Terms.{Terms}
use Rattle.protocol.specs.Drawing.{words_for}
use Rattle.protocol.specs.Bounds.{system}
use Rattle.protocol.specs.Tape.{blinder, solver, layout}
use Rattle.protocol.specs.Message.{last_kind, message_layout, message_size}
use Rattle.protocol.specs.System.{scratch_layout}
use Rattle.protocol.specs.Completion.{blinder_messages, Taken}
use Rattle.protocol.proofs.Tests.{TermsFit}
use Rattle.protocol.proofs.SystemEnds.{wide_terms}
use Rattle.protocol.proofs.CompletionLaws.{first_of, second-of, half_slot, dealt-alone, view_of}
use Rattle.protocol.proofs.CompletionSystem.{solver-sends-all, solver-sends-determinant, blinder-sends-all}
use Rattle.protocol.proofs.Completion.{Kept}

module _ (session : SessionId) (tape : TapeId) (q n rhs : ℕ) (terms : TermsFit system (wide_terms session tape q n rhs)) (input : List (List ℕ)) where
  abbrev t : Terms
  t = wide_terms session tape q n rhs

  abbrev cut : ℕ → List ℕ → List (List ℕ)
  cut kind a = parts (message_layout kind n n (n + rhs)) a

  -- ---- the solver, with messages 2 and 4
  module _ (taken : Taken solver t input) (y0 b0 r v : List ℕ) (fits : Fits q (layout solver n n (n + rhs)) (y0 ∷ b0 ∷ r ∷ v ∷ [])) (m2 m4 : List ℕ)
      (r2 : Residues q (message_size 2 t) m2) (r4 : Residues q (message_size 4 t) m4) where
    abbrev share : List ℕ
    share = solver_share q n rhs (part 0 (cut 2 m2)) y0 (part 1 (cut 2 m2)) b0

    abbrev sum : List ℕ
    sum = sum_matrix q n (part 0 (cut 4 m4)) v

    pub solver-kept : last_kind n (n + rhs) ≡ 5 → regular q n sum ≡ true
        → Kept (view_of solver t input (y0 ∷ b0 ∷ r ∷ v ∷ []) []
        (join (send_y q n n (n + rhs) (beside n n rhs (part 0 input) (part 1 input)) y0 ∷ []) ∷ join (send_f q n rhs r share ∷ []) ∷ join
        (solution q n sum (sum_vector q n rhs (part 1 (cut 4 m4)) share) ∷ []) ∷ [])
        (m2 ∷ m4 ∷ []))
    solver-kept k e = record {
      input-taken = taken;
      coins-residues = record { size = refl; below = λ i l. absurd (omega (arith, l)) };
      coins-fit = refl;
      sent_is = sym (solver-sends-all session tape q n rhs terms y0 b0 r v (half_slot solver t (y0 ∷ b0 ∷ r ∷ v ∷ []))
          (dealt-alone solver t (y0 ∷ b0 ∷ r ∷ v ∷ []) fits) input taken k m2 m4 r2 r4 [] ∙ rw e refl);
    }

    pub solver-kept-determinant : last_kind n (n + rhs) ≡ 6
        → Kept (view_of solver t input (y0 ∷ b0 ∷ r ∷ v ∷ []) []
        (join (send_y q n n (n + rhs) (beside n n rhs (part 0 input) (part 1 input)) y0 ∷ []) ∷ join (send_f q n rhs r share ∷ []) ∷ join
        ((send_d q n (part 0 (cut 4 m4)) v ∷ []) ∷ []) ∷ [])
        (m2 ∷ m4 ∷ []))
    solver-kept-determinant k = record {
      input-taken = taken;
      coins-residues = record { size = refl; below = λ i l. absurd (omega (arith, l)) };
      coins-fit = refl;
      sent_is = sym (solver-sends-determinant session tape q n rhs terms y0 b0 r v (half_slot solver t (y0 ∷ b0 ∷ r ∷ v ∷ []))
          (dealt-alone solver t (y0 ∷ b0 ∷ r ∷ v ∷ []) fits) input taken k m2 m4 r2 r4 []);
    }

  -- ---- the blinder, with messages 1 and 3, and t
  module _ (taken : Taken blinder t input) (x0 a0 qm g : List ℕ) (fits : Fits q (layout blinder n n (n + rhs)) (x0 ∷ a0 ∷ qm ∷ g ∷ [])) (coins m1 m3 m5 : List ℕ)
      (rc : Residues q (total (scratch_layout t)) coins) (r1 : Residues q (message_size 1 t) m1) (r3 : Residues q (message_size 3 t) m3) where
    abbrev pm : List ℕ
    pm = part 0 (parts (scratch_layout t) coins)

    abbrev u0 : List ℕ
    u0 = part 1 (parts (scratch_layout t) coins)

    coins-parts : Fits q (n * n ∷ n * (n + rhs) ∷ []) (parts (scratch_layout t) coins)
    coins-parts = fits-parts (scratch_layout t) rc

    coins-are : join (pm ∷ u0 ∷ []) ≡ coins
    unfolding parts
    coins-are = join-parts (scratch_layout t) rc

    pub blinder-kept : regular q n pm ≡ true
        → Kept (view_of blinder t input (x0 ∷ a0 ∷ qm ∷ g ∷ []) coins
        (join (send_x q n n (n + rhs) pm x0 ∷ send_r q n n (n + rhs) pm (part 0 (cut 1 m1)) u0 a0 ∷ []) ∷ join
        (send_w q n rhs u0 (part 0 (cut 3 m3)) qm pm (part 0 input) g ∷ send_c q n rhs u0 pm (part 1 input) ∷ []) ∷ [])
        (m1 ∷ m3 ∷ m5 ∷ []))
    blinder-kept e = record {
      input-taken = taken;
      coins-residues = rc;
      coins-fit = e;
      sent_is = sym (ap (λ (z : List ℕ). blinder_messages t (half_slot blinder t (x0 ∷ a0 ∷ qm ∷ g ∷ [])) input (m1 ∷ m3 ∷ m5 ∷ []) (words_for q z)) (sym coins-are)
          ∙ blinder-sends-all session tape q n rhs terms x0 a0 qm g (half_slot blinder t (x0 ∷ a0 ∷ qm ∷ g ∷ []))
          (dealt-alone blinder t (x0 ∷ a0 ∷ qm ∷ g ∷ []) fits) input taken pm u0 m1 (first_of coins-parts) (second-of coins-parts) e r1 m3 r3 (m5 ∷ []));
    }
