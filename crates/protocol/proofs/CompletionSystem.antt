-- What the ends of a system send, by their own steps, on whatever residues they get: algebra's formulas. Assumes nothing.
-- solver-sends-one, solver-sends-two                     the solver's messages, as far as the messages that it gets carry it
-- solver-sends-all, solver-sends-determinant             all of them, in a system and in a determinant session; solver-sends-last: in either
-- blinder-sends-one, blinder-sends-all                   the blinder's
use mathlib.Core.Path.{◌≡◌, refl, ◌∙◌}
use mathlib.Core.Bool.{Bool, true, false, cond}
use mathlib.Core.List.{List, [], ◌∷◌, ◌++◌}
use Prim.Native.Nat.{ℕ, ◌+◌, ◌*◌}
use native.Mathlib.Nat.{le_refl}
use native.Mathlib.Omega.{arith}
use lib.Dec.{eqb}
use lib.ListN.{length, take}
use Rattle.algebra.specs.Matrix.{Residues, zeros}
use Rattle.algebra.specs.Count.{parts, part, join}
use Rattle.algebra.specs.Columns.{beside}
use Rattle.algebra.specs.Elimination.{regular, solution}
use Rattle.algebra.specs.Product.{send_y, send_x, send_r}
use Rattle.algebra.specs.System.{solver_share, send_f, send_w, send_c, sum_matrix, sum_vector}
use Rattle.algebra.specs.Words.{over}
use Rattle.determinant.specs.Determinant.{det}
use Rattle.determinant.specs.Session.{send_d}
use Rattle.algebra.proofs.Lists.{length-tabulate}
use Rattle.algebra.proofs.Parts.{Fits, none, ◌then◌, fits-join, parts_join}
use Rattle.protocol.specs.declared.SessionId.{SessionId}
use Rattle.protocol.specs.declared.TapeId.{TapeId}
use Rattle.protocol.specs.declared.Terms.{Terms}
use Rattle.protocol.specs.Drawing.{words_for}
use Rattle.protocol.specs.Bounds.{system, input_tests}
use Rattle.protocol.specs.Tape.{Slot, blinder, solver, READY}
use Rattle.protocol.specs.Message.{no_message, message_of, last_kind, message_layout, message_size}
use Rattle.protocol.specs.System.{side_size, scratch_size, scratch_parts, regular_tests, coins_of, solver_first_effect, blinder_first_effect, solver_second_effect, solver_second, blinder_second, solver_ending}
use Rattle.protocol.specs.Completion.{incoming, said, and_then, hearing, solver_messages, blinder_messages, Taken, pair_tests}
use Rattle.protocol.proofs.Judge.{all_split, passed}
use Rattle.protocol.proofs.Tests.{TermsFit}
use Rattle.protocol.proofs.Residues.{input-residues}
use Rattle.protocol.proofs.Halves.{Holding}
use Rattle.protocol.proofs.SystemEnds.{wide_terms, system-kind, determinant-kind, ending-system, ending-determinant, SolverEnd, BlinderEnd, y1, step1, sent1, solver1, slot1, slot3, share, f, solver3, sum, target, step3, sent3, session3, step5, sent5, step5-determinant, sent5-determinant, coins, pm, u0, x1, blinder2, r1, w, c, slot2, step2, sent2, step4, sent4}
use Rattle.protocol.proofs.CompletionLaws.{drawn-own, drawn-enough, message-fits, incoming-is, then-accepted, said-message}

-- ---- the inputs that the steps take

pub record Pair (t : Terms) (i : List (List ℕ)) : Type 0 where
  pub matrix : Residues t.q (t.m * t.m) (part 0 i)
  pub side : Residues t.q (side_size t) (part 1 i)
  pub inverse : regular t.q t.m (part 0 i) ≡ true

pub taken-pair : (t : Terms) (i : List (List ℕ)) → Taken solver t i → Pair t i
unfolding regular_tests
taken-pair t i taken =
    let a = all_split (input_tests t.q (t.m * t.m) (part 0 i) ++ input_tests t.q (side_size t) (part 1 i)) (regular_tests t.q t.m (part 0 i))
    (passed (pair_tests t i) taken).0 in
    let b = all_split (input_tests t.q (t.m * t.m) (part 0 i)) (input_tests t.q (side_size t) (part 1 i)) a.0 in
    record { matrix = input-residues t.q (t.m * t.m) (part 0 i) b.0; side = input-residues t.q (side_size t) (part 1 i) b.1; inverse = a.1.0 }

-- ---- the ends' steps

module _ (session : SessionId) (tape : TapeId) (q n rhs : ℕ) (terms : TermsFit system (wide_terms session tape q n rhs)) where
  abbrev t : Terms
  t = wide_terms session tape q n rhs

  -- a message's residues, in its parts
  abbrev cut : ℕ → List ℕ → List (List ℕ)
  cut kind a = parts (message_layout kind n n (n + rhs)) a

  module _ (y0 b0 r v : List ℕ) (s : Slot) (h : Holding solver READY t (y0 ∷ b0 ∷ r ∷ v ∷ []) s) (input : List (List ℕ)) (taken : Taken solver t input) where
    abbrev S : SolverEnd rhs
    S = record {
      session = session;
      tape = tape;
      q = q;
      n = n;
      y0 = y0;
      b0 = b0;
      r = r;
      v = v;
      slot = s;
      l = part 0 input;
      x = part 1 input;
      terms-fit = terms;
      half = h;
      l-fits = (taken-pair t input taken).matrix;
      x_fits = (taken-pair t input taken).side;
      l-regular = (taken-pair t input taken).inverse;
    }

    -- the messages after the first
    after1 : List (List ℕ) → List (List ℕ)
    after1 got = hearing got (λ a got.
        and_then (slot1 S) (solver_second (solver1 S) (slot1 S) (incoming 2 t a) (message_size 3 t)) (λ x s. hearing got (λ a got.
        and_then s (solver_ending x s (incoming 4 t a) (message_size (last_kind n (n + rhs)) t)) (λ x s. []))))

    sends1 : (got : List (List ℕ)) → solver_messages t s input got ≡ join (y1 S ∷ []) ∷ after1 got
    unfolding solver_messages after1 solver1 slot1 solver_first_effect
    sends1 got = then-accepted s _ _ _ (step1 S (message_size 1 t) (le_refl _)) ∙ rw (sent1 S, said-message) refl

    -- and after message 2
    after3 : List ℕ → List (List ℕ) → List (List ℕ)
    after3 a got = hearing got (λ b got.
        and_then (slot3 S) (solver_ending (solver3 S (cut 2 a)) (slot3 S) (incoming 4 t b) (message_size (last_kind n (n + rhs)) t)) (λ x s. []))

    sends3 : (a : List ℕ) → Residues q (message_size 2 t) a → (got : List (List ℕ)) → after1 (a ∷ got) ≡ join (f S (cut 2 a) ∷ []) ∷ after3 a got
    unfolding after1 hearing
    sends3 a ra got =
        rw (incoming-is 2 t a ra)
        (then-accepted (slot1 S) _ _ _ (step3 S (cut 2 a) (message-fits 2 t a ra) (message_size 3 t) (le_refl _))
        ∙ rw (sent3 S (cut 2 a) (message-fits 2 t a ra), said-message, session3 S (cut 2 a) (message-fits 2 t a ra))
        (unfold after3 slot3 solver_second_effect solver1 in refl))

    sends5 : last_kind n (n + rhs) ≡ 5 → (a b : List ℕ) → Residues q (message_size 4 t) b → (got : List (List ℕ))
        → after3 a (b ∷ got) ≡ cond (regular q n (sum S (cut 4 b))) (join (solution q n (sum S (cut 4 b)) (target S (cut 2 a) (cut 4 b)) ∷ []) ∷ []) []
    unfolding after3 hearing said
    sends5 k a b rb got =
        rw (incoming-is 4 t b rb, ending-system (solver3 S (cut 2 a)) (slot3 S) (message_of 4 t (cut 4 b)) (message_size (last_kind n (n + rhs)) t) (unfold solver3 in k), k)
        (then-accepted (slot3 S) _ _ _ (step5 S (cut 2 a) (cut 4 b) (message-fits 4 t b rb) k (message_size 5 t) (le_refl _))
        ∙ rw (sent5 S (cut 2 a) (cut 4 b) (message-fits 4 t b rb)) (go (regular q n (sum S (cut 4 b))) (solution q n (sum S (cut 4 b)) (target S (cut 2 a) (cut 4 b)))))
      where
        go : (x : Bool) (z : List ℕ) → said (cond x (message_of 5 t (z ∷ [])) no_message) ++ [] ≡ cond x (join (z ∷ []) ∷ []) []
        go true z = refl
        go false z = refl

    sends6 : last_kind n (n + rhs) ≡ 6 → (a b : List ℕ) → Residues q (message_size 4 t) b → (got : List (List ℕ))
        → after3 a (b ∷ got) ≡ join ((det q n (sum S (cut 4 b)) ∷ []) ∷ []) ∷ []
    unfolding after3 hearing said
    sends6 k a b rb got =
        rw (incoming-is 4 t b rb, ending-determinant (solver3 S (cut 2 a)) (slot3 S) (message_of 4 t (cut 4 b)) (message_size (last_kind n (n + rhs)) t) (unfold solver3 in k), k)
        (then-accepted (slot3 S) _ _ _ (step5-determinant S (cut 2 a) (cut 4 b) (message-fits 4 t b rb) k (message_size 6 t) (le_refl _))
        ∙ rw (sent5-determinant S (cut 2 a) (cut 4 b) (message-fits 4 t b rb)) refl)

    -- the solver's messages, as far as the messages that it gets carry it
    pub solver-sends-one : (got : List (List ℕ)) → take 1 (solver_messages t s input got) ≡ join (send_y q n n (n + rhs) (beside n n rhs (part 0 input) (part 1 input)) y0 ∷ []) ∷ []
    unfolding y1
    solver-sends-one got = rw (sends1 got)

    -- S, by message 2
    abbrev pub share_of : (m2 : List ℕ) → List ℕ
    share_of a = solver_share q n rhs (part 0 (parts (message_layout 2 n n (n + rhs)) a)) y0 (part 1 (parts (message_layout 2 n n (n + rhs)) a)) b0

    pub solver-sends-two : (a : List ℕ) → Residues q (message_size 2 t) a → (got : List (List ℕ)) → take 2 (solver_messages t s input (a ∷ got))
        ≡ join (send_y q n n (n + rhs) (beside n n rhs (part 0 input) (part 1 input)) y0 ∷ []) ∷ join (send_f q n rhs r (share_of a) ∷ []) ∷ []
    unfolding y1 f share
    solver-sends-two a ra got = rw (sends1 (a ∷ got), sends3 a ra got)

    pub solver-sends-all : last_kind n (n + rhs) ≡ 5 → (a b : List ℕ) → Residues q (message_size 2 t) a → Residues q (message_size 4 t) b → (got : List (List ℕ)) → solver_messages t s input (a ∷ b ∷ got)
        ≡ join (send_y q n n (n + rhs) (beside n n rhs (part 0 input) (part 1 input)) y0 ∷ []) ∷ join (send_f q n rhs r (share_of a) ∷ [])
        ∷ cond (regular q n (sum_matrix q n (part 0 (parts (message_layout 4 n n (n + rhs)) b)) v))
        (join (solution q n (sum_matrix q n (part 0 (parts (message_layout 4 n n (n + rhs)) b)) v)
        (sum_vector q n rhs (part 1 (parts (message_layout 4 n n (n + rhs)) b)) (share_of a)) ∷ []) ∷ []) []
    unfolding y1 f share sum target
    solver-sends-all k a b ra rb got = rw (sends1 (a ∷ b ∷ got), sends3 a ra (b ∷ got), sends5 k a b rb got)

    pub solver-sends-determinant : last_kind n (n + rhs) ≡ 6 → (a b : List ℕ) → Residues q (message_size 2 t) a → Residues q (message_size 4 t) b → (got : List (List ℕ))
        → solver_messages t s input (a ∷ b ∷ got)
        ≡ join (send_y q n n (n + rhs) (beside n n rhs (part 0 input) (part 1 input)) y0 ∷ []) ∷ join (send_f q n rhs r (share_of a) ∷ [])
        ∷ join ((send_d q n (part 0 (parts (message_layout 4 n n (n + rhs)) b)) v ∷ []) ∷ []) ∷ []
    unfolding y1 f share sum send_d
    solver-sends-determinant k a b ra rb got = rw (sends1 (a ∷ b ∷ got), sends3 a ra (b ∷ got), sends6 k a b rb got)

    -- of either sort: what its last step sends, if anything
    abbrev pub last_said : (m2 m4 : List ℕ) → List (List ℕ)
    last_said a b =
        cond (eqb (n + rhs) n) (join ((send_d q n (part 0 (parts (message_layout 4 n n (n + rhs)) b)) v ∷ []) ∷ []) ∷ [])
        (cond (regular q n (sum_matrix q n (part 0 (parts (message_layout 4 n n (n + rhs)) b)) v))
        (join (solution q n (sum_matrix q n (part 0 (parts (message_layout 4 n n (n + rhs)) b)) v)
        (sum_vector q n rhs (part 1 (parts (message_layout 4 n n (n + rhs)) b)) (share_of a)) ∷ []) ∷ []) [])

    pub solver-sends-last : (a b : List ℕ) → Residues q (message_size 2 t) a → Residues q (message_size 4 t) b → (got : List (List ℕ))
        → solver_messages t s input (a ∷ b ∷ got)
        ≡ join (send_y q n n (n + rhs) (beside n n rhs (part 0 input) (part 1 input)) y0 ∷ []) ∷ join (send_f q n rhs r (share_of a) ∷ []) ∷ last_said a b
    solver-sends-last a b ra rb got = go (eqb (n + rhs) n) refl
      where
        go : (c : Bool) → eqb (n + rhs) n ≡ c → solver_messages t s input (a ∷ b ∷ got)
            ≡ join (send_y q n n (n + rhs) (beside n n rhs (part 0 input) (part 1 input)) y0 ∷ []) ∷ join (send_f q n rhs r (share_of a) ∷ []) ∷ last_said a b
        go true e = solver-sends-determinant (determinant-kind t e) a b ra rb got ∙ rw e refl
        go false e = solver-sends-all (system-kind t e) a b ra rb got ∙ rw e refl

  -- ---- the blinder, with P and U0

  module _ (x0 a0 qm g : List ℕ) (s : Slot) (h : Holding blinder READY t (x0 ∷ a0 ∷ qm ∷ g ∷ []) s) (input : List (List ℕ)) (taken : Taken blinder t input)
      (p u a : List ℕ) (rp : Residues q (n * n) p) (ru : Residues q (n * (n + rhs)) u) (p-regular : regular q n p ≡ true) (ra : Residues q (message_size 1 t) a) where
    abbrev drawn_coins : List ℕ
    drawn_coins = join (p ∷ u ∷ [])

    drawn-residues : Residues q (scratch_size t) drawn_coins
    unfolding scratch_size
    drawn-residues = fits-join (rp then ru then none)

    coins-are : coins_of t (words_for q drawn_coins) ≡ drawn_coins
    unfolding coins_of
    coins-are = drawn-own terms.small drawn-residues

    coins-parts : scratch_parts t drawn_coins ≡ p ∷ u ∷ []
    unfolding scratch_parts
    coins-parts = parts_join (rp then ru then none)

    lent_length : length (zeros (scratch_size t)) ≡ scratch_size t
    unfolding zeros
    lent_length = length-tabulate (scratch_size t) (λ i. 0)

    abbrev B : BlinderEnd rhs
    B = record {
      session = session;
      tape = tape;
      q = q;
      n = n;
      x0 = x0;
      a0 = a0;
      qm = qm;
      g = g;
      slot = s;
      mm = part 0 input;
      y = part 1 input;
      words = words_for q drawn_coins;
      scratch = zeros (scratch_size t);
      terms-fit = terms;
      half = h;
      m-fits = (taken-pair t input taken).matrix;
      y-fits = (taken-pair t input taken).side;
      m-regular = (taken-pair t input taken).inverse;
      enough = drawn-enough terms.small drawn-residues;
      p-regular = rw (coins-are, coins-parts) p-regular;
      scratch-room = omega (arith, lent_length);
    }

    coins-is : coins B ≡ drawn_coins
    unfolding coins
    coins-is = coins-are

    pm-is : pm B ≡ p
    unfolding pm
    pm-is = rw (coins-is, coins-parts)

    u0-is : u0 B ≡ u
    unfolding u0
    u0-is = rw (coins-is, coins-parts)

    f1 : Fits q (message_layout 1 n n (n + rhs)) (cut 1 a)
    f1 = message-fits 1 t a ra

    after2 : List (List ℕ) → List (List ℕ)
    after2 got = hearing got (λ a' got. and_then (slot2 B (cut 1 a))
        (blinder_second (blinder2 B) (slot2 B (cut 1 a)) (over (coins B) (zeros (scratch_size t))) (incoming 3 t a') (message_size 4 t)) (λ x s. []))

    first-scratch : (blinder_first_effect t s (part 0 input) (part 1 input) (words_for q drawn_coins) (message_of 1 t (cut 1 a))).scratch ≡ coins B
    unfolding blinder_first_effect coins
    first-scratch = refl

    sends2 : (got : List (List ℕ)) → blinder_messages t s input (a ∷ got) (words_for q drawn_coins) ≡ join (x1 B ∷ r1 B (cut 1 a) ∷ []) ∷ after2 got
    unfolding blinder_messages hearing
    sends2 got =
        let taken2 = step2 B (cut 1 a) f1 (message_size 2 t) (le_refl _) in
        rw (incoming-is 1 t a ra)
        (then-accepted s _ _ _ taken2 ∙ rw (sent2 B (cut 1 a) f1, said-message, taken2, first-scratch) (unfold after2 slot2 blinder2 blinder_first_effect in refl))

    sent_is : x1 B ∷ r1 B (cut 1 a) ∷ [] ≡ send_x q n n (n + rhs) p x0 ∷ send_r q n n (n + rhs) p (part 0 (cut 1 a)) u a0 ∷ []
    unfolding x1 r1
    sent_is = rw (pm-is, u0-is)

    pub blinder-sends-one : (got : List (List ℕ)) → take 1 (blinder_messages t s input (a ∷ got) (words_for q (join (p ∷ u ∷ []))))
        ≡ join (send_x q n n (n + rhs) p x0 ∷ send_r q n n (n + rhs) p (part 0 (parts (message_layout 1 n n (n + rhs)) a)) u a0 ∷ []) ∷ []
    blinder-sends-one got = rw (sends2 got, sent_is)

    -- ---- on message 3
    module _ (b : List ℕ) (rb : Residues q (message_size 3 t) b) where
      sends4 : (got : List (List ℕ)) → after2 (b ∷ got) ≡ join (w B (cut 3 b) ∷ c B ∷ []) ∷ []
      unfolding after2 hearing
      sends4 got =
          let f3 = message-fits 3 t b rb in
          rw (incoming-is 3 t b rb)
          (then-accepted (slot2 B (cut 1 a)) _ _ _ (step4 B (cut 1 a) (cut 3 b) f3 (message_size 4 t) (le_refl _)) ∙ rw (sent4 B (cut 1 a) (cut 3 b) f3, said-message) refl)

      answered-is : w B (cut 3 b) ∷ c B ∷ [] ≡ send_w q n rhs u (part 0 (cut 3 b)) qm p (part 0 input) g ∷ send_c q n rhs u p (part 1 input) ∷ []
      unfolding w c
      answered-is = rw (pm-is, u0-is)

      pub blinder-sends-all : (got : List (List ℕ)) → blinder_messages t s input (a ∷ b ∷ got) (words_for q (join (p ∷ u ∷ [])))
          ≡ join (send_x q n n (n + rhs) p x0 ∷ send_r q n n (n + rhs) p (part 0 (parts (message_layout 1 n n (n + rhs)) a)) u a0 ∷ [])
          ∷ join (send_w q n rhs u (part 0 (parts (message_layout 3 n n (n + rhs)) b)) qm p (part 0 input) g ∷ send_c q n rhs u p (part 1 input) ∷ [])
          ∷ []
      blinder-sends-all got = rw (sends2 (b ∷ got), sends4 got, sent_is, answered-is)
