-- DEMAND 3's counts for one session's views: every view that can arise is secret. Assumes nothing.
-- Arises   what holds of a view, whatever the other end did: its parts are residues in their counts, and a viewer whose system is finished kept to the rules
-- secret   each such view has the counts that demand 3 asks for
use mathlib.Core.Path.{◌≡◌, refl, sym, ap, ap₂, ◌∙◌, subst}
use mathlib.Core.Bool.{Bool, true, false, cond, false≢true}
use mathlib.Core.List.{List, [], ◌∷◌}
use Prim.Native.Nat.{ℕ, zero, suc, ◌+◌, ◌-◌, ◌*◌, ◌≤◌}
use native.Mathlib.Omega.{arith}
use lib.Dec.{eqb}
use lib.ListN.{length}
use borrow.Author.Tests.{eqb-true, eq-eqb, ne_eqb}
use Rattle.algebra.specs.Matrix.{Residues}
use Rattle.algebra.specs.Count.{bit, eq_list, parts, part, total}
use Rattle.algebra.specs.Elimination.{regular, units}
use Rattle.algebra.proofs.Tests.{is_false, eq_list-eq, eq_list-of}
use Rattle.algebra.proofs.Parts.{Fits, none, ◌then◌}
use Rattle.protocol.specs.declared.SessionId.{SessionId}
use Rattle.protocol.specs.declared.TapeId.{TapeId}
use Rattle.protocol.specs.declared.Terms.{Terms}
use Rattle.protocol.specs.Bounds.{product, system, columns}
use Rattle.protocol.specs.Tape.{Role, left, right, blinder, solver, sort_of, layout}
use Rattle.protocol.specs.Message.{last_kind, message_size}
use Rattle.protocol.specs.View.{View, facing, coin_layout, kinds_sent, Finished}
use Rattle.protocol.specs.Completion.{messages_of, coins_fit, completions, Taken, Counted, answer_for, answer_seen, Secret}
use Rattle.protocol.proofs.Tests.{TermsFit, system-sides}
use Rattle.protocol.proofs.SystemEnds.{wide_terms, last-system, last-determinant}
use Rattle.protocol.proofs.CompletionLaws.{both_true, half_slot, view_of, nothing-received}
use Rattle.protocol.proofs.CompletionProduct.{left_one, right-one}
use Rattle.protocol.proofs.CompletionSolver.{solver-same, solver-ranked}
use Rattle.protocol.proofs.CompletionOpen.{solver-heard}
use Rattle.protocol.proofs.CompletionBlinder.{blinder-started, blinder-heard, blinder-ended, blinder-determined}

-- ---- the views that can arise

infixr 50 ◌before◌
-- residues of messages of these kinds, one after the other; the last ones may be missing
pub data Messages (t : Terms) : (kinds : List ℕ) → List (List ℕ) → Type 0 where
  no_more : {ks : List ℕ} → Messages t ks []
  ◌before◌ : {k : ℕ} {a : List ℕ} {ks : List ℕ} {as' : List (List ℕ)} → Residues t.q (message_size k t) a → Messages t ks as' → Messages t (k ∷ ks) (a ∷ as')

-- how many messages an end has received before it sends its first
abbrev pub ahead : Role → ℕ
ahead left = 1
ahead right = 0
ahead blinder = 1
ahead solver = 0

-- Q, where the own half has it, has an inverse
abbrev pub own_mask : Role → Terms → (half : List (List ℕ)) → Bool
own_mask left t h = true
own_mask right t h = true
own_mask blinder t h = regular t.q t.m (part 2 h)
own_mask solver t h = true

-- the viewer kept to the rules: its messages are those that its own steps send on what it received
pub record Kept (v : View) : Type 0 where
  pub input-taken : Taken v.role v.terms v.input
  pub coins-residues : Residues v.terms.q (total (coin_layout v.role v.terms)) v.coins
  pub coins-fit : coins_fit v.role v.terms (parts (coin_layout v.role v.terms) v.coins) ≡ true
  pub sent_is : v.sent ≡ messages_of v.role v.terms (half_slot v.role v.terms v.half) v.coins v.input v.received

pub record Arises (v : View) : Type 0 where
  pub terms-fit : TermsFit (sort_of v.role) v.terms
  pub half-fits : Fits v.terms.q (layout v.role v.terms.m v.terms.k v.terms.p) v.half
  pub mask_fits : own_mask v.role v.terms v.half ≡ true
  -- of a product, any message that the other end took
  pub sent-fit : Messages v.terms (kinds_sent v.role v.terms) v.sent
  pub received-fit : Messages v.terms (kinds_sent (facing v.role) v.terms) v.received
  pub in-turn : length v.received ≤ length v.sent + ahead v.role
  pub kept : sort_of v.role ≡ system → Finished v → Kept v

-- ---- products

pub never : {A : Type 0} {a b : Role} → a ≡ b → (a ≡ b → ◌≡◌ {A = ℕ} 0 1) → A
never e f = absurd (omega (arith, f e))

left-secret : (t : Terms) (input half : List (List ℕ)) (coins : List ℕ) (sent received : List (List ℕ)) → TermsFit product t
    → Fits t.q (layout left t.m t.k t.p) half → Messages t (1 ∷ []) received → Secret (view_of left t input half coins sent received)
left-secret t input half coins sent received terms fits no_more = record {
  unfinished = λ u i j ci cj. nothing-received left t input half coins sent i j;
  finished-product = λ s f. absurd (omega (arith, f));
  finished-blinder = λ e. never e (λ e. cc);
  other-answer = λ e. never e (λ e. cc);
  same_rank = λ e. never e (λ e. cc);
  finished-solver = λ e. never e (λ e. cc);
}
left-secret t input half coins sent received terms fits (◌before◌ {a} ra no_more) = record {
  unfinished = λ u. absurd (omega (arith, u));
  finished-product = λ s f i c. left_one t terms input coins sent a ra i c.taken half fits;
  finished-blinder = λ e. never e (λ e. cc);
  other-answer = λ e. never e (λ e. cc);
  same_rank = λ e. never e (λ e. cc);
  finished-solver = λ e. never e (λ e. cc);
}

right-secret : (t : Terms) (input half : List (List ℕ)) (coins : List ℕ) (sent received : List (List ℕ)) → TermsFit product t
    → Fits t.q (layout right t.m t.k t.p) half → Messages t (1 ∷ []) sent → Messages t (2 ∷ []) received → length received ≤ length sent + 0
    → Secret (view_of right t input half coins sent received)
right-secret t input half coins sent received terms fits s no_more turn = record {
  unfinished = λ u i j ci cj. nothing-received right t input half coins sent i j;
  finished-product = λ s f. absurd (omega (arith, f));
  finished-blinder = λ e. never e (λ e. cc);
  other-answer = λ e. never e (λ e. cc);
  same_rank = λ e. never e (λ e. cc);
  finished-solver = λ e. never e (λ e. cc);
}
right-secret t input half coins sent received terms fits no_more (ra before no_more) turn = absurd (omega (arith, turn))
right-secret t input half coins sent received terms fits (◌before◌ {a = b} rb no_more) (◌before◌ {a} ra no_more) turn = record {
  unfinished = λ u. absurd (omega (arith, u));
  finished-product = λ s f i c. right-one t terms input coins b a [] rb ra i c.taken half fits;
  finished-blinder = λ e. never e (λ e. cc);
  other-answer = λ e. never e (λ e. cc);
  same_rank = λ e. never e (λ e. cc);
  finished-solver = λ e. never e (λ e. cc);
}

-- ---- systems

not-product : {A : Type 0} → system ≡ product → A
not-product e = absurd (let z : ◌≡◌ {A = ℕ} 0 1 = cc in omega arith)

-- a system's terms are those of its unknowns and its right-hand sides
pub terms-are : (t : Terms) → TermsFit system t → wide_terms t.session t.tape t.q t.m (columns t.m t.p) ≡ t
unfolding columns
terms-are t a =
    let sides = (system-sides t.m t.k t.p).0 a.sides in
    ap₂ (λ (k p : ℕ). record { session = t.session; tape = t.tape; q = t.q; m = t.m; k = k; p = p })
    (sym sides.k-is) (let p : t.m + (t.p - t.m) ≡ t.p = omega (arith, sides.low) in p)

-- of which there is one, or none where the determinant is asked for
pub columns-few : {session : SessionId} {tape : TapeId} {q n : ℕ} (rhs : ℕ) → TermsFit system (wide_terms session tape q n rhs) → rhs ≤ 1
columns-few {session} {tape} {q} {n} rhs a = omega (arith, ((system-sides n n (n + rhs)).0 a.sides).high)

-- by the terms: none where the determinant is asked for, and else one
no-columns : (n rhs : ℕ) → eqb (n + rhs) n ≡ true → rhs ≡ 0
no-columns n rhs e = omega (arith, eqb-true (n + rhs) n e)

one-column : (n rhs : ℕ) → eqb (n + rhs) n ≡ false → rhs ≤ 1 → rhs ≡ 1
one-column n zero e l = absurd (false≢true (sym e ∙ eq-eqb (n + 0) n (omega arith)))
one-column n (suc zero) e l = refl
one-column n (suc (suc rhs)) e l = absurd (omega (arith, l))

-- where a solution is asked for, the inputs counted over have a sum with an inverse
sum-counted : {b c : Bool} → b ≡ false → cond b true c ≡ true → c ≡ true
sum-counted {b} {c} e = rw e (λ h. h)

solver-secret : (session : SessionId) (tape : TapeId) (q n rhs : ℕ) (input half : List (List ℕ)) (coins : List ℕ) (sent received : List (List ℕ))
    → TermsFit system (wide_terms session tape q n rhs) → Fits q (layout solver n n (n + rhs)) half
    → Messages (wide_terms session tape q n rhs) (1 ∷ 3 ∷ last_kind n (n + rhs) ∷ []) sent → Messages (wide_terms session tape q n rhs) (2 ∷ 4 ∷ []) received → length received ≤ length sent + 0
    → (Finished (view_of solver (wide_terms session tape q n rhs) input half coins sent received) → Kept (view_of solver (wide_terms session tape q n rhs) input half coins sent received))
    → Secret (view_of solver (wide_terms session tape q n rhs) input half coins sent received)
solver-secret session tape q n rhs input half coins sent received terms fits s no_more turn kept = record {
  unfinished = λ u i j ci cj. nothing-received solver (wide_terms session tape q n rhs) input half coins sent i j;
  finished-product = λ e. not-product e;
  finished-blinder = λ e. never e (λ e. cc);
  other-answer = λ e. never e (λ e. cc);
  same_rank = λ e k f. absurd (omega (arith, f));
  finished-solver = λ e k f. absurd (omega (arith, f));
}
solver-secret session tape q n rhs input half coins sent received terms fits no_more (r before m) turn kept = absurd (omega (arith, turn))
solver-secret session tape q n rhs input half coins sent received terms fits (◌before◌ {a = b1} {as' = later} r1 s) (◌before◌ {a = m2} r2 no_more) turn kept = record {
  unfinished = λ u i j ci cj. as_many half fits i ci.taken ∙ sym (as_many half fits j cj.taken);
  finished-product = λ e. not-product e;
  finished-blinder = λ e. never e (λ e. cc);
  other-answer = λ e. never e (λ e. cc);
  same_rank = λ e k f. absurd (omega (arith, f));
  finished-solver = λ e k f. absurd (omega (arith, f));
}
  where
    as_many : (half : List (List ℕ)) → Fits q (layout solver n n (n + rhs)) half → (i : List (List ℕ)) → Taken blinder (wide_terms session tape q n rhs) i
        → completions (view_of solver (wide_terms session tape q n rhs) input half coins (b1 ∷ later) (m2 ∷ [])) i ≡ units q n * units q n
    as_many half (◌then◌ {l = y0} ry (◌then◌ {l = b0} rb (◌then◌ {l = r} rr (◌then◌ {l = v} rv none)))) i ti =
        solver-heard session tape q n rhs terms input coins y0 b0 r v (ry then rb then rr then rv then none) b1 m2 later r1 r2 i ti
solver-secret session tape q n rhs input half coins sent received terms fits (r1 before no_more) (r2 before r4 before no_more) turn kept = absurd (omega (arith, turn))
solver-secret session tape q n rhs input half coins sent received terms (◌then◌ {l = y0} ry (◌then◌ {l = b0} rb (◌then◌ {l = r} rr (◌then◌ {l = v} rv none))))
    (◌before◌ {a = b1} r1 (◌before◌ {a = b3} {as' = later} r3 s)) (◌before◌ {a = m2} r2 (◌before◌ {a = m4} r4 no_more)) turn kept = record {
      unfinished = λ u. absurd (omega (arith, u));
      finished-product = λ e. not-product e;
      finished-blinder = λ e. never e (λ e. cc);
      other-answer = λ e. never e (λ e. cc);
      same_rank = λ e k f i j ci cj.
          solver-ranked session tape q n rhs terms input coins b1 b3 m2 m4 later r1 r3 r2 r4 (kept f).input-taken y0 b0 r v (ry then rb then rr then rv then none) (kept f).sent_is
          (no-columns n rhs k) i j ci.taken cj.taken;
      finished-solver = λ e k f i j ci cj.
          solver-same session tape q n rhs terms input coins b1 b3 m2 m4 later r1 r3 r2 r4 (kept f).input-taken y0 b0 r v (ry then rb then rr then rv then none) (kept f).sent_is
          (one-column n rhs k (columns-few rhs terms)) i j ci.taken cj.taken (sum-counted k ci.sum) (sum-counted k cj.sum);
    }

-- a finished blinder's completions, by its right-hand sides
blinder-count : (session : SessionId) (tape : TapeId) (q n rhs : ℕ) (terms : TermsFit system (wide_terms session tape q n rhs)) (input : List (List ℕ)) (x0 a0 qm g coins : List ℕ)
    → Fits q (layout blinder n n (n + rhs)) (x0 ∷ a0 ∷ qm ∷ g ∷ []) → regular q n qm ≡ true → (i : List (List ℕ)) (m1 m3 ml b2 b4 : List ℕ)
    → let t = wide_terms session tape q n rhs in
    let v = view_of blinder t input (x0 ∷ a0 ∷ qm ∷ g ∷ []) coins (b2 ∷ b4 ∷ []) (m1 ∷ m3 ∷ ml ∷ []) in
    Counted v i → Residues q (message_size 1 t) m1 → Residues q (message_size 3 t) m3 → Residues q (message_size (last_kind n (n + rhs)) t) ml
    → Residues q (message_size 2 t) b2 → Residues q (message_size 4 t) b4 → Kept v → completions v i ≡ bit (eq_list (answer_for v i) (answer_seen v))
unfolding eq_list
blinder-count session tape q n zero terms input x0 a0 qm g coins fits mask i m1 m3 ml b2 b4 c r1 r3 rl r2 r4 k =
    blinder-determined session tape q n terms input x0 a0 qm g coins fits mask i c.taken m1 m3 ml b2 b4 r1 r3
    (subst (λ (kind : ℕ). Residues q (message_size kind (wide_terms session tape q n 0)) ml) (last-determinant n) rl) r2 r4 [] k.input-taken k.coins-residues
    k.coins-fit k.sent_is
    ∙ rw (eq-eqb (n + 0) n (omega arith)) (ap bit (sym (both_true _)))
blinder-count session tape q n (suc zero) terms input x0 a0 qm g coins fits mask i m1 m3 ml b2 b4 c r1 r3 rl r2 r4 k =
    let other : eqb (n + 1) n ≡ false = ne_eqb (n + 1) n (omega arith) in
    blinder-ended session tape q n terms input x0 a0 qm g coins fits mask i c.taken m1 m3 ml b2 b4 r1 r3
    (subst (λ (kind : ℕ). Residues q (message_size kind (wide_terms session tape q n 1)) ml) (last-system n) rl) r2 r4 [] k.input-taken k.coins-residues
    k.coins-fit k.sent_is (sum-counted other c.sum)
    ∙ rw other refl
blinder-count session tape q n (suc (suc rhs)) terms input x0 a0 qm g coins fits mask i m1 m3 ml b2 b4 c r1 r3 rl r2 r4 k =
    absurd (omega (arith, columns-few (suc (suc rhs)) terms))

blinder-secret : (session : SessionId) (tape : TapeId) (q n rhs : ℕ) (input half : List (List ℕ)) (coins : List ℕ) (sent received : List (List ℕ))
    → TermsFit system (wide_terms session tape q n rhs) → Fits q (layout blinder n n (n + rhs)) half → regular q n (part 2 half) ≡ true
    → Messages (wide_terms session tape q n rhs) (2 ∷ 4 ∷ []) sent → Messages (wide_terms session tape q n rhs) (1 ∷ 3 ∷ last_kind n (n + rhs) ∷ []) received → length received ≤ length sent + 1
    → (Finished (view_of blinder (wide_terms session tape q n rhs) input half coins sent received)
    → Kept (view_of blinder (wide_terms session tape q n rhs) input half coins sent received))
    → Secret (view_of blinder (wide_terms session tape q n rhs) input half coins sent received)
blinder-secret session tape q n rhs input half coins sent received terms fits mask s no_more turn kept = record {
  unfinished = λ u i j ci cj. nothing-received blinder (wide_terms session tape q n rhs) input half coins sent i j;
  finished-product = λ e. not-product e;
  finished-blinder = λ e f. absurd (omega (arith, f));
  other-answer = λ e f. absurd (omega (arith, f));
  same_rank = λ e. never e (λ e. cc);
  finished-solver = λ e. never e (λ e. cc);
}
blinder-secret session tape q n rhs input half coins sent received terms (◌then◌ {l = x0} rx (◌then◌ {l = a0} ra (◌then◌ {l = qm} rq (◌then◌ {l = g} rg none)))) mask s
    (◌before◌ {a = m1} r1 no_more) turn kept = record {
      unfinished = λ u i j ci cj.
          blinder-started session tape q n rhs terms input x0 a0 qm g coins (rx then ra then rq then rg then none) mask i ci.taken m1 r1 sent
          ∙ sym (blinder-started session tape q n rhs terms input x0 a0 qm g coins (rx then ra then rq then rg then none) mask j cj.taken m1 r1 sent);
      finished-product = λ e. not-product e;
      finished-blinder = λ e f. absurd (omega (arith, f));
      other-answer = λ e f. absurd (omega (arith, f));
      same_rank = λ e. never e (λ e. cc);
      finished-solver = λ e. never e (λ e. cc);
    }
blinder-secret session tape q n rhs input half coins sent received terms fits mask no_more (r1 before r3 before m) turn kept = absurd (omega (arith, turn))
blinder-secret session tape q n rhs input half coins sent received terms (◌then◌ {l = x0} rx (◌then◌ {l = a0} ra (◌then◌ {l = qm} rq (◌then◌ {l = g} rg none)))) mask
    (◌before◌ {a = b2} {as' = later} r2 s) (◌before◌ {a = m1} r1 (◌before◌ {a = m3} r3 no_more)) turn kept = record {
      unfinished = λ u i j ci cj.
          blinder-heard session tape q n rhs terms input x0 a0 qm g coins (rx then ra then rq then rg then none) mask i ci.taken m1 m3 b2 r1 r3 r2 later
          ∙ sym (blinder-heard session tape q n rhs terms input x0 a0 qm g coins (rx then ra then rq then rg then none) mask j cj.taken m1 m3 b2 r1 r3 r2 later);
      finished-product = λ e. not-product e;
      finished-blinder = λ e f. absurd (omega (arith, f));
      other-answer = λ e f. absurd (omega (arith, f));
      same_rank = λ e. never e (λ e. cc);
      finished-solver = λ e. never e (λ e. cc);
    }
blinder-secret session tape q n rhs input half coins sent received terms fits mask (r2 before no_more) (r1 before r3 before r5 before no_more) turn kept = absurd (omega (arith, turn))
blinder-secret session tape q n rhs input half coins sent received terms (◌then◌ {l = x0} rx (◌then◌ {l = a0} ra (◌then◌ {l = qm} rq (◌then◌ {l = g} rg none)))) mask
    (◌before◌ {a = b2} r2 (◌before◌ {a = b4} r4 no_more)) (◌before◌ {a = m1} r1 (◌before◌ {a = m3} r3 (◌before◌ {a = m5} r5 no_more))) turn kept = record {
      unfinished = λ u. absurd (omega (arith, u));
      finished-product = λ e. not-product e;
      finished-blinder = λ e f i c z. ended f i c ∙ ap bit (eq_list-of z);
      other-answer = λ e f i c d. ended f i c ∙ ap bit (is_false _ (λ z. d (eq_list-eq _ _ z)));
      same_rank = λ e. never e (λ e. cc);
      finished-solver = λ e. never e (λ e. cc);
    }
  where
    v : View
    v = view_of blinder (wide_terms session tape q n rhs) input (x0 ∷ a0 ∷ qm ∷ g ∷ []) coins (b2 ∷ b4 ∷ []) (m1 ∷ m3 ∷ m5 ∷ [])

    ended : Finished v → (i : List (List ℕ)) → Counted v i → completions v i ≡ bit (eq_list (answer_for v i) (answer_seen v))
    ended f i c =
        blinder-count session tape q n rhs terms input x0 a0 qm g coins (rx then ra then rq then rg then none) mask i m1 m3 m5 b2 b4 c r1 r3 r5 r2 r4 (kept f)

-- ---- every view

secret-of : (role : Role) (t : Terms) (input half : List (List ℕ)) (coins : List ℕ) (sent received : List (List ℕ))
    → Arises (view_of role t input half coins sent received) → Secret (view_of role t input half coins sent received)
secret-of left t input half coins sent received a = left-secret t input half coins sent received a.terms-fit a.half-fits a.received-fit
secret-of right t input half coins sent received a = right-secret t input half coins sent received a.terms-fit a.half-fits a.sent-fit a.received-fit a.in-turn
secret-of solver t input half coins sent received a =
    subst (λ (t : Terms). Arises (view_of solver t input half coins sent received) → Secret (view_of solver t input half coins sent received)) (terms-are t a.terms-fit)
    (λ a. solver-secret t.session t.tape t.q t.m (columns t.m t.p) input half coins sent received a.terms-fit a.half-fits a.sent-fit a.received-fit
    a.in-turn (a.kept refl)) a
secret-of blinder t input half coins sent received a =
    subst (λ (t : Terms). Arises (view_of blinder t input half coins sent received) → Secret (view_of blinder t input half coins sent received)) (terms-are t a.terms-fit)
    (λ a. blinder-secret t.session t.tape t.q t.m (columns t.m t.p) input half coins sent received a.terms-fit a.half-fits a.mask_fits a.sent-fit
    a.received-fit a.in-turn (a.kept refl)) a

-- DEMAND 3, for one view
pub secret : (v : View) → Arises v → Secret v
secret v a = secret-of v.role v.terms v.input v.half v.coins v.sent v.received a
