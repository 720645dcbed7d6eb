-- How many completions a view has, as a number, wherever that is not 1. Assumes nothing.
-- Numbers    the numbers, by role and by how many messages were received
-- numbers    they hold of every view that protocol's counts are for
use mathlib.Core.Path.{◌≡◌, refl, subst}
use mathlib.Core.Bool.{true}
use mathlib.Core.List.{List, [], ◌∷◌}
use Prim.Native.Nat.{ℕ, ◌+◌, ◌*◌, ◌^◌, ◌≤◌}
use native.Mathlib.Omega.{arith}
use lib.ListN.{length}
use Rattle.algebra.specs.Count.{parts, part}
use Rattle.algebra.specs.Elimination.{regular, units}
use Rattle.algebra.specs.System.{solver_share, sum_matrix, sum_vector}
use Rattle.algebra.proofs.Pairs.{pairs}
use Rattle.algebra.proofs.Parts.{Fits, none, ◌then◌}
use Rattle.protocol.specs.declared.SessionId.{SessionId}
use Rattle.protocol.specs.declared.TapeId.{TapeId}
use Rattle.protocol.specs.declared.Terms.{Terms}
use Rattle.protocol.specs.Bounds.{product, system, columns}
use Rattle.protocol.specs.Tape.{Role, left, right, blinder, solver, layout}
use Rattle.protocol.specs.Message.{last_kind, message_layout}
use Rattle.protocol.specs.System.{side_size}
use Rattle.protocol.specs.View.{View, Finished}
use Rattle.protocol.specs.Completion.{completions, Taken, joint_part, joint_matrix}
use Rattle.protocol.proofs.Tests.{TermsFit}
use Rattle.protocol.proofs.SystemEnds.{wide_terms, columns-are, side-are}
use Rattle.protocol.proofs.CompletionLaws.{view_of}
use Rattle.protocol.proofs.CompletionProduct.{right-waiting}
use Rattle.protocol.proofs.CompletionSolver.{solver-ended}
use Rattle.protocol.proofs.CompletionOpen.{solver-waiting, solver-heard}
use Rattle.protocol.proofs.CompletionBlinder.{blinder-started, blinder-heard}
use Rattle.protocol.proofs.Completion.{Messages, no_more, ◌before◌, Kept, Arises, never, terms-are}

-- the parts of message number j that was received, of this kind
abbrev pub heard_parts : (kind j : ℕ) → View → List (List ℕ)
heard_parts kind j v = parts (message_layout kind v.terms.m v.terms.k v.terms.p) (part j v.received)

-- what the finished solver solves: W + V, and c + s
abbrev pub solved_matrix : View → List ℕ
solved_matrix v = sum_matrix v.terms.q v.terms.m (part 0 (heard_parts 4 1 v)) (part 3 v.half)

abbrev pub solved_vector : View → List ℕ
solved_vector v =
    sum_vector v.terms.q v.terms.m (columns v.terms.m v.terms.p) (part 1 (heard_parts 4 1 v))
    (solver_share v.terms.q v.terms.m (columns v.terms.m v.terms.p) (part 0 (heard_parts 2 0 v)) (part 0 v.half) (part 1 (heard_parts 2 0 v)) (part 1 v.half))

-- x + y, of no residues where the determinant is asked for
abbrev pub joint_sides : View → (input : List (List ℕ)) → List ℕ
joint_sides v i = joint_part 1 (side_size v.terms) v i

pub record Numbers (v : View) : Type 0 where
  pub right-waits : v.role ≡ right → length v.received ≡ 0 → (i : List (List ℕ))
      → completions v i ≡ v.terms.q ^ (v.terms.m * v.terms.k + v.terms.m * v.terms.p)
  pub solver-waits : v.role ≡ solver → length v.received ≡ 0 → (i : List (List ℕ))
      → completions v i ≡ units v.terms.q v.terms.m * (units v.terms.q v.terms.m * v.terms.q ^ (v.terms.m * v.terms.m + v.terms.m * v.terms.p))
  pub solver-after-2 : v.role ≡ solver → length v.received ≡ 1 → (i : List (List ℕ)) → Taken blinder v.terms i
      → completions v i ≡ units v.terms.q v.terms.m * units v.terms.q v.terms.m
  pub solver-after-4 : v.role ≡ solver → length v.received ≡ 2 → (i : List (List ℕ)) → Taken blinder v.terms i
      → completions v i ≡ pairs v.terms.q v.terms.m (columns v.terms.m v.terms.p) (joint_matrix v i) (joint_sides v i) (solved_matrix v) (solved_vector v)
  pub blinder-after-1 : v.role ≡ blinder → length v.received ≡ 1 → (i : List (List ℕ)) → Taken solver v.terms i → completions v i ≡ v.terms.q ^ (v.terms.m * v.terms.m)
  pub blinder-after-3 : v.role ≡ blinder → length v.received ≡ 2 → (i : List (List ℕ)) → Taken solver v.terms i → completions v i ≡ 1

right-numbers : (t : Terms) (input half : List (List ℕ)) (coins : List ℕ) (sent received : List (List ℕ)) → TermsFit product t
    → Fits t.q (layout right t.m t.k t.p) half → Numbers (view_of right t input half coins sent received)
right-numbers t input half coins sent received terms fits = record {
  right-waits = λ e. waits received;
  solver-waits = λ e. never e (λ e. cc);
  solver-after-2 = λ e. never e (λ e. cc);
  solver-after-4 = λ e. never e (λ e. cc);
  blinder-after-1 = λ e. never e (λ e. cc);
  blinder-after-3 = λ e. never e (λ e. cc);
}
  where
    waits : (got : List (List ℕ)) → length got ≡ 0 → (i : List (List ℕ)) → completions (view_of right t input half coins sent got) i ≡ t.q ^ (t.m * t.k + t.m * t.p)
    waits [] h i = right-waiting t terms input coins sent i half fits
    waits (a ∷ got) h i = absurd (omega (arith, h))

module _ (session : SessionId) (tape : TapeId) (q n rhs : ℕ) (input : List (List ℕ)) (coins : List ℕ) (terms : TermsFit system (wide_terms session tape q n rhs)) where
  abbrev t : Terms
  t = wide_terms session tape q n rhs

  solver-numbers : (half sent received : List (List ℕ)) → Fits q (layout solver n n (n + rhs)) half → Messages (wide_terms session tape q n rhs) (1 ∷ 3 ∷ last_kind n (n + rhs) ∷ []) sent
      → Messages (wide_terms session tape q n rhs) (2 ∷ 4 ∷ []) received → length received ≤ length sent + 0
      → (Finished (view_of solver (wide_terms session tape q n rhs) input half coins sent received)
      → Kept (view_of solver (wide_terms session tape q n rhs) input half coins sent received))
      → Numbers (view_of solver (wide_terms session tape q n rhs) input half coins sent received)
  solver-numbers half sent received (◌then◌ {l = y0} ry (◌then◌ {l = b0} rb (◌then◌ {l = r} rr (◌then◌ {l = v} rv none)))) s ms turn kept = record {
    right-waits = λ e. never e (λ e. cc);
    solver-waits = λ e. waits received;
    solver-after-2 = λ e. after-2 sent received s ms turn;
    solver-after-4 = λ e. after-4 sent received s ms turn kept;
    blinder-after-1 = λ e. never e (λ e. cc);
    blinder-after-3 = λ e. never e (λ e. cc);
  }
    where
      fits : Fits q (layout solver n n (n + rhs)) (y0 ∷ b0 ∷ r ∷ v ∷ [])
      fits = ry then rb then rr then rv then none

      waits : (got : List (List ℕ)) → length got ≡ 0 → (i : List (List ℕ))
          → completions (view_of solver t input (y0 ∷ b0 ∷ r ∷ v ∷ []) coins sent got) i ≡ units q n * (units q n * q ^ (n * n + n * (n + rhs)))
      waits [] h i = solver-waiting session tape q n rhs terms input coins y0 b0 r v fits sent i
      waits (a ∷ got) h i = absurd (omega (arith, h))

      after-2 : (sent got : List (List ℕ)) → Messages t (1 ∷ 3 ∷ last_kind n (n + rhs) ∷ []) sent → Messages t (2 ∷ 4 ∷ []) got → length got ≤ length sent + 0 → length got ≡ 1
          → (i : List (List ℕ)) → Taken blinder t i → completions (view_of solver t input (y0 ∷ b0 ∷ r ∷ v ∷ []) coins sent got) i ≡ units q n * units q n
      after-2 sent got s no_more turn h = absurd (omega (arith, h))
      after-2 sent got no_more (r2 before no_more) turn h = absurd (omega (arith, turn))
      after-2 sent got (◌before◌ {a = b1} {as' = later} r1 s) (◌before◌ {a = m2} r2 no_more) turn h =
          solver-heard session tape q n rhs terms input coins y0 b0 r v fits b1 m2 later r1 r2
      after-2 sent got s (r2 before r4 before no_more) turn h = absurd (omega (arith, h))

      after-4 : (sent got : List (List ℕ)) → Messages t (1 ∷ 3 ∷ last_kind n (n + rhs) ∷ []) sent → Messages t (2 ∷ 4 ∷ []) got → length got ≤ length sent + 0
          → (Finished (view_of solver t input (y0 ∷ b0 ∷ r ∷ v ∷ []) coins sent got) → Kept (view_of solver t input (y0 ∷ b0 ∷ r ∷ v ∷ []) coins sent got))
          → length got ≡ 2 → (i : List (List ℕ)) → Taken blinder t i → completions (view_of solver t input (y0 ∷ b0 ∷ r ∷ v ∷ []) coins sent got) i
          ≡ pairs q n (columns n (n + rhs)) (joint_matrix (view_of solver t input (y0 ∷ b0 ∷ r ∷ v ∷ []) coins sent got) i) (joint_sides (view_of solver t input (y0 ∷ b0 ∷ r ∷ v ∷ []) coins sent got) i)
          (solved_matrix (view_of solver t input (y0 ∷ b0 ∷ r ∷ v ∷ []) coins sent got)) (solved_vector (view_of solver t input (y0 ∷ b0 ∷ r ∷ v ∷ []) coins sent got))
      after-4 sent got s no_more turn kept h = absurd (omega (arith, h))
      after-4 sent got s (r2 before no_more) turn kept h = absurd (omega (arith, h))
      after-4 sent got no_more (r2 before r4 before no_more) turn kept h = absurd (omega (arith, turn))
      after-4 sent got (r1 before no_more) (r2 before r4 before no_more) turn kept h = absurd (omega (arith, turn))
      after-4 sent got (◌before◌ {a = b1} r1 (◌before◌ {a = b3} {as' = later} r3 s)) (◌before◌ {a = m2} r2 (◌before◌ {a = m4} r4 no_more)) turn kept h =
          λ i ti. rw (columns-are n rhs, side-are session tape q n rhs)
          (solver-ended session tape q n rhs terms input coins b1 b3 m2 m4 later r1 r3 r2 r4 (kept h).input-taken y0 b0 r v fits (kept h).sent_is i ti)

  blinder-numbers : (half sent received : List (List ℕ)) → Fits q (layout blinder n n (n + rhs)) half → regular q n (part 2 half) ≡ true
      → Messages (wide_terms session tape q n rhs) (2 ∷ 4 ∷ []) sent → Messages (wide_terms session tape q n rhs) (1 ∷ 3 ∷ last_kind n (n + rhs) ∷ []) received → length received ≤ length sent + 1
      → Numbers (view_of blinder (wide_terms session tape q n rhs) input half coins sent received)
  blinder-numbers half sent received (◌then◌ {l = x0} rx (◌then◌ {l = a0} ra (◌then◌ {l = qm} rq (◌then◌ {l = g} rg none)))) mask s ms turn = record {
    right-waits = λ e. never e (λ e. cc);
    solver-waits = λ e. never e (λ e. cc);
    solver-after-2 = λ e. never e (λ e. cc);
    solver-after-4 = λ e. never e (λ e. cc);
    blinder-after-1 = λ e. after-1 received ms;
    blinder-after-3 = λ e. after-3 sent received s ms turn;
  }
    where
      fits : Fits q (layout blinder n n (n + rhs)) (x0 ∷ a0 ∷ qm ∷ g ∷ [])
      fits = rx then ra then rq then rg then none

      after-1 : (got : List (List ℕ)) → Messages t (1 ∷ 3 ∷ last_kind n (n + rhs) ∷ []) got → length got ≡ 1 → (i : List (List ℕ)) → Taken solver t i
          → completions (view_of blinder t input (x0 ∷ a0 ∷ qm ∷ g ∷ []) coins sent got) i ≡ q ^ (n * n)
      after-1 got no_more h = absurd (omega (arith, h))
      after-1 got (◌before◌ {a = m1} r1 no_more) h = λ i ti. blinder-started session tape q n rhs terms input x0 a0 qm g coins fits mask i ti m1 r1 sent
      after-1 got (r1 before r3 before ms) h = absurd (omega (arith, h))

      after-3 : (sent got : List (List ℕ)) → Messages t (2 ∷ 4 ∷ []) sent → Messages t (1 ∷ 3 ∷ last_kind n (n + rhs) ∷ []) got → length got ≤ length sent + 1 → length got ≡ 2 → (i : List (List ℕ))
          → Taken solver t i → completions (view_of blinder t input (x0 ∷ a0 ∷ qm ∷ g ∷ []) coins sent got) i ≡ 1
      after-3 sent got s no_more turn h = absurd (omega (arith, h))
      after-3 sent got s (r1 before no_more) turn h = absurd (omega (arith, h))
      after-3 sent got no_more (r1 before r3 before no_more) turn h = absurd (omega (arith, turn))
      after-3 sent got (◌before◌ {a = b2} {as' = later} r2 s) (◌before◌ {a = m1} r1 (◌before◌ {a = m3} r3 no_more)) turn h =
          λ i ti. blinder-heard session tape q n rhs terms input x0 a0 qm g coins fits mask i ti m1 m3 b2 r1 r3 r2 later
      after-3 sent got s (r1 before r3 before r5 before no_more) turn h = absurd (omega (arith, h))

numbers_of : (role : Role) (t : Terms) (input half : List (List ℕ)) (coins : List ℕ) (sent received : List (List ℕ))
    → Arises (view_of role t input half coins sent received) → Numbers (view_of role t input half coins sent received)
numbers_of left t input half coins sent received a = record {
  right-waits = λ e. never e (λ e. cc);
  solver-waits = λ e. never e (λ e. cc);
  solver-after-2 = λ e. never e (λ e. cc);
  solver-after-4 = λ e. never e (λ e. cc);
  blinder-after-1 = λ e. never e (λ e. cc);
  blinder-after-3 = λ e. never e (λ e. cc);
}
numbers_of right t input half coins sent received a = right-numbers t input half coins sent received a.terms-fit a.half-fits
numbers_of solver t input half coins sent received a =
    subst (λ (t : Terms). Arises (view_of solver t input half coins sent received) → Numbers (view_of solver t input half coins sent received)) (terms-are t a.terms-fit)
    (λ a. solver-numbers t.session t.tape t.q t.m (columns t.m t.p) input coins a.terms-fit half sent received a.half-fits a.sent-fit a.received-fit
    a.in-turn (a.kept refl)) a
numbers_of blinder t input half coins sent received a =
    subst (λ (t : Terms). Arises (view_of blinder t input half coins sent received) → Numbers (view_of blinder t input half coins sent received)) (terms-are t a.terms-fit)
    (λ a. blinder-numbers t.session t.tape t.q t.m (columns t.m t.p) input coins a.terms-fit half sent received a.half-fits a.mask_fits a.sent-fit
    a.received-fit a.in-turn) a

pub numbers : (v : View) → Arises v → Numbers v
numbers v a = numbers_of v.role v.terms v.input v.half v.coins v.sent v.received a
