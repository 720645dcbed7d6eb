-- Windows of days: what moving comes to, and what stands around a window.
--   sum_first, sum-last         w + 1 days by their first and by their last
--   moved-afresh                the next window's sum, from the sum before it
--   next-afresh                 as calls: the next window, handed the share before it, is worked out afresh
--   moves-afresh, moves-run     any number of moves
--   later-days, later-move, earlier-days   a run that has more days behind or before
--   flags-known, both-flags, missed-most   flags, and days that both missed
--   take-most                   a part of a list has no more elements than were asked for
-- Assumes nothing.
use mathlib.Core.Path.{◌≡◌, refl, sym, ap, ap₂, ◌∙◌, subst}
use mathlib.Core.Bool.{Bool, true, false, cond, false≢true}
use mathlib.Core.List.{List, [], ◌∷◌, ◌++◌}
use Prim.Native.Nat.{ℕ, zero, suc, ◌+◌, ◌-◌, ◌*◌, ◌%◌, ◌≤◌, ◌<◌}
use native.Mathlib.Nat.{mod-lt}
use native.Mathlib.Omega.{arith}
use lib.Dec.{ltb, eqb}
use lib.ListN.{length, get_or, take, drop, length-append, length-drop, get_or-append}
use lib.Seq.{get_or-drop, take-append-le, drop-append-le, drop-append-add}
use borrow.Author.Tests.{leb-true, le-leb, lt-ltb, ltb-true}
use Rattle.algebra.specs.Count.{both, bit}
use Rattle.algebra.specs.Residue.{add_mod, sub_mod}
use Rattle.algebra.proofs.Tests.{and_left, and_right, and_both}
use Rattle.algebra.proofs.Congruence.{cong-mod, cong-sym, cong-trans, ◌⊕◌, linear, cong-residue, cong-add_mod, cong-sub_mod}
use Rattle.protocol.specs.declared.Refusal.{Refusal}
use Rattle.protocol.specs.declared.Refusal.TheVariants.{Modulus, Size, Residue}
use Rattle.protocol.specs.Judge.{needs, Judged, refused, done, judge, judge_by, clear}
use Rattle.protocol.specs.Bounds.{largest_modulus, within, all_below}
use Rattle.protocol.specs.Window.{longest_run, day_of, window_days, window_fits, sum, window_sum, window_tests, share_tests, window_share}
use Rattle.protocol.specs.Window.{moved, next_window, move_on, moves, flags_tests, flags_fit, both_missed}
use Rattle.protocol.proofs.Judge.{accepts, passed, refused≢done}
use Rattle.protocol.proofs.Residues.{below-take, below-drop}

-- ---- one day more, by the first and by the last

sum-taken : (w : ℕ) (l : List ℕ) → sum (take (suc w) l) ≡ sum (take w l) + get_or l w 0
unfolding sum
sum-taken zero [] = refl
sum-taken zero (a ∷ l) = omega arith
sum-taken (suc w) [] = refl
sum-taken (suc w) (a ∷ l) = let e = sum-taken w l in omega arith

pub sum_first : (first w : ℕ) (l : List ℕ) → sum (window_days first (suc w) l) ≡ day_of l first + sum (window_days (suc first) w l)
unfolding sum
sum_first zero zero [] = refl
sum_first zero (suc w) [] = refl
sum_first zero w (a ∷ l) = refl
sum_first (suc first) zero [] = refl
sum_first (suc first) (suc w) [] = refl
sum_first (suc first) w (a ∷ l) = sum_first first w l

pub sum-last : (first w : ℕ) (l : List ℕ) → sum (window_days first (suc w) l) ≡ sum (window_days first w l) + day_of l (first + w)
sum-last first w l = sum-taken w (drop first l) ∙ ap (λ (a : ℕ). sum (take w (drop first l)) + a) (get_or-drop first l w 0)

sub-below : {q : ℕ} → 0 < q → (a b : ℕ) → sub_mod q a b < q
unfolding sub_mod
sub-below {q} hq a b = mod-lt (a + (q - b % q)) hq

-- for every run, window and modulus
pub moved-afresh : (q : ℕ) → 0 < q → (shares : List ℕ) (first w : ℕ)
    → moved q (window_sum q shares first w) (day_of shares (first + w)) (day_of shares first) ≡ window_sum q shares (suc first) w
unfolding moved
moved-afresh q hq shares first w =
    let before = sum (window_days first w shares) in
    let after = sum (window_days (suc first) w shares) in
    let new = day_of shares (first + w) in
    let oldest = day_of shares first in
    let added = add_mod q (before % q) new in
    let same : oldest + after ≡ before + new = sym (sum_first first w shares) ∙ sum-last first w shares in
    let together = linear hq {x = sub_mod q added oldest} {y = after}
    (cong-sub_mod hq added oldest ⊕ cong-add_mod hq (before % q) new ⊕ cong-mod before) (omega arith)
    in
    cong-residue hq (cong-trans together (cong-sym (cong-mod after))) (sub-below hq added oldest) (mod-lt after hq)

-- ---- residues

-- a day past the run's end counts as 0, which is a residue
below-first : (q : ℕ) → 0 < q → (first w : ℕ) (l : List ℕ)
    → all_below q (window_days first (suc w) l) ≡ both (ltb (day_of l first) q) (all_below q (window_days (suc first) w l))
unfolding all_below both
below-first q hq zero zero [] = rw (lt-ltb 0 q hq) refl
below-first q hq zero (suc w) [] = rw (lt-ltb 0 q hq) refl
below-first q hq zero w (a ∷ l) = refl
below-first q hq (suc first) zero [] = rw (lt-ltb 0 q hq) refl
below-first q hq (suc first) (suc w) [] = rw (lt-ltb 0 q hq) refl
below-first q hq (suc first) w (a ∷ l) = below-first q hq first w l

below-taken : (q : ℕ) → 0 < q → (w : ℕ) (l : List ℕ) → all_below q (take (suc w) l) ≡ both (all_below q (take w l)) (ltb (get_or l w 0) q)
unfolding all_below both
below-taken q hq zero [] = rw (lt-ltb 0 q hq) refl
below-taken q hq zero (a ∷ l) = go (ltb a q)
  where
    go : (b : Bool) → both b true ≡ b
    go true = refl
    go false = refl
below-taken q hq (suc w) [] = rw (lt-ltb 0 q hq) refl
below-taken q hq (suc w) (a ∷ l) = ap (both (ltb a q)) (below-taken q hq w l) ∙ regroup (ltb a q) _ _
  where
    regroup : (x y z : Bool) → both x (both y z) ≡ both (both x y) z
    regroup true y z = refl
    regroup false y z = refl

below_last : (q : ℕ) → 0 < q → (first w : ℕ) (l : List ℕ)
    → all_below q (window_days first (suc w) l) ≡ both (all_below q (window_days first w l)) (ltb (day_of l (first + w)) q)
below_last q hq first w l =
    below-taken q hq w (drop first l) ∙ ap (λ (a : ℕ). both (all_below q (window_days first w l)) (ltb a q)) (get_or-drop first l w 0)

-- ---- the calls

-- what a window's numbers come to
pub record Fits (q run first w : ℕ) : Type 0 where
  pub some-days : 1 ≤ run
  pub run-bound : run ≤ longest_run
  pub some-window : 1 ≤ w
  pub in-run : w ≤ run
  pub below-q : w < q
  pub ends : first + w ≤ run

pub fits-known : (q run first w : ℕ) → window_fits q run first w ≡ true → Fits q run first w
unfolding window_fits within
fits-known q run first w e =
    let size = and_left _ _ e in
    let rest = and_right _ _ e in
    let inside = and_left _ _ rest in
    let ends = and_right _ _ rest in
    record {
      some-days = leb-true 1 run (and_left _ _ size);
      run-bound = leb-true run longest_run (and_right _ _ size);
      some-window = leb-true 1 w (and_left _ _ inside);
      in-run = leb-true w run (and_right _ _ inside);
      below-q = ltb-true w q (and_left _ _ ends);
      ends = leb-true (first + w) run (and_right _ _ ends);
    }

pub known-fits : {q run first w : ℕ} → Fits q run first w → window_fits q run first w ≡ true
unfolding window_fits within
known-fits {q} {run} {first} {w} f =
    and_both (and_both (le-leb 1 run f.some-days) (le-leb run longest_run f.run-bound))
    (and_both (and_both (le-leb 1 w f.some-window) (le-leb w run f.in-run))
    (and_both (lt-ltb w q f.below-q) (le-leb (first + w) run f.ends)))

-- a share that was given
pub record Given (q : ℕ) (shares : List ℕ) (first w share : ℕ) : Type 0 where
  pub modulus : within 2 largest_modulus q ≡ true
  pub fits : Fits q (length shares) first w
  pub residues : all_below q (window_days first w shares) ≡ true
  pub share-is : share ≡ window_sum q shares first w

pub given_by : {q : ℕ} {shares : List ℕ} {first w share : ℕ} → window_share q shares first w ≡ done share → Given q shares first w share
unfolding window_share window_tests share_tests
given_by {q} {shares} {first} {w} e =
    let p = passed _ e in
    record { modulus = p.0.0; fits = fits-known q (length shares) first w p.0.1.0; residues = p.0.1.1.0; share-is = sym p.1 }

pub gives : {q : ℕ} {shares : List ℕ} {first w share : ℕ} → Given q shares first w share → window_share q shares first w ≡ done share
unfolding window_share window_tests share_tests
gives g = accepts _ _ (g.modulus, (known-fits g.fits, (g.residues, tt))) ∙ ap done (sym g.share-is)

pub positive : {q : ℕ} → within 2 largest_modulus q ≡ true → 0 < q
unfolding within
positive {q} e = let two : 2 ≤ q = leb-true 2 q (and_left _ _ e) in omega arith

-- ---- the next window

module _ {q : ℕ} {shares : List ℕ} {first w share : ℕ} (g : Given q shares first w share) where
  abbrev new : ℕ
  new = day_of shares (first + w)

  abbrev oldest : ℕ
  oldest = day_of shares first

  hq : 0 < q
  hq = positive g.modulus

  oldest-below : ltb oldest q ≡ true
  oldest-below = go w g.fits.some-window g.residues
    where
      go : (n : ℕ) → 1 ≤ n → all_below q (window_days first n shares) ≡ true → ltb oldest q ≡ true
      go zero h e = absurd (omega arith)
      go (suc n) h e = and_left _ _ (sym (below-first q hq first n shares) ∙ e)

  share-below : ltb share q ≡ true
  share-below = rw g.share-is (lt-ltb (window_sum q shares first w) q (mod-lt (sum (window_days first w shares)) hq))

  -- of either call the new day alone is in question
  two-days : all_below q (share ∷ new ∷ oldest ∷ []) ≡ ltb new q
  unfolding all_below both
  two-days = rw (share-below, oldest-below) (go (ltb new q))
    where
      go : (b : Bool) → both true (both b (both true true)) ≡ b
      go true = refl
      go false = refl

  all-days : all_below q (window_days (suc first) w shares) ≡ ltb new q
  unfolding both
  all-days = go _ _ oldest-below g.residues (sym (below-first q hq first w shares) ∙ below_last q hq first w shares)
    where
      go : (o a : Bool) {b n : Bool} → o ≡ true → a ≡ true → both o b ≡ both a n → b ≡ n
      go o a {b} {n} eo ea e = sym (ap (λ (x : Bool). both x b) eo) ∙ (e ∙ ap (λ (x : Bool). both x n) ea)

  moved_on : moved q share new oldest ≡ window_sum q shares (suc first) w
  moved_on = ap (λ (s : ℕ). moved q s new oldest) g.share-is ∙ moved-afresh q hq shares first w

  next-given : next_window q shares first w share ≡ window_share q shares (suc first) w
  unfolding next_window window_share share_tests
  next-given =
      ap₂ (λ (b : Bool) (v : ℕ). judge (window_tests q (length shares) (suc first) w ++ (needs Residue b ∷ [])) v)
      (two-days ∙ sym all-days) moved_on

-- for every run, window and share: refusals, too, are those of the sum worked out afresh
pub next-afresh : (q : ℕ) (shares : List ℕ) (first w share : ℕ) → window_share q shares first w ≡ done share
    → next_window q shares first w share ≡ window_share q shares (suc first) w
next-afresh q shares first w share e = next-given (given_by e)

-- ---- any number of moves

-- where all of them are accepted
pub moves-afresh : (q : ℕ) (shares : List ℕ) (first w n share : ℕ) → moves q shares first w n ≡ done share
    → window_share q shares (first + n) w ≡ done share
unfolding moves
moves-afresh q shares first w zero share e = subst (λ (d : ℕ). window_share q shares d w ≡ done share) (omega arith) e
moves-afresh q shares first w (suc n) share e = go (moves q shares first w n) refl (λ before. moves-afresh q shares first w n before) e
  where
    later : suc (first + n) ≡ first + suc n
    later = omega arith

    go : (j : Judged ℕ) → moves q shares first w n ≡ j
        → ((before : ℕ) → moves q shares first w n ≡ done before → window_share q shares (first + n) w ≡ done before)
        → move_on q shares (first + n) w j ≡ done share → window_share q shares (first + suc n) w ≡ done share
    go (refused r) h rec k = absurd (refused≢done k)
    go (done before) h rec k =
        let afresh = next-afresh q shares (first + n) w before (rec before h) in
        subst (λ (d : ℕ). window_share q shares d w ≡ done share) later (sym afresh ∙ k)

-- of a run of residues: refusals, too
module _ (q : ℕ) (shares : List ℕ) (residues : all_below q shares ≡ true) where
  abbrev by_numbers : (v : ℕ) (modulus fits : Bool) → Judged ℕ
  by_numbers v modulus fits = cond modulus (cond fits (done v) (refused Size)) (refused Modulus)

  by-numbers : (first w : ℕ) → window_share q shares first w
      ≡ by_numbers (window_sum q shares first w) (within 2 largest_modulus q) (window_fits q (length shares) first w)
  unfolding window_share window_tests share_tests judge judge_by clear both
  by-numbers first w =
      rw (below-take q w (drop first shares) (below-drop q first shares residues))
      (go (window_sum q shares first w) (within 2 largest_modulus q) (window_fits q (length shares) first w))
    where
      go : (v : ℕ) (m f : Bool) → judge (needs Modulus m ∷ needs Size f ∷ needs Residue true ∷ []) v ≡ by_numbers v m f
      go v true true = refl
      go v true false = refl
      go v false true = refl
      go v false false = refl

  -- no window fits after one that does not
  none_after : (first w : ℕ) (r : Refusal) → window_share q shares first w ≡ refused r → window_share q shares (suc first) w ≡ refused r
  none_after first w r e = by-numbers (suc first) w ∙ go _ _ (within 2 largest_modulus q) _ _ earlier-fits (sym (by-numbers first w) ∙ e)
    where
      earlier-fits : window_fits q (length shares) (suc first) w ≡ true → window_fits q (length shares) first w ≡ true
      earlier-fits h =
          let f = fits-known q (length shares) (suc first) w h in
          known-fits (record {
            some-days = f.some-days;
            run-bound = f.run-bound;
            some-window = f.some-window;
            in-run = f.in-run;
            below-q = f.below-q;
            ends = omega (arith, f.ends);
          })

      go : (u v : ℕ) (m f f' : Bool) → (f' ≡ true → f ≡ true) → cond m (cond f (done u) (refused Size)) (refused Modulus) ≡ refused r
          → cond m (cond f' (done v) (refused Size)) (refused Modulus) ≡ refused r
      go u v false f f' h k = k
      go u v true true f' h k = absurd (refused≢done (sym k))
      go u v true false true h k = absurd (false≢true (h refl))
      go u v true false false h k = k

  pub moves-run : (first w n : ℕ) → moves q shares first w n ≡ window_share q shares (first + n) w
  unfolding moves
  moves-run first w zero = ap (λ (d : ℕ). window_share q shares d w) (omega arith)
  moves-run first w (suc n) =
      ap (move_on q shares (first + n) w) (moves-run first w n)
      ∙ (go (window_share q shares (first + n) w) refl ∙ ap (λ (d : ℕ). window_share q shares d w) (omega arith))
    where
      go : (j : Judged ℕ) → window_share q shares (first + n) w ≡ j → move_on q shares (first + n) w j ≡ window_share q shares (suc (first + n)) w
      go (refused r) h = sym (none_after (first + n) w r h)
      go (done share) h = next-afresh q shares (first + n) w share h

-- ---- runs with more days

same-days : (q : ℕ) (shares longer : List ℕ) (first later w share : ℕ) → window_days later w longer ≡ window_days first w shares
    → length shares ≤ length longer → length longer ≤ longest_run → later + w ≤ length longer
    → window_share q shares first w ≡ done share → window_share q longer later w ≡ done share
same-days q shares longer first later w share same more bound ends e =
    let g = given_by e in
    let f = g.fits in
    gives (record {
      modulus = g.modulus;
      fits = record {
        some-days = omega (arith, f.some-days);
        run-bound = bound;
        some-window = f.some-window;
        in-run = omega (arith, f.in-run);
        below-q = f.below-q;
        ends = ends;
      };
      residues = ap (all_below q) same ∙ g.residues;
      share-is = g.share-is ∙ ap (λ (l : List ℕ). sum l % q) (sym same);
    })

-- more days behind: every morning brings one
pub later-days : (q : ℕ) (shares more : List ℕ) (first w share : ℕ) → length (shares ++ more) ≤ longest_run
    → window_share q shares first w ≡ done share → window_share q (shares ++ more) first w ≡ done share
later-days q shares more first w share bound e =
    let f = (given_by e).fits in
    let size = length-append shares more in
    let rest = drop-append-le first shares more (omega (arith, f.ends)) in
    let left = length-drop first shares in
    let same = ap (take w) rest ∙ take-append-le w (drop first shares) more (omega (arith, f.ends, left)) in
    same-days q shares (shares ++ more) first first w share same (omega arith) bound (omega (arith, f.ends)) e

-- a move, too
pub later-move : (q : ℕ) (shares more : List ℕ) (first w share next : ℕ) → length (shares ++ more) ≤ longest_run
    → next_window q shares first w share ≡ done next → next_window q (shares ++ more) first w share ≡ done next
unfolding next_window window_tests share_tests
later-move q shares more first w share next bound e =
    let p = passed _ e in
    let f = fits-known q (length shares) (suc first) w p.0.1.0 in
    let size = length-append shares more in
    let new = get_or-append shares more 0 (first + w) (omega (arith, f.ends, f.some-window)) in
    let oldest = get_or-append shares more 0 first (omega (arith, f.ends, f.some-window)) in
    let fits : Fits q (length (shares ++ more)) (suc first) w = record {
      some-days = omega (arith, f.some-days);
      run-bound = bound;
      some-window = f.some-window;
      in-run = omega (arith, f.in-run);
      below-q = f.below-q;
      ends = omega (arith, f.ends);
    } in
    accepts _ _ (p.0.0, (known-fits fits, (rw (new, oldest) p.0.1.1.0, tt))) ∙ ap done (rw (new, oldest) p.1)

-- more days before: those that a host no longer keeps
pub earlier-days : (q : ℕ) (gone shares : List ℕ) (first w share : ℕ) → length (gone ++ shares) ≤ longest_run
    → window_share q shares first w ≡ done share → window_share q (gone ++ shares) (length gone + first) w ≡ done share
earlier-days q gone shares first w share bound e =
    let f = (given_by e).fits in
    let size = length-append gone shares in
    same-days q shares (gone ++ shares) first (length gone + first) w share (ap (take w) (drop-append-add gone shares first)) (omega arith) bound
    (omega (arith, f.ends)) e

-- ---- flags

pub flags-known : (flags : List ℕ) → flags_fit flags ≡ done tt → all_below 2 flags ≡ true
unfolding flags_fit flags_tests
flags-known flags e = (passed _ e).0.1.0

-- a day that both missed is one whose flags' product is 1
pub both-flags : (x y : ℕ) → x < 2 → y < 2 → bit (both (eqb x 1) (eqb y 1)) ≡ x * y
unfolding both
both-flags zero y hx hy = let z : 0 ≡ 0 * y = omega arith in z
both-flags (suc zero) zero hx hy = refl
both-flags (suc zero) (suc zero) hx hy = refl
both-flags (suc zero) (suc (suc y)) hx hy = absurd (omega arith)
both-flags (suc (suc x)) y hx hy = absurd (omega arith)

bit-most : (b : Bool) → bit b ≤ 1
bit-most true = omega arith
bit-most false = omega arith

pub take-most : {A : Type 0} (n : ℕ) (l : List A) → length (take n l) ≤ n
take-most zero l = omega arith
take-most (suc n) [] = omega arith
take-most (suc n) (a ∷ l) = let rest = take-most n l in omega arith

-- no more than there are days
pub missed-most : (xs ys : List ℕ) → both_missed xs ys ≤ length xs
unfolding both_missed
missed-most [] ys = omega arith
missed-most (x ∷ xs) [] = omega arith
missed-most (x ∷ xs) (y ∷ ys) = let rest = missed-most xs ys in let one = bit-most (both (eqb x 1) (eqb y 1)) in omega arith
