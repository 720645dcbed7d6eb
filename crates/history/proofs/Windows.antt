-- DEMAND 2 for windows of days, proved from demand 2.
--   DayAdds, day-adds        what a day's two shares come to, whichever maker is left
--   days-add                 and those of several days
--   window-right             the claim
-- Assumes nothing.
use mathlib.Core.Path.{◌≡◌, refl, sym, ap, ap₂, ◌∙◌, subst}
use mathlib.Core.Bool.{true}
use mathlib.Core.Logic.{inl, inr}
use mathlib.Core.List.{List, [], ◌∷◌, map}
use Prim.Native.Nat.{ℕ, zero, suc, ◌+◌, ◌*◌, ◌%◌, ◌≤◌, ◌<◌}
use native.Mathlib.Nat.{mod-lt}
use native.Mathlib.Omega.{arith}
use lib.ListN.{length, get_or, take, drop, length-map}
use borrow.Author.Tests.{le-leb, lt-ltb, ltb-true}
use Rattle.algebra.specs.Residue.{add_mod}
use Rattle.algebra.specs.Count.{part}
use Rattle.algebra.specs.Matrix.{Residues, sum_to, tabulate, mat_add, dot_to, dot, mat_mul}
use Rattle.algebra.proofs.Tests.{and_left, and_right, and_both}
use Rattle.algebra.proofs.Congruence.{Cong, cong-eq, cong-refl, cong-mod, cong-sym, cong-trans, ◌⊕◌, cong-residue, cong-add_mod}
use Rattle.protocol.specs.Judge.{done}
use Rattle.protocol.specs.Bounds.{largest_modulus, within, all_below}
use Rattle.protocol.specs.Tape.{left}
use Rattle.protocol.specs.Window.{window_days, window_fits, sum, window_sum, window_share, moves, flags_fit, both_missed, missed_by_both}
use Rattle.protocol.proofs.Residues.{below-take, below-drop}
use Rattle.protocol.proofs.Window.{Fits, fits-known, gives, positive, moves-run, flags-known, both-flags, missed-most, take-most}
use Rattle.history.specs.Log.{Party, Call, World, run, Premises}
use Rattle.history.specs.Seen.{view}
use Rattle.history.specs.Claim.{Empty}
use Rattle.history.specs.Right.{result}
use Rattle.history.specs.Windows.{Day, Played, DayKept, Each, shares_of, flags_of, of_one, of_other, WindowRight, WINDOW-RIGHT}
use Rattle.history.proofs.Shared.{shared}
use Rattle.history.proofs.Rightness.{demand-2}

-- ---- lists of days

each_take : {A : Type 0} (P : A → Type 0) (n : ℕ) (l : List A) → Each P l → Each P (take n l)
each_take P zero l e = tt
each_take P (suc n) [] e = tt
each_take P (suc n) (a ∷ l) e = (e.0, each_take P n l e.1)

each-drop : {A : Type 0} (P : A → Type 0) (n : ℕ) (l : List A) → Each P l → Each P (drop n l)
each-drop P zero l e = e
each-drop P (suc n) [] e = tt
each-drop P (suc n) (a ∷ l) e = each-drop P n l e.1

take-map : {A B : Type 0} (f : A → B) (n : ℕ) (l : List A) → take n (map f l) ≡ map f (take n l)
take-map f zero l = refl
take-map f (suc n) [] = refl
take-map f (suc n) (a ∷ l) = ap (λ r. f a ∷ r) (take-map f n l)

drop-map : {A B : Type 0} (f : A → B) (n : ℕ) (l : List A) → drop n (map f l) ≡ map f (drop n l)
drop-map f zero l = refl
drop-map f (suc n) [] = refl
drop-map f (suc n) (a ∷ l) = drop-map f n l

window-map : {A B : Type 0} (f : A → B) (first w : ℕ) (l : List A) → window_days first w (map f l) ≡ map f (window_days first w l)
window-map f first w l = ap (take w) (drop-map f first l) ∙ take-map f w (drop first l)

add-below : {q : ℕ} → 0 < q → (a b : ℕ) → add_mod q a b < q
unfolding add_mod
add-below hq a b = mod-lt (a + b) hq

-- ---- a day

-- two residues that add to the product of two flags
pub record DayAdds (q s s' x y : ℕ) : Type 0 where
  pub below : s < q
  pub other-below : s' < q
  pub adds : Cong q (s + s') (x * y)

-- the same day, from the other side
exchanged : {q s s' x y : ℕ} → DayAdds q s s' x y → DayAdds q s' s y x
exchanged {q} {s} {s'} {x} {y} d =
    let sums : s' + s ≡ s + s' = omega arith in
    let products : x * y ≡ y * x = omega arith in
    record { below = d.other-below; other-below = d.below; adds = cong-trans (cong-eq sums) (cong-trans d.adds (cong-eq products)) }

-- a 1 by 1 by 1 product, entry by entry
one_by_one : (q : ℕ) (s s' x y : List ℕ) → mat_add q (1 * 1) s s' ≡ mat_mul q 1 1 1 x y
    → add_mod q (get_or s 0 0) (get_or s' 0 0) ≡ (get_or x 0 0 * get_or y 0 0) % q
unfolding mat_add mat_mul tabulate dot dot_to sum_to add_mod
one_by_one q s s' x y e =
    ap (λ (l : List ℕ). get_or l 0 0) e ∙ ap (λ (a : ℕ). a % q) (let z : 0 + get_or x 0 0 * get_or y 0 0 ≡ get_or x 0 0 * get_or y 0 0 = omega arith in z)

sides-add : (q m k p : ℕ) (s s' x y : List ℕ) → m ≡ 1 → k ≡ 1 → p ≡ 1 → Residues q (m * p) s → Residues q (m * p) s'
    → mat_add q (m * p) s s' ≡ mat_mul q m k p x y → DayAdds q (get_or s 0 0) (get_or s' 0 0) (get_or x 0 0) (get_or y 0 0)
sides-add q m k p s s' x y em ek ep r r' e =
    let one : m * p ≡ 1 = ap₂ (λ (a b : ℕ). a * b) em ep in
    let below : get_or s 0 0 < q = r.below 0 (omega arith) in
    let rows : mat_add q (1 * p) s s' ≡ mat_mul q 1 k p x y = subst (λ (n : ℕ). mat_add q (n * p) s s' ≡ mat_mul q n k p x y) em e in
    let columns : mat_add q (1 * 1) s s' ≡ mat_mul q 1 k 1 x y = subst (λ (n : ℕ). mat_add q (1 * n) s s' ≡ mat_mul q 1 k n x y) ep rows in
    let same = one_by_one q s s' x y (subst (λ (n : ℕ). mat_add q (1 * 1) s s' ≡ mat_mul q 1 n 1 x y) ek columns) in
    record {
      below = below;
      other-below = r'.below 0 (omega arith);
      adds = cong-trans (cong-sym (cong-add_mod (omega arith) (get_or s 0 0) (get_or s' 0 0))) (cong-trans (cong-eq same) (cong-mod (get_or x 0 0 * get_or y 0 0)));
    }

-- ---- several days

module _ {A : Type 0} (q : ℕ) (s s' x y : A → ℕ) where
  abbrev AllAdd : List A → Type 0
  AllAdd days = Each (λ (d : A). DayAdds q (s d) (s' d) (x d) (y d)) days

  shares-below : (days : List A) → AllAdd days → all_below q (map s days) ≡ true
  unfolding all_below
  shares-below [] e = refl
  shares-below (d ∷ days) e = and_both (lt-ltb (s d) q e.0.below) (shares-below days e.1)

  other-shares-below : (days : List A) → AllAdd days → all_below q (map s' days) ≡ true
  unfolding all_below
  other-shares-below [] e = refl
  other-shares-below (d ∷ days) e = and_both (lt-ltb (s' d) q e.0.other-below) (other-shares-below days e.1)

  days-add : (days : List A) → AllAdd days → all_below 2 (map x days) ≡ true → all_below 2 (map y days) ≡ true
      → Cong q (sum (map s days) + sum (map s' days)) (both_missed (map x days) (map y days))
  unfolding all_below sum both_missed
  days-add [] e fx fy = cong-refl 0
  days-add (d ∷ days) e fx fy =
      let rest = days-add days e.1 (and_right _ _ fx) (and_right _ _ fy) in
      let flags = both-flags (x d) (y d) (ltb-true (x d) 2 (and_left _ _ fx)) (ltb-true (y d) 2 (and_left _ _ fy)) in
      cong-trans (cong-eq (omega arith)) (cong-trans (e.0.adds ⊕ rest) (cong-eq (ap (λ (n : ℕ). n + both_missed (map x days) (map y days)) (sym flags))))

-- ---- over lists of calls

module _ (size : Party → ℕ) (start : Party → List ℕ) (lent : ℕ → List ℕ) (empty : Empty size start) (cs : List Call)
    (p : Premises size (run size start lent cs).log) where
  abbrev o : World
  o = run size start lent cs

  abbrev share_of : ℕ → ℕ
  share_of n = get_or (result o.log n) 0 0

  abbrev flag_of : ℕ → ℕ
  flag_of n = get_or (part 0 (view o.log n).input) 0 0

  abbrev share : (Day → ℕ) → Day → ℕ
  share whose d = share_of (whose d)

  abbrev flag : (Day → ℕ) → Day → ℕ
  flag whose d = flag_of (whose d)

  abbrev Adds : (q : ℕ) → Day → Type 0
  Adds q d = DayAdds q (share of_one d) (share of_other d) (flag of_one d) (flag of_other d)

  -- by demand 2: n is left's session and n' right's
  played-adds : (q n n' : ℕ) → Played o q n n'
      → DayAdds q (share_of n) (share_of n') (flag_of n) (flag_of n')
  played-adds q n n' k =
      let a = (demand-2 size start lent empty cs p).product n n' k.paired k.arrived in
      subst (λ (r : ℕ). DayAdds r (share_of n) (share_of n') (flag_of n) (flag_of n')) k.modulus
      (sides-add _ _ _ _ _ _ _ _ k.one-row k.one-term k.one-column a.residues a.other-residues a.sum)

  day-adds : (q : ℕ) (d : Day) → DayKept o q d → Adds q d
  day-adds q d (inl k) = played-adds q d.one d.other k
  day-adds q d (inr k) = exchanged (played-adds q d.other d.one k)

  all-add : (q : ℕ) (days : List Day) → Each (DayKept o q) days → Each (Adds q) days
  all-add q [] e = tt
  all-add q (d ∷ days) e = (day-adds q d e.0, all-add q days e.1)

  -- the modulus of a session fits
  played-modulus : (q n n' : ℕ) → Played o q n n' → within 2 largest_modulus q ≡ true
  unfolding within
  played-modulus q n n' k =
      let t = (shared size start lent empty cs p left n n' k.paired).known.terms-fit in
      let is = k.modulus in
      and_both (le-leb 2 q (omega (arith, t.big, is))) (le-leb q largest_modulus (omega (arith, t.small, is)))

  modulus-fits : (q : ℕ) (days : List Day) → 1 ≤ length days → Each (DayKept o q) days → within 2 largest_modulus q ≡ true
  modulus-fits q [] some e = absurd (omega arith)
  modulus-fits q (d ∷ days) some e = go e.0
    where
      go : DayKept o q d → within 2 largest_modulus q ≡ true
      go (inl k) = played-modulus q d.one d.other k
      go (inr k) = played-modulus q d.other d.one k

  module _ (q : ℕ) (days : List Day) (kept : Each (DayKept o q) days)
      (flags : flags_fit (flags_of o of_one days) ≡ done tt) (flags' : flags_fit (flags_of o of_other days) ≡ done tt)
      (first w : ℕ) (fits : window_fits q (length days) first w ≡ true) where
    -- the days of the window
    abbrev inside : List Day
    inside = window_days first w days

    inside-add : Each (Adds q) inside
    inside-add = each_take (Adds q) w (drop first days) (each-drop (Adds q) first days (all-add q days kept))

    fit : Fits q (length days) first w
    fit = fits-known q (length days) first w fits

    q-fits : within 2 largest_modulus q ≡ true
    q-fits = modulus-fits q days fit.some-days kept

    hq : 0 < q
    hq = positive q-fits

    -- an end's call
    given-by-end : (s : Day → ℕ) → all_below q (map s inside) ≡ true → window_share q (map s days) first w ≡ done (window_sum q (map s days) first w)
    given-by-end s below = gives (record {
      modulus = q-fits;
      fits = subst (λ (n : ℕ). Fits q n first w) (sym (length-map days s)) fit;
      residues = ap (all_below q) (window-map s first w days) ∙ below;
      share-is = refl;
    })

    -- an end's flags in the window
    flags-inside : (whose : Day → ℕ) → flags_fit (flags_of o whose days) ≡ done tt → all_below 2 (map (flag whose) inside) ≡ true
    flags-inside whose e =
        ap (all_below 2) (sym (window-map (flag whose) first w days))
        ∙ below-take 2 w _ (below-drop 2 first (flags_of o whose days) (flags-known (flags_of o whose days) e))

    abbrev count : ℕ
    count = missed_by_both (flags_of o of_one days) (flags_of o of_other days) first w

    count-is : both_missed (map (flag of_one) inside) (map (flag of_other) inside) ≡ count
    count-is = ap₂ both_missed (sym (window-map (flag of_one) first w days)) (sym (window-map (flag of_other) first w days))

    count-below : count < q
    count-below =
        let most = missed-most (window_days first w (flags_of o of_one days)) (window_days first w (flags_of o of_other days)) in
        let few = take-most w (drop first (flags_of o of_one days)) in
        omega (arith, fit.below-q)

    -- the sums of the shares, before they are reduced
    sums-add : Cong q (sum (window_days first w (shares_of o of_one days)) + sum (window_days first w (shares_of o of_other days))) count
    sums-add =
        let together = days-add q (share of_one) (share of_other) (flag of_one) (flag of_other) inside inside-add
        (flags-inside of_one flags) (flags-inside of_other flags')
        in
        cong-trans (cong-eq (ap₂ (λ (a b : List ℕ). sum a + sum b) (window-map (share of_one) first w days) (window-map (share of_other) first w days)))
        (cong-trans together (cong-eq count-is))

    shares-are : add_mod q (window_sum q (shares_of o of_one days) first w) (window_sum q (shares_of o of_other days) first w) ≡ count
    shares-are =
        let a = sum (window_days first w (shares_of o of_one days)) in
        let b = sum (window_days first w (shares_of o of_other days)) in
        cong-residue hq (cong-trans (cong-add_mod hq (a % q) (b % q)) (cong-trans (cong-mod a ⊕ cong-mod b) sums-add)) (add-below hq (a % q) (b % q)) count-below

    one-given : window_share q (shares_of o of_one days) first w ≡ done (window_sum q (shares_of o of_one days) first w)
    one-given = given-by-end (share of_one) (shares-below q (share of_one) (share of_other) (flag of_one) (flag of_other) inside inside-add)

    other-given : window_share q (shares_of o of_other days) first w ≡ done (window_sum q (shares_of o of_other days) first w)
    other-given = given-by-end (share of_other) (other-shares-below q (share of_one) (share of_other) (flag of_one) (flag of_other) inside inside-add)

    -- by moves, where all days are residues
    reached-by : (shares : List ℕ) {share : ℕ} → all_below q shares ≡ true → window_share q shares first w ≡ done share
        → (from n : ℕ) → from + n ≡ first → moves q shares from w n ≡ done share
    reached-by shares below e from n at = moves-run q shares below from w n ∙ (ap (λ (d : ℕ). window_share q shares d w) at ∙ e)

    right-window : WindowRight o q days first w
    right-window = record {
      share = window_sum q (shares_of o of_one days) first w;
      other-share = window_sum q (shares_of o of_other days) first w;
      given = one-given;
      other-given = other-given;
      reached = reached-by (shares_of o of_one days) (shares-below q (share of_one) (share of_other) (flag of_one) (flag of_other) days (all-add q days kept)) one-given;
      other-reached =
          reached-by (shares_of o of_other days)
          (other-shares-below q (share of_one) (share of_other) (flag of_one) (flag of_other) days (all-add q days kept)) other-given;
      adds = shares-are;
    }

pub window-right : WINDOW-RIGHT
window-right size start lent empty cs p q days kept flags flags' first w fits = right-window size start lent empty cs p q days kept flags flags' first w fits
