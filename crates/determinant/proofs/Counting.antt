-- A count is above 0 exactly where some list passes.
--   some-passes     a list that passes
--   passing-of      one that passes
--   count-both      with a second test that says the same of every list that passes the first
use mathlib.Core.Path.{◌≡◌, sym, ap, ◌∙◌}
use mathlib.Core.Bool.{Bool, true, false, false≢true}
use mathlib.Core.List.{List, [], ◌∷◌}
use Prim.Native.Nat.{ℕ, zero, suc, ◌+◌, ◌*◌, ◌≤◌, ◌<◌}
use native.Mathlib.Omega.{arith}
use native.Mathlib.Decide.{ℕ_discrete}
use Rattle.algebra.specs.Matrix.{sum_to, Residues}
use Rattle.algebra.specs.Count.{bit, both, sum_lists, count, parts, total, join, count_parts}
use Rattle.algebra.proofs.Tests.{and_left, and_right, and_both, same_test}
use Rattle.algebra.proofs.Lists.{residues-nil, residues-tail}
use Rattle.algebra.proofs.Count.{count-find, sum_lists-ext}
use Rattle.algebra.proofs.Parts.{Fits, fits-join, parts_join, fits-parts, parts_none}

pub sum_to-term : (n : ℕ) (f : ℕ → ℕ) (t : ℕ) → t < n → f t ≤ sum_to n f
unfolding sum_to
sum_to-term zero f t l = absurd (omega arith)
sum_to-term (suc n) f t l = go (ℕ_discrete t n) (λ m. sum_to-term n f t m)
  where
    go : Dec (t ≡ n) → (t < n → f t ≤ sum_to n f) → f t ≤ sum_to n f + f n
    go (yes e) later = rw e (omega arith)
    go (no d) later = omega (arith, later (omega arith))

sum_lists-positive : (q n : ℕ) (w : List ℕ → ℕ) (l : List ℕ) → Residues q n l → 0 < w l → 0 < sum_lists q n w
unfolding sum_lists
sum_lists-positive q zero w l r h = rw (residues-nil q l r) at h
sum_lists-positive q (suc n) w [] r h = absurd (omega (arith, r.size))
sum_lists-positive q (suc n) w (a ∷ l) r h =
    omega (arith, sum_lists-positive q n (λ k. w (a ∷ k)) l (residues-tail r) h, sum_to-term q (λ b. sum_lists q n (λ k. w (b ∷ k))) a (r.below 0 (omega arith)))

pub some-passes : (q : ℕ) (ns : List ℕ) (test : List (List ℕ) → Bool) (ls : List (List ℕ)) → Fits q ns ls → test ls ≡ true → 0 < count_parts q ns test
unfolding count_parts count
some-passes q ns test ls f e =
    sum_lists-positive q (total ns) (λ l. bit (test (parts ns l))) (join ls) (fits-join f) (rw (parts_join f, e) (omega arith))

pub passing-of : (q : ℕ) (ns : List ℕ) (test : List (List ℕ) → Bool) → 0 < count_parts q ns test → (ls : List (List ℕ)) × Fits q ns ls × (test ls ≡ true)
unfolding count_parts
passing-of q ns test h =
    let r = count-find q (total ns) (λ l. test (parts ns l)) h in
    (parts ns r.0, fits-parts ns r.1, r.2)

-- where all that pass the one test have the same answer to the other, both tests pass as many as the first, or none
pub count-both : (q : ℕ) (ns : List ℕ) (test other : List (List ℕ) → Bool) (b : Bool) → ((ls : List (List ℕ)) → Fits q ns ls → test ls ≡ true → other ls ≡ b)
    → count_parts q ns (λ t. both (test t) (other t)) ≡ bit b * count_parts q ns test
unfolding count_parts count
count-both q ns test other true h =
    sum_lists-ext q (total ns) _ _
    (λ l r. ap bit (same_test (both (test (parts ns l)) (other (parts ns l))) (test (parts ns l))
    (and_left _ _) (λ e. and_both e (h (parts ns l) (fits-parts ns r) e))))
    ∙ omega arith
count-both q ns test other false h =
    parts_none q ns (λ t. both (test t) (other t)) (λ ls f e. false≢true (sym (h ls f (and_left _ _ e)) ∙ and_right _ _ e)) ∙ omega arith
