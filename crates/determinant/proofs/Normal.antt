-- Modulo a prime every n by n matrix is equivalent to the diagonal of r ones: elimination of rows and columns at once, in which the first k
-- rows and columns are done. Each further one takes an exchange of rows and two of algebra's steps, one of them on the transposed matrix.
--   diagonal-in diagonal-out diagonal-at      the entries of the diagonal
--   Cross                                     the first k rows and columns are those of the identity
--   normal                                    the normal form
use mathlib.Core.Path.{◌≡◌, sym, ap, ap₂, ◌∙◌, subst}
use mathlib.Core.Bool.{Bool, true, false}
use mathlib.Core.List.{List}
use Prim.Native.Nat.{ℕ, zero, suc, ◌+◌, ◌*◌, ◌-◌, ◌%◌, ◌≤◌, ◌<◌}
use native.Mathlib.Omega.{arith}
use native.Mathlib.Decide.{ℕ_discrete, dec_lt}
use native.Mathlib.Nat.{mul-zero, zero-mod}
use lib.Arith.{digits_lt}
use lib.Dec.{ltb, eqb}
use borrow.Author.Tests.{lt-ltb, le-ltb}
use Rattle.algebra.specs.Residue.{inverse}
use Rattle.algebra.specs.Prime.{Prime}
use Rattle.algebra.specs.Matrix.{entry, matrix, sum_to, Residues}
use Rattle.algebra.specs.Count.{bit, both}
use Rattle.algebra.specs.Elimination.{swap_at, swap_rows, step}
use Rattle.algebra.proofs.Congruence.{Cong, cong-eq, cong-mod, cong-residue, cong-multiples}
use Rattle.algebra.proofs.Sums.{sum_to-find}
use Rattle.algebra.proofs.Matrix.{matrix-at, matrix-residues, matrix-ext}
use Rattle.algebra.proofs.Identity.{hq, delta, delta-same, delta-other, delta-comm, delta-below}
use Rattle.algebra.proofs.RowEquivalence.{RowEquivalent, row-refl}
use Rattle.algebra.proofs.Elementary.{swap-first, swap-second, swap-other, swap-inside}
use Rattle.algebra.proofs.Elementary.{step-pivot, step_other, step-below, Units, step-equivalent, step-units}
use Rattle.determinant.specs.Rank.{diagonal, diagonal_mat}
use Rattle.determinant.proofs.Chains.{◌⨾◌}
use Rattle.determinant.proofs.Counting.{sum_to-term}
use Rattle.determinant.proofs.Equivalence.{flip_mat, flip-at, flip-residues, flip-flip, swap-equivalent}
use Rattle.determinant.proofs.Equivalence.{Equivalent, equivalent-row, equivalent-trans, equivalent-flip}

-- ---- the diagonal of r ones

pub diagonal-in : (r i j : ℕ) → i < r → diagonal r i j ≡ delta i j
unfolding diagonal delta both
diagonal-in r i j l = rw (lt-ltb i r l)

pub diagonal-out : (r i j : ℕ) → r ≤ i → diagonal r i j ≡ 0
unfolding diagonal both
diagonal-out r i j l = rw (le-ltb i r l)

pub diagonal-at : (n r i j : ℕ) → i < n → j < n → entry n (diagonal_mat n r) i j ≡ diagonal r i j
unfolding diagonal_mat
diagonal-at n r i j hi hj = matrix-at n n (diagonal r) i j hi hj

pub diagonal-residues : {q : ℕ} → 1 < q → (n r : ℕ) → Residues q (n * n) (diagonal_mat n r)
unfolding diagonal_mat diagonal
diagonal-residues {q} h n r = matrix-residues n n (λ i j. bit (both (ltb i r) (eqb i j))) (λ i j a b. small (both (ltb i r) (eqb i j)))
  where
    small : (b : Bool) → bit b < q
    small true = h
    small false = omega arith

-- ---- the first k rows and columns are those of the identity

record Cross (n k : ℕ) (a : List ℕ) : Type 0 where
  rows : (i j : ℕ) → i < n → j < n → i < k → entry n a i j ≡ delta i j
  columns : (i j : ℕ) → i < n → j < n → j < k → entry n a i j ≡ delta i j

cross-flip : {n k : ℕ} {a : List ℕ} → Cross n k a → Cross n k (flip_mat n a)
cross-flip {n} {k} {a} c = record {
  rows = λ i j hi hj l. flip-at n a i j hi hj ∙ (c.columns j i hj hi l ∙ delta-comm j i);
  columns = λ i j hi hj l. flip-at n a i j hi hj ∙ (c.rows j i hj hi l ∙ delta-comm j i);
}

module _ {q : ℕ} (p : Prime q) (n : ℕ) where
  h1 : 1 < q
  h1 = p.two

  z : 0 < q
  z = hq h1

  -- an exchange of rows k and r, from k on
  cross-swap : (k r : ℕ) (a : List ℕ) → k < n → k ≤ r → r < n → Cross n k a → Cross n k (matrix n n (swap_rows k r (entry n a)))
  unfolding swap_rows
  cross-swap k r a hk l hr c = record {
    rows = λ i j hi hj m. at i j hi hj ∙ (ap (λ x. entry n a x j) (swap-other k r i (omega arith) (omega arith)) ∙ c.rows i j hi hj m);
    columns = λ i j hi hj m. at i j hi hj ∙ (c.columns (swap_at k r i) j (swap-inside n k r i hk hr hi) hj m ∙ elim (ℕ_discrete i k) [
      | yes e ↦ rw (e, swap-first k r) (delta-other r j (omega arith) ∙ sym (delta-other k j (omega arith)))
      | no d ↦ elim (ℕ_discrete i r) [
        | yes e ↦ rw (e, swap-second k r) (delta-other k j (omega arith) ∙ sym (delta-other r j (omega arith)))
        | no f ↦ ap (λ x. delta x j) (swap-other k r i d f)
      ]
    ]);
  }
    where
      at : (i j : ℕ) → i < n → j < n → entry n (matrix n n (λ x y. entry n a (swap_at k r x) y)) i j ≡ entry n a (swap_at k r i) j
      at i j hi hj = matrix-at n n (λ x y. entry n a (swap_at k r x) y) i j hi hj

  -- a step at column k, by a pivot in row r, from k on
  abbrev next : (k r : ℕ) → List ℕ → List ℕ
  next k r a = matrix n n (step q k r (entry n a))

  record Stepped (k r : ℕ) (a : List ℕ) : Type 0 where
    residues : Residues q (n * n) (next k r a)
    by : RowEquivalent q n n a (next k r a)
    units : Units n n (k + 1) (next k r a)
    cross : Cross n k (next k r a)

  stepped : (k r : ℕ) (a : List ℕ) → k < n → k ≤ r → r < n → Residues q (n * n) a → 0 < entry n a r k → Cross n k a → Stepped k r a
  stepped k r a hk l hr ra found c = record {
    residues = matrix-residues n n (step q k r (entry n a)) (λ i j hi hj. step-below z k r (entry n a) i j);
    by = step-equivalent p n n k r a hk hr hk ra found;
    units = u;
    cross = record { rows = row; columns = λ i j hi hj m. u.at i j hi (omega arith) };
  }
    where
      u : Units n n (k + 1) (next k r a)
      u = step-units p n n k r a hk l hr hk ra found (record { at = λ i j hi hj. c.columns i j hi (omega arith) hj })

      row : (i j : ℕ) → i < n → j < n → i < k → entry n (next k r a) i j ≡ delta i j
      row i j hi hj m =
          matrix-at n n (step q k r (entry n a)) i j hi hj
          ∙ cong-residue z (cong-eq (step_other q k r (entry n a) i j (omega arith)) ⨾ cong-mod _
          ⨾ unchanged (inverse q (entry n a r k) * entry n a r j % q)) (step-below z k r (entry n a) i j) (delta-below h1 i j)
        where
          whole : q - 0 ≡ q
          whole = omega arith

          unchanged : (x : ℕ) → Cong q (entry n a (swap_at k r i) j + (q - entry n a (swap_at k r i) k) * x) (delta i j)
          unchanged x = rw (
            swap-other k r i (omega arith) (omega arith),
            c.rows i j hi hj m,
            c.rows i k hi hk m,
            delta-other i k (omega arith),
            whole,
          ) (cong-multiples 0 x (omega arith))

  record Next (k : ℕ) (a : List ℕ) : Type 0 where
    out : List ℕ
    residues : Residues q (n * n) out
    by : Equivalent q n a out
    cross : Cross n (k + 1) out

  -- where row k is that of the identity already: column k
  last_step : (k : ℕ) (a : List ℕ) → k < n → Residues q (n * n) a → Cross n k a → ((j : ℕ) → j < n → entry n a k j ≡ delta k j) → Next k a
  last_step k a hk ra c row = record {
    out = next k k a;
    residues = o.residues;
    by = equivalent-row h1 n o.by;
    cross = record {
      rows = λ i j hi hj m. elim (ℕ_discrete i k) [ yes e ↦ rw e (own j hj) | no d ↦ o.cross.rows i j hi hj (omega arith) ];
      columns = λ i j hi hj m. o.units.at i j hi m;
    };
  }
    where
      o : Stepped k k a
      o = stepped k k a hk (omega arith) hk ra (omega (arith, row k hk, delta-same k)) c

      own : (j : ℕ) → j < n → entry n (next k k a) k j ≡ delta k j
      own j hj = elim (ℕ_discrete j k) [
        | yes e ↦ rw e (o.units.at k k hk (omega arith))
        | no d ↦ matrix-at n n (step q k k (entry n a)) k j hk hj
            ∙ (step-pivot q k k (entry n a) j ∙ rw (row j hj, delta-other k j (λ e. d (sym e)), mul-zero (inverse q (entry n a k k))) (zero-mod q))
      ]

  -- an entry from row and column k on that is not 0
  cross-next : (k i j : ℕ) (a : List ℕ) → k ≤ i → i < n → k ≤ j → j < n → Residues q (n * n) a → 0 < entry n a i j → Cross n k a → Next k a
  unfolding swap_rows
  cross-next k i j a li hi lj hj ra h c = record {
    out = o.out;
    residues = o.residues;
    by = equivalent-trans h1 n (equivalent-row h1 n (swap-equivalent h1 n k i (omega arith) hi ra)) (equivalent-trans h1 n turned o.by);
    cross = o.cross;
  }
    where
      -- the entry comes to row k
      t : List ℕ
      t = matrix n n (swap_rows k i (entry n a))

      t-ok : Residues q (n * n) t
      t-ok = matrix-residues n n (λ x y. entry n a (swap_at k i x) y) (λ x y hx hy. ra.below _ (digits_lt (swap-inside n k i x (omega arith) hi hx) hy))

      -- and by a step of the transposed matrix to column k
      f : List ℕ
      f = flip_mat n t

      found : 0 < entry n f j k
      found = rw (flip-at n t j k hj (omega arith), matrix-at n n (λ x y. entry n a (swap_at k i x) y) k j (omega arith) hj, swap-first k i) h

      g : Stepped k j f
      g = stepped k j f (omega arith) lj hj (flip-residues n t-ok) found (cross-flip (cross-swap k i a (omega arith) li hi c))

      turned : Equivalent q n t (flip_mat n (next k j f))
      turned = subst (λ (x : List ℕ). Equivalent q n x (flip_mat n (next k j f))) (flip-flip h1 n t-ok) (equivalent-flip h1 n (equivalent-row h1 n g.by))

      o : Next k (flip_mat n (next k j f))
      o = last_step k (flip_mat n (next k j f)) (omega arith) (flip-residues n g.residues) (cross-flip g.cross)
          (λ y hy. flip-at n (next k j f) k y (omega arith) hy ∙ (g.units.at y k hy (omega arith) ∙ delta-comm y k))

  -- ---- the normal form

  -- all entries from row and column k on are 0
  finished : (k : ℕ) (a : List ℕ) → k ≤ n → Residues q (n * n) a → Cross n k a
      → ((i j : ℕ) → k ≤ i → i < n → k ≤ j → j < n → entry n a i j ≡ 0) → Equivalent q n a (diagonal_mat n k)
  finished k a l ra c h = subst (λ (x : List ℕ). Equivalent q n a x) is (equivalent-row h1 n (row-refl h1 n n ra))
    where
      at : (i j : ℕ) → i < n → j < n → Dec (i < k) → Dec (j < k) → entry n a i j ≡ diagonal k i j
      at i j hi hj (yes m) d = c.rows i j hi hj m ∙ sym (diagonal-in k i j m)
      at i j hi hj (no m) (yes o) = c.columns i j hi hj o ∙ (delta-other i j (omega arith) ∙ sym (diagonal-out k i j (omega arith)))
      at i j hi hj (no m) (no o) = h i j (omega arith) hi (omega arith) hj ∙ sym (diagonal-out k i j (omega arith))

      is : a ≡ diagonal_mat n k
      is = matrix-ext z n n ra (diagonal-residues h1 n k) (λ i j hi hj. cong-eq (at i j hi hj (dec_lt i k) (dec_lt j k) ∙ sym (diagonal-at n k i j hi hj)))

  Normal : List ℕ → Type 0
  Normal a = (r : ℕ) × (r ≤ n) × Equivalent q n a (diagonal_mat n r)

  joined : {k : ℕ} {a : List ℕ} (o : Next k a) → Normal o.out → Normal a
  unfolding Normal
  joined o r = (r.0, r.1, equivalent-trans h1 n o.by r.2)

  normal-from : (f k : ℕ) (a : List ℕ) → k + f ≡ n → Residues q (n * n) a → Cross n k a → Normal a
  unfolding Normal
  normal-from zero k a e ra c = (k, omega arith, finished k a (omega arith) ra c (λ i j li hi lj hj. absurd (omega arith)))
  normal-from (suc f) k a e ra c = go (normal-from f (k + 1)) (dec_lt 0 (sum_to (suc f) (λ t. row t)))
    where
      -- the sum of the entries of row k + t from column k on
      row : ℕ → ℕ
      row t = sum_to (suc f) (λ u. entry n a (k + t) (k + u))

      go : ((b : List ℕ) → k + 1 + f ≡ n → Residues q (n * n) b → Cross n (k + 1) b → Normal b) → Dec (0 < sum_to (suc f) (λ t. row t)) → Normal a
      go later (yes h) = found (sum_to-find (suc f) (λ t. row t) h)
        where
          at : (o : Next k a) → Normal a
          at o = joined o (later o.out (omega arith) o.residues o.cross)

          there : (t : ℕ) → t < suc f → (u : ℕ) × (u < suc f) × (0 < entry n a (k + t) (k + u)) → Normal a
          there t l (u, m, g) = at (cross-next k (k + t) (k + u) a (omega arith) (omega arith) (omega arith) (omega arith) ra g c)

          found : (t : ℕ) × (t < suc f) × (0 < row t) → Normal a
          found (t, l, g) = there t l (sum_to-find (suc f) (λ u. entry n a (k + t) (k + u)) g)
      go later (no h) = (k, omega arith, finished k a (omega arith) ra c zero-at)
        where
          zero-at : (i j : ℕ) → k ≤ i → i < n → k ≤ j → j < n → entry n a i j ≡ 0
          zero-at i j li hi lj hj =
              ap₂ (λ x y. entry n a x y) (over i li) (over j lj)
              ∙ omega (
                arith,
                sum_to-term (suc f) (λ t. row t) (i - k) (omega arith),
                sum_to-term (suc f) (λ u. entry n a (k + (i - k)) (k + u)) (j - k) (omega arith),
              )
            where
              over : (x : ℕ) → k ≤ x → x ≡ k + (x - k)
              over x y = omega arith

  pub normal : {a : List ℕ} → Residues q (n * n) a → (r : ℕ) × (r ≤ n) × Equivalent q n a (diagonal_mat n r)
  unfolding Normal
  normal {a} ra = normal-from n 0 a (omega arith) ra (record { rows = λ i j hi hj l. absurd (omega arith); columns = λ i j hi hj l. absurd (omega arith) })
