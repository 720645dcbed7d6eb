-- Matrix j of a half is one part of its slot, whatever the role.
--   part_of, parts-within   part j of a list in parts
--   matrix-next, matrix-last, matrix-within   where each matrix begins and ends
--   matrix-part             matrix j as a part of the slot's words
-- Assumes nothing.
use mathlib.Core.Path.{◌≡◌, refl, sym, ap, ◌∙◌}
use mathlib.Core.List.{List, [], ◌∷◌}
use Prim.Native.Nat.{ℕ, zero, suc, ◌+◌, ◌-◌, ◌*◌, ◌≤◌}
use native.Mathlib.Omega.{arith}
use lib.ListN.{length, get_or, take, drop}
use lib.Seq.{take-nil, take-take, drop-nil, drop-drop}
use Rattle.algebra.specs.Count.{parts, part, total}
use Rattle.algebra.proofs.Parts.{total-cons}
use Rattle.protocol.specs.declared.Terms.{Terms}
use Rattle.protocol.specs.Tape.{header_size, Role, left, right, blinder, solver, layout, matrix_at, body_size, tape_size, body, matrices}

-- ---- parts of a list

pub part_of : (sizes l : List ℕ) (j : ℕ) → part j (parts sizes l) ≡ take (get_or sizes j 0) (drop (total (take j sizes)) l)
unfolding parts
part_of [] l j = refl
part_of (n ∷ ns) l zero = refl
part_of (n ∷ ns) l (suc j) =
    part_of ns (drop n l) j
    ∙ ap (take (get_or ns j 0)) (drop-drop (total (take j ns)) n l ∙ ap (λ (i : ℕ). drop i l) (sym (total-cons n (take j ns))))

pub total-next : (sizes : List ℕ) (j : ℕ) → total (take (suc j) sizes) ≡ total (take j sizes) + get_or sizes j 0
total-next [] zero = refl
total-next [] (suc j) = refl
total-next (n ∷ ns) zero = omega arith
total-next (n ∷ ns) (suc j) =
    total-cons n (take (suc j) ns) ∙ (ap (λ (i : ℕ). n + i) (total-next ns j) ∙ omega (arith, total-cons n (take j ns)))

pub total-within : (sizes : List ℕ) (j : ℕ) → total (take j sizes) ≤ total sizes
total-within [] zero = omega arith
total-within [] (suc j) = omega arith
total-within (n ∷ ns) zero = omega arith
total-within (n ∷ ns) (suc j) = omega (arith, total-cons n ns, total-cons n (take j ns), total-within ns j)

-- a part of a list's start
pub part-of-start : (k n a : ℕ) (l : List ℕ) → a + k ≤ n → take k (drop a (take n l)) ≡ take k (drop a l)
part-of-start k n zero l h = take-take k n l (omega arith)
part-of-start k zero (suc a) l h = absurd (omega arith)
part-of-start k (suc n) (suc a) [] h = refl
part-of-start k (suc n) (suc a) (x ∷ l) h = part-of-start k n a l (omega arith)

-- ---- the matrices of a half

module _ (role : Role) (m k p : ℕ) where
  pub matrix-first : matrix_at role m k p 0 ≡ header_size
  unfolding matrix_at
  matrix-first = refl

  pub matrix-next : (j : ℕ) → matrix_at role m k p (suc j) ≡ matrix_at role m k p j + get_or (layout role m k p) j 0
  unfolding matrix_at
  matrix-next j = omega (arith, total-next (layout role m k p) j)

  pub matrix-within : (j : ℕ) → matrix_at role m k p j ≤ tape_size role m k p
  unfolding matrix_at tape_size body_size
  matrix-within j = omega (arith, total-within (layout role m k p) j)

-- no half has more than four matrices
pub matrix-last : (role : Role) (m k p : ℕ) → matrix_at role m k p 4 ≡ tape_size role m k p
unfolding matrix_at tape_size body_size
matrix-last left m k p = refl
matrix-last right m k p = refl
matrix-last blinder m k p = refl
matrix-last solver m k p = refl

-- matrix j stands from where it begins to where the next one does
pub matrix-part : (role : Role) (t : Terms) (j : ℕ) (ws : List ℕ)
    → take (matrix_at role t.m t.k t.p (suc j) - matrix_at role t.m t.k t.p j) (drop (matrix_at role t.m t.k t.p j) ws)
    ≡ part j (matrices role t ws)
unfolding matrices body body_size matrix_at
matrix-part role t j ws =
    let sizes = layout role t.m t.k t.p in
    let n : header_size + total (take (suc j) sizes) - (header_size + total (take j sizes)) ≡ get_or sizes j 0 = omega (arith, total-next sizes j) in
    let inside : total (take j sizes) + get_or sizes j 0 ≤ total sizes = omega (arith, total-next sizes j, total-within sizes (suc j)) in
    rw n
    (ap (take (get_or sizes j 0)) (sym (drop-drop (total (take j sizes)) header_size ws))
    ∙ sym (part_of sizes (take (total sizes) (drop header_size ws)) j ∙ part-of-start (get_or sizes j 0) (total sizes) (total (take j sizes)) (drop header_size ws) inside))
