-- The sizes of a half's matrices, past the first: the same for every end of one sort.
--   second-size, later-sizes   the second matrix, and those behind it
--   half-bound, product-bound  no half passes 8,192 words behind its header, and none of a product 3,072
--   matrix-length              how many words matrix j of a half has
--   matrix-inside, matrix-is   it stands in the slot's words from where it begins to where the next one does
-- Assumes nothing.
use mathlib.Core.Path.{◌≡◌, refl, sym, ap, ◌∙◌}
use mathlib.Core.Bool.{true}
use Prim.Native.Nat.{ℕ, zero, suc, ◌+◌, ◌-◌, ◌*◌, ◌≤◌, ◌<◌}
use native.Mathlib.Numerals.{unary_clauses}
use native.Mathlib.Omega.{arith}
use lib.ListN.{length, get_or, take, drop, length-take, length-drop}
use Rattle.algebra.specs.Count.{part}
use Rattle.protocol.specs.declared.Terms.{Terms}
use Rattle.protocol.specs.Bounds.{product, sides_fit}
use Rattle.protocol.specs.Tape.{header_size, Role, left, right, blinder, solver, sort_of, layout, matrix_at, body_size, tape_size, Slot, slot_words, matrices}
use Rattle.protocol.proofs.Slots.{slot-length}
use Rattle.protocol.proofs.Matrices.{matrix-next, matrix-within, matrix-part}
use Rattle.tape.specs.Placed.{Placed}
use Rattle.tape.proofs.Sides.{sides, sides-of}

pub second-size : (role : Role) (t : Terms) → get_or (layout role t.m t.k t.p) 1 0 ≡ t.m * t.p
second-size left t = refl
second-size right t = refl
second-size blinder t = refl
second-size solver t = refl

pub later-sizes : (role : Role) (t : Terms) (j : ℕ) → 1 < j → j < 4 → get_or (layout role t.m t.k t.p) j 0 ≡ get_or (layout role t.m t.k t.p) 2 0
later-sizes role t zero h l = absurd (omega arith)
later-sizes role t (suc zero) h l = absurd (omega arith)
later-sizes role t (suc (suc zero)) h l = refl
later-sizes left t (suc (suc (suc zero))) h l = refl
later-sizes right t (suc (suc (suc zero))) h l = refl
later-sizes blinder t (suc (suc (suc zero))) h l = refl
later-sizes solver t (suc (suc (suc zero))) h l = refl
later-sizes role t (suc (suc (suc (suc j)))) h l = absurd (omega arith)

pub half-bound : (role : Role) (m k p : ℕ) → sides_fit (sort_of role) m k p ≡ true → tape_size role m k p ≤ header_size + 8192
unfolding tape_size body_size
half-bound left m k p e = let s = sides-of (sort_of left) m k p e in omega (arith, s.few-mk, s.few-kp, s.few-mp)
half-bound right m k p e = let s = sides-of (sort_of right) m k p e in omega (arith, s.few-mk, s.few-kp, s.few-mp)
half-bound blinder m k p e = let s = sides-of (sort_of blinder) m k p e in omega (arith, s.few-mk, s.few-kp, s.few-mp)
half-bound solver m k p e = let s = sides-of (sort_of solver) m k p e in omega (arith, s.few-mk, s.few-kp, s.few-mp)

pub product-bound : (m k p : ℕ) → sides_fit product m k p ≡ true → (tape_size left m k p ≤ header_size + 3072) × (tape_size right m k p ≤ header_size + 3072)
unfolding tape_size body_size
product-bound m k p e = let s = sides m k p e in (omega (arith, s.few-mk, s.few-mp), omega (arith, s.few-kp, s.few-mp))

-- how many words a matrix has, in a half that has its place
pub matrix-length : (role : Role) (t : Terms) (j : ℕ) (s : Slot) → Placed role t s
    → length (part j (matrices role t (slot_words s))) ≡ get_or (layout role t.m t.k t.p) j 0
matrix-length role t j s p =
    let next = matrix-next role t.m t.k t.p j in
    let within = matrix-within role t.m t.k t.p (suc j) in
    ap length (sym (matrix-part role t j (slot_words s)))
    ∙ simp (length-take, length-drop) (omega (arith, next, within, p.room, slot-length s p.inside))

-- matrix j stands in its slot's words
module _ (role : Role) (t : Terms) (j : ℕ) (s : Slot) where
  pub matrix-inside : {from stop n : ℕ} → Placed role t s → from ≡ matrix_at role t.m t.k t.p j → stop ≡ matrix_at role t.m t.k t.p (j + 1)
      → n ≡ length (slot_words s) → (from ≤ stop) × (stop ≤ n)
  matrix-inside p e f' g =
      let f = simp unary_clauses at f' in
      let next = matrix-next role t.m t.k t.p j in
      let within = matrix-within role t.m t.k t.p (suc j) in
      (omega (arith, next), omega (arith, within, p.room, slot-length s p.inside))

  pub matrix-is : take (matrix_at role t.m t.k t.p (j + 1) - matrix_at role t.m t.k t.p j) (drop (matrix_at role t.m t.k t.p j) (slot_words s))
      ≡ part j (matrices role t (slot_words s))
  matrix-is = simp unary_clauses (matrix-part role t j (slot_words s))
