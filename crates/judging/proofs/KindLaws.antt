-- The two sorts of message: `few`, the bound on a message's residues; `size-1` to `size-6`, its residues by kind; `whole-message`;
-- `by_kind`, `two-parts`, `no_second`, `room-left`, for the room of a message; `last-system`, `last-determinant`, the sides by the last message's kind.
-- Assumes nothing.
use mathlib.Core.Path.{◌≡◌, refl, sym, ◌∙◌}
use mathlib.Core.Bool.{Bool, true, false, cond}
use mathlib.Core.List.{List, [], ◌∷◌}
use Prim.Native.Nat.{ℕ, ◌+◌, ◌-◌, ◌*◌, ◌≤◌, ◌<◌}
use native.Mathlib.Nat.{mul-le-mul_left}
use native.Mathlib.Decide.{dec_le, ℕ_discrete}
use native.Mathlib.Omega.{arith}
use lib.Dec.{eqb, leb}
use lib.ListN.{length, get_or}
use lib.Seq.{take_all}
use borrow.Author.Tests.{lt-ltb, le-ltb, le-leb, lt-leb, eq-eqb, ne_eqb}
use Rattle.algebra.specs.Count.{part, parts, total}
use Rattle.protocol.specs.declared.Terms.{Terms}
use Rattle.protocol.specs.Bounds.{Sort, product, system, sides_fit, columns}
use Rattle.protocol.specs.Message.{Message, kind_sort, last_kind, message_layout, message_size, message_parts}
use Rattle.tape.proofs.Sides.{sides-of}

pub product-kind : (kind : ℕ) → kind ≤ 2 → kind_sort kind ≡ product
unfolding kind_sort
product-kind kind h = rw (le-ltb 2 kind h)

pub system-kind : (kind : ℕ) → 2 < kind → kind_sort kind ≡ system
unfolding kind_sort
system-kind kind h = rw (lt-ltb 2 kind h)

pub few : (sort : Sort) (m k p : ℕ) → sides_fit sort m k p ≡ true → m * k + m * p ≤ 4096
few sort m k p e = let s = sides-of sort m k p e in omega (arith, s.few-mk, s.few-mp)

-- right-hand sides have no more columns than Y
pub few-columns : (m p : ℕ) → m * columns m p ≤ m * p
unfolding columns
few-columns m p = mul-le-mul_left m (omega arith)

module _ (t : Terms) where
  pub size-1 : t.k * t.p ≡ message_size 1 t
  unfolding message_size message_layout
  size-1 = omega arith

  pub size-2 : t.m * t.k + t.m * t.p ≡ message_size 2 t
  unfolding message_size message_layout
  size-2 = omega arith

  pub size-3 : t.m * t.k ≡ message_size 3 t
  unfolding message_size message_layout
  size-3 = omega arith

  pub size-4 : t.m * t.k + t.m * columns t.m t.p ≡ message_size 4 t
  unfolding message_size message_layout
  size-4 = omega arith

  pub size-5 : t.m * columns t.m t.p ≡ message_size 5 t
  unfolding message_size message_layout
  size-5 = omega arith

  pub size-6 : 1 ≡ message_size 6 t
  unfolding message_size message_layout
  size-6 = refl

-- ---- the sides, by the kind of the last message

pub last-system : (m p : ℕ) → last_kind m p ≡ 5 → (p ≡ m → ⊥)
unfolding last_kind
last-system m p e h = let z : ◌≡◌ {A = ℕ} 6 5 = rw (eq-eqb p m h) at e in omega (arith, z)

pub last-determinant : (m p : ℕ) → last_kind m p ≡ 6 → p ≡ m
unfolding last_kind
last-determinant m p e = go (ℕ_discrete p m)
  where
    go : Dec (p ≡ m) → p ≡ m
    go (yes h) = h
    go (no h) = let z : ◌≡◌ {A = ℕ} 5 6 = rw (ne_eqb p m h) at e in absurd (omega (arith, z))

-- a message of kind 1 is one matrix
pub whole-message : (t : Terms) (a : Message) → length a.residues ≡ t.k * t.p → part 0 (message_parts 1 t a) ≡ a.residues
unfolding message_parts message_layout parts
whole-message t a e = take_all (t.k * t.p) a.residues (omega arith)

-- ---- the two parts of a message

-- by the tests on its kind
pub by_kind : (kind : ℕ) (P : List ℕ → Type 0) (t : Terms) → P (t.k * t.p ∷ []) → P (t.m * t.k ∷ t.m * t.p ∷ []) → P (t.m * t.k ∷ [])
    → P (t.m * t.k ∷ t.m * columns t.m t.p ∷ []) → P (t.m * columns t.m t.p ∷ []) → P (1 ∷ []) → P (message_layout kind t.m t.k t.p)
unfolding message_layout
by_kind kind P t a b c d e f = go (eqb kind 1) (eqb kind 2) (eqb kind 3) (eqb kind 4) (eqb kind 5)
  where
    go : (x y z w v : Bool) → P (cond x (t.k * t.p ∷ []) (cond y (t.m * t.k ∷ t.m * t.p ∷ []) (cond z (t.m * t.k ∷ [])
        (cond w (t.m * t.k ∷ t.m * columns t.m t.p ∷ []) (cond v (t.m * columns t.m t.p ∷ []) (1 ∷ []))))))
    go true y z w v = a
    go false true z w v = b
    go false false true w v = c
    go false false false true v = d
    go false false false false true = e
    go false false false false false = f

pub two-parts : (kind : ℕ) (t : Terms) → get_or (message_layout kind t.m t.k t.p) 0 0 + get_or (message_layout kind t.m t.k t.p) 1 0 ≡ message_size kind t
unfolding message_size
two-parts kind t = by_kind kind (λ l. get_or l 0 0 + get_or l 1 0 ≡ total l) t (omega arith) (omega arith) (omega arith) (omega arith) (omega arith)
    (omega arith)

-- both together are no more than the first by itself or X and R may be
pub both-parts : (kind : ℕ) (t : Terms) (n : ℕ) → get_or (message_layout kind t.m t.k t.p) 0 0 ≤ n → t.m * t.k + t.m * t.p ≤ n
    → get_or (message_layout kind t.m t.k t.p) 0 0 + get_or (message_layout kind t.m t.k t.p) 1 0 ≤ n
both-parts kind t n e f =
    by_kind kind (λ l. get_or l 0 0 ≤ n → get_or l 0 0 + get_or l 1 0 ≤ n) t (λ h. omega arith) (λ h. f) (λ h. omega arith)
    (λ h. omega (arith, few-columns t.m t.p, f)) (λ h. omega arith) (λ h. omega arith) e

-- no kind but 2 and 4 has a second part
pub no_second : (kind : ℕ) (t : Terms) → (kind ≡ 2 → ⊥) → (kind ≡ 4 → ⊥) → get_or (message_layout kind t.m t.k t.p) 1 0 ≡ 0
unfolding message_layout
no_second kind t a b = rw (ne_eqb kind 2 a, ne_eqb kind 4 b) (go (eqb kind 1) (eqb kind 3) (eqb kind 5))
  where
    go : (x z v : Bool) → get_or (cond x (t.k * t.p ∷ []) (cond z (t.m * t.k ∷ []) (cond v (t.m * columns t.m t.p ∷ []) (1 ∷ [])))) 1 0 ≡ 0
    go true z v = refl
    go false true v = refl
    go false false true = refl
    go false false false = refl

-- room for two, tested by taking the first from it
pub room-left : (a b room : ℕ) → a ≤ room → leb b (room - a) ≡ leb (a + b) room
room-left a b room h = go (dec_le b (room - a))
  where
    go : Dec (b ≤ room - a) → leb b (room - a) ≡ leb (a + b) room
    go (yes l) = le-leb b (room - a) l ∙ sym (le-leb (a + b) room (omega arith))
    go (no l) = lt-leb b (room - a) (omega arith) ∙ sym (lt-leb (a + b) room (omega arith))
