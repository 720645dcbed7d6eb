-- What the dealer computes, made in a buffer: `b-written` and `v-written`, as parts of slices are cut; `b-count`, `v_count`, how many words.
-- Assumes nothing.
use mathlib.Core.Path.{◌≡◌}
use mathlib.Core.List.{List}
use Prim.Native.Nat.{ℕ, ◌+◌, ◌-◌, ◌*◌, ◌≤◌}
use native.Mathlib.Omega.{arith}
use lib.ListN.{length, take, drop}
use borrow.Rule.Slice.PartMut.{mid_of, put_mid}
use Rattle.algebra.specs.Matrix.{mat_add, mat_sub, mat_mul}
use Rattle.algebra.specs.Product.{deal_b}
use Rattle.algebra.specs.System.{deal_v}
use Rattle.algebra.specs.Words.{over, written_at}
use Rattle.algebra.proofs.Lists.{length-tabulate}
use Rattle.protocol.specs.Tape.{header_size}
use Rattle.vectors.specs.Fill.{first_words}
use Rattle.dealer.specs.Written.{b_from, v_from}
use Rattle.dealer.proofs.Words.{made-written}

pub b-count : (q m k p : ℕ) (x y a : List ℕ) → length (deal_b q m k p x y a) ≡ m * p
unfolding deal_b mat_sub
b-count q m k p x y a = length-tabulate (m * p) _

pub v_count : (q n : ℕ) (r x g : List ℕ) → length (deal_v q n r x g) ≡ n * n
unfolding deal_v mat_add
v_count q n r x g = length-tabulate (n * n) _

-- a part that is cut by its ends
cut : (a n : ℕ) (l : List ℕ) → take (a + n - a) (drop a l) ≡ take n (drop a l)
cut a n l = let e : a + n - a ≡ n = omega arith in rw e

module _ (q m k p : ℕ) (first second d buffer ys : List ℕ) where
  abbrev X : List ℕ
  X = take (header_size + m * k - header_size) (drop header_size first)

  abbrev Y : List ℕ
  Y = take (header_size + k * p - header_size) (drop header_size second)

  abbrev A : List ℕ
  A = take (header_size + m * k + m * p - (header_size + m * k)) (drop (header_size + m * k) first)

  pub b-written : m * p ≤ length buffer → header_size + k * p ≤ length second → buffer ≡ over (mat_sub q (m * p) (mat_mul q m k p X Y) A) d
      → ys ≡ over (first_words (m * p) buffer) (mid_of (header_size + k * p) (length second - (header_size + k * p)) second)
      → put_mid (header_size + k * p) (length second - (header_size + k * p)) second ys ≡ written_at (header_size + k * p) (b_from q m k p first second) second
  unfolding deal_b b_from
  b-written room h e f =
      made-written (m * p) (header_size + k * p) _ d buffer second ys (b-count q m k p _ _ _) room h
      (rw (cut header_size (m * k) first, cut header_size (k * p) second, cut (header_size + m * k) (m * p) first) at e) f

module _ (q n f s : ℕ) (first second d buffer ys : List ℕ) where
  abbrev R : List ℕ
  R = take (s + n * n - s) (drop s second)

  abbrev Q : List ℕ
  Q = take (f + n * n - f) (drop f first)

  abbrev G : List ℕ
  G = take (f + n * n + n * n - (f + n * n)) (drop (f + n * n) first)

  pub v-written : n * n ≤ length buffer → s + n * n ≤ length second → buffer ≡ over (mat_add q (n * n) (mat_mul q n n n R Q) G) d
      → ys ≡ over (first_words (n * n) buffer) (mid_of (s + n * n) (length second - (s + n * n)) second)
      → put_mid (s + n * n) (length second - (s + n * n)) second ys ≡ written_at (s + n * n) (v_from q n f s first second) second
  unfolding deal_v v_from
  v-written room h e g =
      made-written (n * n) (s + n * n) _ d buffer second ys (v_count q n _ _ _) room h
      (rw (cut s (n * n) second, cut f (n * n) first, cut (f + n * n) (n * n) first) at e) g
