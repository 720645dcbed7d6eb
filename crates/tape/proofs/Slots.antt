-- A slot lent as a part of its pool, its status, and a half in it.
--   slot-inside, no_slot                where a slot lies
--   slot-part, slot-back, slot-written  a slot lent to a reader, and to a writer
--   same-pool                           a slot with its own words
--   status-set                          the first word of a slot is its status
--   zeroed-spent                        a spent tape
-- Assumes nothing.
use mathlib.Core.Path.{◌≡◌, refl, ap, ◌∙◌}
use mathlib.Core.List.{List, [], ◌∷◌, ◌++◌}
use Prim.Native.Nat.{ℕ, ◌+◌, ◌-◌, ◌*◌, ◌/◌, ◌≤◌, ◌<◌}
use native.Mathlib.Nat.{not-suc-le-zero, div-zero, mul-le-mul_right, div-mul-le_self, add-mul, one-mul}
use native.Mathlib.Numerals.{add-one-le}
use native.Mathlib.Omega.{arith}
use lib.Dec.{ltb}
use borrow.Author.Tests.{ltb-true, le-ltb}
use lib.ListN.{length, set, take, drop, length-take, length-drop, take-append-drop}
use borrow.Rule.Slice.PartMut.{mid_of, put_mid}
use Rattle.algebra.specs.Matrix.{zeros}
use Rattle.algebra.specs.Words.{over, written_at}
use Rattle.algebra.proofs.Lists.{length-tabulate}
use Rattle.protocol.specs.declared.Terms.{Terms}
use Rattle.protocol.specs.Tape.{Role, Slot, is_slot, slot_at, slot_words, pool_with, body_size, tape_size, body, with_status, spent, header_size, IN-USE, SPENT, words_in_use, words_spent}
use Rattle.vectors.proofs.Written.{part-written, written-length}
use Rattle.protocol.proofs.Slots.{slot-length}
use mathlib.Core.Bool.{true, false}

-- ---- a slot of a pool

pub slot-inside : (pool size index : ℕ) → ltb index (pool / size) ≡ true → index * size + size ≤ pool
slot-inside pool size index e =
    let step : (index + 1) * size ≤ pool / size * size = mul-le-mul_right size (add-one-le (ltb-true _ _ e)) in
    omega (arith, div-mul-le_self pool size, step, add-mul index 1 size, one-mul size)

pub slot-room : (pool : List ℕ) (size index : ℕ) → is_slot (slot_at pool size index) ≡ true → index * size + size ≤ length pool
unfolding is_slot
slot-room pool size index e = slot-inside (length pool) size index e

pub no_slot : (pool size index : ℕ) → size ≡ 0 → ltb index (pool / size) ≡ false
no_slot pool size index e = rw (e, div-zero) (le-ltb index 0 (omega arith))

-- a slot, lent as a part of its pool
pub slot-part : (pool : List ℕ) (size index : ℕ) → take (index * size + size - index * size) (drop (index * size) pool) ≡ slot_words (slot_at pool size index)
unfolding slot_words
slot-part pool size index =
    let n : index * size + size - index * size ≡ size = omega arith in
    rw n

pub slot-part-length : (pool : List ℕ) (size index : ℕ) → index * size + size ≤ length pool
    → length (take (index * size + size - index * size) (drop (index * size) pool)) ≡ size
slot-part-length pool size index h = simp (length-take, length-drop) (omega arith)

-- a slot that was lent comes back with other words
pub slot-back : (pool ys : List ℕ) (size index : ℕ) → length ys ≡ size
    → put_mid (index * size) (index * size + size - index * size) pool ys ≡ pool_with (slot_at pool size index) ys
unfolding pool_with written_at over
slot-back pool ys size index e =
    let n : index * size + size - index * size ≡ length ys = omega arith in
    rw n

-- a slot lent to a writer that makes f of its words
pub slot-written : (pool ys : List ℕ) (size index : ℕ) (f : List ℕ → List ℕ) → index * size + size ≤ length pool
    → ((words : List ℕ) → length words ≡ size → length (f words) ≡ size)
    → ys ≡ f (take (index * size + size - index * size) (drop (index * size) pool))
    → put_mid (index * size) (index * size + size - index * size) pool ys ≡ pool_with (slot_at pool size index) (f (slot_words (slot_at pool size index)))
slot-written pool ys size index f inside keeps e =
    slot-back pool ys size index (ap length e ∙ keeps _ (slot-part-length pool size index inside))
    ∙ ap (pool_with (slot_at pool size index)) (e ∙ ap f (slot-part pool size index))

-- a slot with its own words
pub same-pool : (s : Slot) → is_slot s ≡ true → pool_with s (slot_words s) ≡ s.pool
unfolding pool_with written_at over slot_words
same-pool s e =
    let n : length (take s.size (drop (s.index * s.size) s.pool)) ≡ s.size = slot-length s e in
    rw n
    (ap (λ (l : List ℕ). take (s.index * s.size) s.pool ++ l) (take-append-drop s.size (drop (s.index * s.size) s.pool))
    ∙ take-append-drop (s.index * s.size) s.pool)

-- ---- its status

pub status-set : (v : ℕ) (words : List ℕ) → 0 < length words → set words 0 v ≡ with_status v words
unfolding with_status written_at over
status-set v [] h = absurd (not-suc-le-zero h)
status-set v (x ∷ words) h = refl

pub status-length : (v : ℕ) (words : List ℕ) → 0 < length words → length (with_status v words) ≡ length words
unfolding with_status written_at over
status-length v words h = simp length-drop (omega arith)

pub in-use-length : (words : List ℕ) → 0 < length words → length (words_in_use words) ≡ length words
unfolding words_in_use
in-use-length words h = status-length IN-USE words h

-- ---- a spent tape

pub zeros-count : (n : ℕ) → length (zeros n) ≡ n
unfolding zeros
zeros-count n = length-tabulate n _

pub zeroed-spent : (n : ℕ) (words ys : List ℕ) → header_size + n ≤ length words → ys ≡ over (zeros n) (mid_of header_size (length words - header_size) words)
    → with_status SPENT (put_mid header_size (length words - header_size) words ys) ≡ spent n words
unfolding spent
zeroed-spent n words ys h e = rw (part-written header_size (zeros n) words ys (omega arith) e)

pub spent-length : (n : ℕ) (words : List ℕ) → header_size + n ≤ length words → length (spent n words) ≡ length words
unfolding spent
spent-length n words h =
    let whole = written-length header_size (zeros n) words (omega (arith, zeros-count n)) in
    status-length SPENT (written_at header_size (zeros n) words) (omega arith) ∙ whole

-- ---- a half

module _ (role : Role) (t : Terms) where
  pub half-body : header_size + body_size role t.m t.k t.p ≡ tape_size role t.m t.k t.p
  unfolding tape_size
  half-body = refl

  -- the words between the header and a half's end are its matrices
  pub body-part : (words : List ℕ) (half : ℕ) → half ≡ tape_size role t.m t.k t.p → take (half - header_size) (drop header_size words) ≡ body role t words
  unfolding body tape_size
  body-part words half e =
      let n : half - header_size ≡ body_size role t.m t.k t.p = omega arith in
      rw n

  pub spent-is : (words : List ℕ) (half : ℕ) → half ≡ tape_size role t.m t.k t.p → spent (half - header_size) words ≡ words_spent role t words
  unfolding words_spent tape_size
  spent-is words half e =
      let n : half - header_size ≡ body_size role t.m t.k t.p = omega arith in
      rw n

  pub spent-keeps : (words : List ℕ) → tape_size role t.m t.k t.p ≤ length words → length (words_spent role t words) ≡ length words
  unfolding words_spent
  spent-keeps words h = spent-length _ words (omega (arith, half-body, h))
