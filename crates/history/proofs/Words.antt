-- The laws of words written over a list and into a slot.
--   over-over, over_nothing                        two writes over the start of a list
--   length-pool, same-slot, other-slot, tail-stays   a slot of a pool is written
--   tape-status .. tape-matrices                   a tape over the words that stood there
-- Assumes nothing.
use mathlib.Core.Path.{◌≡◌, refl, sym, ap, ◌∙◌}
use mathlib.Core.Logic.{◌≢◌}
use mathlib.Core.Bool.{true}
use mathlib.Core.List.{List, [], ◌∷◌, ◌++◌}
use Prim.Native.Nat.{ℕ, zero, suc, ◌+◌, ◌*◌, ◌-◌, ◌/◌, ◌≤◌}
use native.Mathlib.Nat.{mul-le-mul_right, zero-add, suc-add}
use native.Mathlib.Decide.{dec_le}
use native.Mathlib.Omega.{arith}
use lib.ListN.{length, get_or, take, drop, length-append, length-take, length-drop}
use lib.Seq.{length-take-le, take-append-le, drop-drop, take-take, take_at, drop_at, take-nil}
use borrow.Author.Tests.{ltb-true}
use Rattle.algebra.specs.Matrix.{zeros}
use Rattle.algebra.proofs.Lists.{length-tabulate}
use Rattle.algebra.specs.Words.{over, written_at}
use Rattle.protocol.specs.Tape.{header_size, tape_at, q_at, m_at, k_at, p_at, Slot, is_slot, slot_words, pool_with, header_words, status_of, with_status, spent, SPENT, Role, layout, body_size, body, matrices}
use Rattle.algebra.specs.Count.{parts, join, total}
use Rattle.algebra.proofs.Parts.{Fits, fits-join, parts_join}
use Rattle.protocol.specs.declared.Terms.{Terms}
use Rattle.history.specs.Log.{Dealing}
use Rattle.history.specs.Contents.{tape_on}
use Rattle.protocol.proofs.Slots.{slot-room}

pub length_over : (ws l : List ℕ) → length ws ≤ length l → length (over ws l) ≡ length l
unfolding over
length_over ws l h = simp (length-append, length-drop) (omega arith)

pub over-over : (ws vs l : List ℕ) → length ws ≡ length vs → over ws (over vs l) ≡ over ws l
unfolding over
over-over ws vs l e = rw e (ap (λ (z : List ℕ). ws ++ z) (drop_at vs (drop (length vs) l) (length vs) refl))

pub over_nothing : (l : List ℕ) → over [] l ≡ l
unfolding over
over_nothing l = refl

-- ---- a write from a position on

module _ (at : ℕ) (ws l : List ℕ) (fits : at + length ws ≤ length l) where
  pub length-written : length (written_at at ws l) ≡ length l
  unfolding written_at over
  length-written = simp (length-append, length-take, length-drop) (omega arith)

  -- what lies before it
  pub take-written : (n : ℕ) → n ≤ at → take n (written_at at ws l) ≡ take n l
  unfolding written_at
  take-written n h = take-append-le n (take at l) (over ws (drop at l)) (simp length-take (omega arith)) ∙ take-take n at l h

  pub drop-written-at : drop at (written_at at ws l) ≡ over ws (drop at l)
  unfolding written_at
  drop-written-at = drop_at (take at l) (over ws (drop at l)) at (length-take-le at l (omega arith))

  -- what lies after it
  pub drop-written : (n : ℕ) → at + length ws ≤ n → drop n (written_at at ws l) ≡ drop n l
  unfolding over
  drop-written n h = rw (← whole, ← drop-drop (n - (at + length ws)) (at + length ws) (written_at at ws l)) (rw (after, drop-drop) refl)
    where
      whole : (at + length ws) + (n - (at + length ws)) ≡ n
      whole = omega arith

      after : drop (at + length ws) (written_at at ws l) ≡ drop (at + length ws) l
      after =
          sym (drop-drop (length ws) at (written_at at ws l))
          ∙ ap (λ (z : List ℕ). drop (length ws) z) drop-written-at
          ∙ drop_at ws (drop (length ws) (drop at l)) (length ws) refl
          ∙ drop-drop (length ws) at l

take-drop : (n a : ℕ) (l : List ℕ) → take n (drop a l) ≡ drop a (take (a + n) l)
take-drop n zero l = rw zero-add refl
take-drop n (suc a) [] = take-nil n ∙ sym (ap (λ (l : List ℕ). drop (suc a) l) (take-nil (suc a + n)))
take-drop n (suc a) (x ∷ xs) = rw suc-add (take-drop n a xs)

-- ---- a whole slot is written

module _ (pool : List ℕ) (size i : ℕ) (ws : List ℕ) where
  abbrev slot : Slot
  slot = record { pool = pool; size = size; index = i }

  module _ (inside : is_slot slot ≡ true) (whole : length ws ≡ size) where
    room : i * size + size ≤ length pool
    room = slot-room slot inside

    pub length-pool : length (pool_with slot ws) ≡ length pool
    unfolding pool_with
    length-pool = length-written (i * size) ws pool (omega (arith, room))

    pub same-slot : slot_words (record { pool = pool_with slot ws; size = size; index = i }) ≡ ws
    unfolding slot_words pool_with over
    same-slot = rw (drop-written-at (i * size) ws pool (omega (arith, room))) (take_at ws (drop (length ws) (drop (i * size) pool)) size whole)

    pub other-slot : (j : ℕ) → j ≢ i → slot_words (record { pool = pool_with slot ws; size = size; index = j }) ≡ slot_words (record { pool = pool; size = size; index = j })
    unfolding slot_words pool_with
    other-slot j h = go (dec_le i j)
      where
        fits : i * size + length ws ≤ length pool
        fits = omega (arith, room)

        go : Dec (i ≤ j) → take size (drop (j * size) (written_at (i * size) ws pool)) ≡ take size (drop (j * size) pool)
        go (yes below) =
            let far : suc i ≤ j = omega arith in
            rw (drop-written (i * size) ws pool fits (j * size) (omega (arith, mul-le-mul_right size far))) refl
        go (no above) =
            let near : suc j ≤ i = omega arith in
            take-drop size (j * size) (written_at (i * size) ws pool)
            ∙ ap (λ (l : List ℕ). drop (j * size) l) (take-written (i * size) ws pool fits (j * size + size) (omega (arith, mul-le-mul_right size near)))
            ∙ sym (take-drop size (j * size) pool)

    -- what follows the last whole slot
    pub tail-stays : drop (length pool / size * size) (pool_with slot ws) ≡ drop (length pool / size * size) pool
    unfolding pool_with is_slot
    tail-stays =
        let below : suc i ≤ length pool / size = ltb-true _ _ inside in
        drop-written (i * size) ws pool (omega (arith, room)) (length pool / size * size) (omega (arith, mul-le-mul_right size below))

-- ---- a tape's words: header and matrices over what stood there

-- the tape of a dealing with this mark and these matrices, over the words `before`
module _ (status : ℕ) (ms : List ℕ) (d : Dealing) (before : List ℕ) where
  pub tape-status : status_of (tape_on status ms d before) ≡ status
  unfolding over header_words status_of
  tape-status = refl

  pub tape-number : get_or (tape_on status ms d before) tape_at 0 ≡ d.request.tape.0
  unfolding over header_words
  tape-number = refl

  pub tape-q : get_or (tape_on status ms d before) q_at 0 ≡ d.request.q
  unfolding over header_words
  tape-q = refl

  pub tape-m : get_or (tape_on status ms d before) m_at 0 ≡ d.request.m
  unfolding over header_words
  tape-m = refl

  pub tape-k : get_or (tape_on status ms d before) k_at 0 ≡ d.request.k
  unfolding over header_words
  tape-k = refl

  pub tape-p : get_or (tape_on status ms d before) p_at 0 ≡ d.request.p
  unfolding over header_words
  tape-p = refl

  pub length-tape : header_size + length ms ≤ length before → length (tape_on status ms d before) ≡ length before
  unfolding header_words
  length-tape h = length_over _ before (omega (arith, h))

  pub tape-marked : (status' : ℕ) → with_status status' (tape_on status ms d before) ≡ tape_on status' ms d before
  unfolding over header_words with_status written_at
  tape-marked status' = refl

  pub tape-spent : (n : ℕ) → length ms ≡ n → spent n (tape_on status ms d before) ≡ tape_on SPENT (zeros n) d before
  unfolding over header_words spent with_status written_at zeros
  tape-spent n e =
      let r = d.request in
      let same : length ms ≡ length (zeros n) = e ∙ sym (length-tabulate n (λ i. 0)) in
      let header = header_words SPENT r.tape.0 r.sort r.q r.m r.k r.p in
      let long : length (header ++ ms) ≡ length (header ++ zeros n)
      = length-append header ms ∙ ap (λ (c : ℕ). length header + c) same ∙ sym (length-append header (zeros n)) in
      ap (λ (z : List ℕ). header ++ (zeros n ++ z))
      (drop_at ms (drop (length (header ++ ms)) before) (length (zeros n)) same ∙ ap (λ (c : ℕ). drop c before) long)

-- the matrices of a half that stands in a slot
pub tape-matrices : (role : Role) (t : Terms) (status : ℕ) (d : Dealing) (ls : List (List ℕ)) (before : List ℕ)
    → Fits t.q (layout role t.m t.k t.p) ls → matrices role t (tape_on status (join ls) d before) ≡ ls
unfolding matrices body over header_words body_size
tape-matrices role t status d ls before f =
    ap (parts (layout role t.m t.k t.p)) (take_at (join ls) _ (total (layout role t.m t.k t.p)) (fits-join f).size) ∙ parts_join f
