-- A call on the bytes from its slot on, in the whole pool.
--   within-pool   what it leaves there is what it leaves in the pool
--   seen_bytes    the words that it looks at, from these bytes
-- Assumes nothing.
use mathlib.Core.Path.{◌≡◌, refl, sym, ap, ◌∙◌}
use mathlib.Core.Bool.{Bool, true, false, cond, false≢true}
use mathlib.Core.List.{List, [], ◌∷◌, ◌++◌, append-nil, append_assoc}
use Prim.Native.Nat.{ℕ, zero, suc, ◌+◌, ◌*◌, ◌-◌, ◌/◌, ◌≤◌, ◌<◌}
use native.Mathlib.Omega.{arith}
use lib.Dec.{leb, ltb}
use lib.ListN.{length, take, drop, length-append, length-take, length-drop, take-append-drop}
use lib.Seq.{take-take, drop-drop, length-take-le}
use borrow.Rule.Slice.PartMut.{mid_of, put_mid, put_same}
use Rattle.algebra.specs.Words.{over, written_at}
use Rattle.protocol.specs.declared.Terms.{Terms}
use Rattle.protocol.specs.declared.Refusal.{Refusal}
use Rattle.protocol.specs.declared.Refusal.TheVariants.{Size}
use Rattle.protocol.specs.Judge.{place_of, Judged, refused, done}
use Rattle.protocol.specs.Tape.{Slot, slot_at, is_slot, slot_words, Role}
use Rattle.protocol.specs.Step.{Effect, Outcome}
use Rattle.protocol.proofs.Judge.{refused≢done}
use Rattle.protocol.proofs.Slots.{slot-room, slot-length}
use Rattle.vectors.proofs.Written.{part-written, tail-part}
use Rattle.entry.specs.declared.Session.{Session}
use Rattle.entry.specs.Bytes.{words_of, bytes_of}
use Rattle.entry.specs.Steps.{lower_than}
use Rattle.entry.specs.Entry.{Lent, Left, left, in_room, line_of}
use Rattle.entry.proofs.Bytes.{Below, words-length, words_take, words-drop, bytes-length, bytes-append, bytes_take, bytes_drop, part-back}
use Rattle.local.specs.Seen.{on_done, entering, seen_size, seen, behind}
use Rattle.local.proofs.Slots.{seen-length, outside-size}
use Rattle.local.proofs.Proper.{Proper}
use Rattle.local.specs.Entered.{entered_by}

-- ---- words that stand there already, written again

written-more : (a : ℕ) (x y l : List ℕ) → y ≡ take (length y) (drop (length x) (drop a l)) → written_at a (x ++ y) l ≡ written_at a x l
unfolding written_at over
written-more a x y l e =
    ap (λ (z : List ℕ). take a l ++ z)
    (append_assoc x y _
    ∙ ap (λ (z : List ℕ). x ++ z)
    (ap (λ (z : List ℕ). y ++ z) (ap (λ (k : ℕ). drop k (drop a l)) (length-append x y) ∙ sym (drop-drop (length y) (length x) (drop a l)))
    ∙ ap (λ (z : List ℕ). z ++ drop (length y) (drop (length x) (drop a l))) e ∙ take-append-drop (length y) (drop (length x) (drop a l))))

-- an effect with more words behind its slot's
abbrev growing : List ℕ → Effect Session → Effect Session
growing rest e =
    record { answer = e.answer; session = e.session; slot = e.slot ++ rest; scratch = e.scratch; sent = e.sent; result = e.result }

-- how many words the slot of a done call has
abbrev slot_length : Outcome Session → ℕ
slot_length (refused r) = 0
slot_length (done e) = length e.slot

-- ---- what is left

module _ (l : Lent) (from : ℕ) (inside : from ≤ length l.pool) where
  -- what is lent: the bytes from the slot on instead of the pool's
  abbrev pub slot_lent : Lent
  slot_lent = record {
    host = l.host;
    pool = mid_of from (length l.pool - from) l.pool;
    scratch = l.scratch;
    line = l.line;
    result = l.result;
  }

  abbrev pub in_pool : Left → Left
  in_pool v = record {
    report = v.report;
    lent = record {
      host = v.lent.host;
      pool = put_mid from (length l.pool - from) l.pool v.lent.pool;
      scratch = v.lent.scratch;
      line = v.lent.line;
      result = v.lent.result;
    };
  }

  -- where the call is done: the slot begins there, and behind its words stand others that keep their values
  pub record Placed (at n : ℕ) (rest : List ℕ) : Type 0 where
    pub begins : at * 4 ≡ from
    pub stands : bytes_of rest ≡ take (length (bytes_of rest)) (drop (n * 4) (drop from l.pool))

  module _ (at n : ℕ) (rest : List ℕ) where
    pool-done : (ws : List ℕ) → length ws ≡ n → Placed at n rest
        → put_mid from (length l.pool - from) l.pool (over (bytes_of ws) (mid_of from (length l.pool - from) l.pool))
        ≡ written_at (at * 4) (bytes_of (ws ++ rest)) l.pool
    pool-done ws size p =
        let count : length (bytes_of ws) ≡ n * 4 = bytes-length ws ∙ ap (λ (k : ℕ). k * 4) size in
        part-written from (bytes_of ws) l.pool _ inside refl
        ∙ sym (rw (p.begins, bytes-append ws rest) (written-more from (bytes_of ws) (bytes_of rest) l.pool (rw count p.stands)))

    -- of any outcome
    outcome-within : (o : Outcome Session) → ((e : Effect Session) → o ≡ done e → (length e.slot ≡ n) × Placed at n rest)
        → in_pool (left 0 slot_lent o) ≡ left at l (on_done (growing rest) o)
    unfolding written_at
    outcome-within (refused r) h = rw (put_same from (length l.pool - from) l.pool) refl
    outcome-within (done e) h = let p = h e refl in rw (sym (pool-done e.slot p.0 p.1)) refl

    -- what an entry makes of a step's outcome
    grown : (e : Effect Session) (read : ℕ) → growing rest (entering read [] e) ≡ entering read rest e
    grown e read = rw (append-nil e.slot) refl

    pick-room : (b : Bool) (e d : Effect Session) → growing rest e ≡ d
        → on_done (growing rest) (cond {A = Outcome Session} b (done e) (refused Size)) ≡ cond {A = Outcome Session} b (done d) (refused Size)
    pick-room true e d h = ap done h
    pick-room false e d h = refl

    pick-lower : (b : Bool) (r s : Refusal) (room : ℕ) → on_done (growing rest) (in_room room (cond {A = Outcome Session} b (refused r) (refused s)))
        ≡ in_room room (cond {A = Outcome Session} b (refused r) (refused s))
    unfolding in_room
    pick-lower true r s room = refl
    pick-lower false r s room = refl

    entry-grown : (read room : ℕ) (own : Judged Unit) (o : Outcome Session) → on_done (growing rest) (in_room room (lower_than own (on_done (entering read []) o)))
        ≡ in_room room (lower_than own (on_done (entering read rest) o))
    unfolding in_room
    entry-grown read room (done u) (refused s) = refl
    entry-grown read room (done u) (done e) = pick-room (leb (length (line_of e.sent)) room) (entering read [] e) (entering read rest e) (grown e read)
    entry-grown read room (refused r) (refused s) = pick-lower (ltb (place_of s) (place_of r)) s r room
    entry-grown read room (refused r) (done e) = refl

    -- it is done only where its step is
    only-done : (read room : ℕ) (own : Judged Unit) (o : Outcome Session) (d : Effect Session) → in_room room (lower_than own (on_done (entering read []) o)) ≡ done d
        → ((e : Effect Session) → o ≡ done e → (length e.slot ≡ n) × Placed at n rest) → (length d.slot ≡ n) × Placed at n rest
    unfolding in_room
    only-done read room (done u) (refused s) d e h = absurd (refused≢done e)
    only-done read room (done u) (done f) d e h = go (leb (length (line_of f.sent)) room) e
      where
        go : (b : Bool) → cond {A = Outcome Session} b (done (entering read [] f)) (refused Size) ≡ done d → (length d.slot ≡ n) × Placed at n rest
        go true g =
            let p = h f refl in
            (ap (λ (z : Outcome Session). slot_length z) (sym g) ∙ (ap length (append-nil f.slot) ∙ p.0), p.1)
        go false g = absurd (refused≢done g)
    only-done read room (refused r) (refused s) d e h = absurd (go (ltb (place_of s) (place_of r)) e)
      where
        go : (b : Bool) → in_room room (cond {A = Outcome Session} b (refused s) (refused r)) ≡ done d → ⊥
        go true g = refused≢done g
        go false g = refused≢done g
    only-done read room (refused r) (done f) d e h = absurd (refused≢done e)

    pub within-pool : (read : ℕ) (own : Judged Unit) (o : Outcome Session) → ((e : Effect Session) → o ≡ done e → (length e.slot ≡ n) × Placed at n rest)
        → in_pool (entered_by slot_lent 0 own (on_done (entering read []) o)) ≡ entered_by l at own (on_done (entering read rest) o)
    unfolding entered_by
    within-pool read own o h =
        outcome-within (in_room (length l.line) (lower_than own (on_done (entering read []) o))) (λ d e. only-done read (length l.line) own o d e h)
        ∙ ap (left at l) (entry-grown read (length l.line) own o)

-- ---- the words that a call looks at, from the bytes of its pool

take-of-drop : (n m : ℕ) (l : List ℕ) → m ≤ length l → drop n (take m l) ≡ take (length (drop n (take m l))) (drop n l)
take-of-drop zero m l h = sym (ap (λ (k : ℕ). take k l) (length-take-le m l h))
take-of-drop (suc n) zero l h = refl
take-of-drop (suc n) (suc m) [] h = refl
take-of-drop (suc n) (suc m) (x ∷ l) h = take-of-drop n m l (omega arith)

module _ (role : Role) (t : Terms) (pool : List ℕ) (size index : ℕ) where
  abbrev s : Slot
  s = slot_at (words_of pool) size index

  -- where the slot begins, in bytes
  abbrev pub start : ℕ
  start = cond (ltb index (length pool / 4 / size)) (index * size * 4) 0

  abbrev n : ℕ
  n = seen_size role t s

  pub is-slot : is_slot s ≡ ltb index (length pool / 4 / size)
  unfolding is_slot
  is-slot = rw (words-length pool) refl

  slot-bytes : is_slot s ≡ true → index * size + size ≤ length pool / 4
  slot-bytes e = omega (arith, slot-room s e, words-length pool)

  seen_few : is_slot s ≡ true → n ≤ size
  seen_few e = omega (arith, slot-length s e, seen-length role t s, length-take n (slot_words s))

  -- the same words, from the bytes from there on
  pub seen_bytes : take n (words_of (mid_of start (length pool - start) pool)) ≡ take n (slot_words s)
  unfolding slot_words
  seen_bytes = ap (λ (z : List ℕ). take n (words_of z)) (tail-part start pool) ∙ go (is_slot s) refl
    where
      go : (b : Bool) → is_slot s ≡ b → take n (words_of (drop start pool)) ≡ take n (take size (drop (index * size) (words_of pool)))
      go true e =
          rw (sym is-slot ∙ e) (ap (take n) (sym (words-drop (index * size) pool)) ∙ sym (take-take n size (drop (index * size) (words_of pool)) (seen_few e)))
      go false e = let z : n ≡ 0 = outside-size role t s e in rw z refl

  pub stands-behind : Below 256 pool → is_slot s ≡ true
      → bytes_of (behind role t s) ≡ take (length (bytes_of (behind role t s))) (drop (n * 4) (drop (index * size * 4) pool))
  unfolding behind slot_words
  stands-behind b e =
      let d = drop (index * size * 4) pool in
      let room : size * 4 ≤ length d = omega (arith, slot-bytes e, length-drop (index * size * 4) pool) in
      let is : bytes_of (drop n (take size (drop (index * size) (words_of pool)))) ≡ drop (n * 4) (take (size * 4) d) =
      bytes_drop n (take size (drop (index * size) (words_of pool))) ∙ ap (drop (n * 4)) (part-back pool b (index * size) size (slot-bytes e)) in
      rw is (take-of-drop (n * 4) (size * 4) d room)
