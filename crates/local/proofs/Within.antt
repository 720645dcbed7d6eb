-- A call on its pool, with words cut to the lengths that it looks at.
--   words-room, bytes-room   the cut words have room in the bytes
--   few_words                how many words of a scratch or a result are looked at
--   call-within              a call on the bytes from its slot on, in its pool
--   call-cut                 what it leaves is what the entry leaves on the whole pool
-- Assumes nothing.
use mathlib.Core.Path.{◌≡◌, refl, sym, ap, ◌∙◌}
use mathlib.Core.Bool.{true, cond}
use mathlib.Core.List.{List, []}
use Prim.Native.Nat.{ℕ, ◌+◌, ◌*◌, ◌-◌, ◌/◌, ◌≤◌}
use native.Mathlib.Omega.{arith}
use lib.Dec.{ltb}
use lib.ListN.{length, take, drop, length-take, length-drop}
use lib.Seq.{length-take-le}
use borrow.Rule.Slice.PartMut.{mid_of, put_mid}
use Rattle.protocol.specs.declared.Terms.{Terms}
use Rattle.protocol.specs.Judge.{Judged, done}
use Rattle.protocol.specs.Tape.{Role, Slot, slot_at, is_slot}
use Rattle.protocol.specs.Step.{Effect, Outcome}
use Rattle.vectors.proofs.Written.{tail-part}
use Rattle.entry.specs.declared.Session.{Session}
use Rattle.entry.specs.Bytes.{words_of}
use Rattle.entry.specs.Entry.{Lent, Left}
use Rattle.entry.proofs.Bytes.{Below, words-length}
use Rattle.local.specs.Seen.{least, seen, seen_size, behind, on_done, entering}
use Rattle.local.specs.Stored.{seen_in}
use Rattle.local.specs.Entered.{entered_by}
use Rattle.local.proofs.Slots.{least-below, seen-inside}
use Rattle.local.proofs.Lists.{least-taken}
use Rattle.local.proofs.Proper.{Proper}
use Rattle.local.proofs.Pool.{slot_lent, in_pool, Placed, within-pool, start, seen_bytes, stands-behind, is-slot}

-- ---- room

pub words-room : (n from : ℕ) (ws pool : List ℕ) → from + n * 4 ≤ length pool → length (take n ws) * 4 ≤ length (mid_of from (length pool - from) pool)
words-room n from ws pool h =
    let part : length (mid_of from (length pool - from) pool) ≡ length (drop from pool) = ap length (tail-part from pool) in
    omega (arith, length-take n ws, part, length-drop from pool)

pub bytes-room : (k most : ℕ) (ws bytes : List ℕ) → k ≡ least (length bytes / 4) most → length (take k ws) * 4 ≤ length bytes
bytes-room k most ws bytes e = let few = (least-below (length bytes / 4) most).0 in omega (arith, length-take k ws, few, e)

pub few_words : (k bytes : ℕ) (ws : List ℕ) → k ≡ least (bytes / 4) (length ws) → k ≤ length ws
few_words k bytes ws e = let few = (least-below (bytes / 4) (length ws)).1 in omega (arith, few, e)

-- ---- the call

size-seen : (role : Role) (t : Terms) (pool : List ℕ) (size index : ℕ)
    → seen_in role t (length pool / 4) size index ≡ seen_size role t (slot_at (words_of pool) size index)
unfolding seen_in seen_size
size-seen role t pool size index = rw (is-slot role t pool size index) refl

-- what is lent from a byte on, and what it leaves in the pool
abbrev pub lent_from : Lent → ℕ → Lent
lent_from l from = record {
  host = l.host;
  pool = mid_of from (length l.pool - from) l.pool;
  scratch = l.scratch;
  line = l.line;
  result = l.result;
}

abbrev pub back_from : Lent → ℕ → Left → Left
back_from l from v = record {
  report = v.report;
  lent = record {
    host = v.lent.host;
    pool = put_mid from (length l.pool - from) l.pool v.lent.pool;
    scratch = v.lent.scratch;
    line = v.lent.line;
    result = v.lent.result;
  };
}

-- a step of role and terms: on a slot, words of scratch, and room for a result
module _ (role : Role) (t : Terms) (step : Slot → List ℕ → ℕ → Outcome Session)
    (proper : (c : Slot) (ls : List ℕ) (j : ℕ) (e : Effect Session) → step c ls j ≡ done e → Proper c e)
    (read : ℕ) (own : Judged Unit) (l : Lent) (size index : ℕ) (bytes : Below 256 l.pool) where
  abbrev s : Slot
  s = slot_at (words_of l.pool) size index

  abbrev n₀ : ℕ
  n₀ = seen_size role t s

  abbrev from₀ : ℕ
  from₀ = start role t l.pool size index

  -- the words that are looked at, from the bytes from the slot on
  same-slot : slot_at (take n₀ (words_of (mid_of from₀ (length l.pool - from₀) l.pool))) n₀ 0 ≡ seen role t s
  unfolding seen
  same-slot = ap (λ (ws : List ℕ). slot_at ws n₀ 0) (seen_bytes role t l.pool size index)

  placed : (inside : from₀ ≤ length l.pool) (ls : List ℕ) (j : ℕ) (e : Effect Session) → step (seen role t s) ls j ≡ done e
      → (length e.slot ≡ n₀) × Placed l from₀ inside (index * size) n₀ (behind role t s)
  unfolding seen
  placed inside ls j e f =
      let p = proper (seen role t s) ls j e f in
      let in-slot : is_slot s ≡ true = sym (seen-inside role t s) ∙ p.inside in
      let begins : index * size * 4 ≡ from₀ = rw (sym (is-slot role t l.pool size index) ∙ in-slot) refl in (
        p.slot,
        record { begins = begins; stands = rw (sym begins) (stands-behind role t l.pool size index bytes in-slot) },
      )

  -- what it leaves on n words from a byte on, with these words of scratch and room for j of result
  abbrev pub part_left : (n from : ℕ) → List ℕ → (j : ℕ) → Left
  part_left n from ls j =
      entered_by (lent_from l from) 0 own
      (on_done (entering read []) (step (slot_at (take n (words_of (mid_of from (length l.pool - from) l.pool))) n 0) ls j))

  abbrev pub whole_left : List ℕ → (j : ℕ) → Left
  whole_left ls j = entered_by l (index * size) own (on_done (entering read (behind role t s)) (step (seen role t s) ls j))

  call-within : (ls : List ℕ) (j : ℕ) → from₀ ≤ length l.pool → back_from l from₀ (part_left n₀ from₀ ls j) ≡ whole_left ls j
  call-within ls j inside =
      rw same-slot (within-pool l from₀ inside (index * size) n₀ (behind role t s) read own (step (seen role t s) ls j) (placed inside ls j))

  pub call-cut : (role' : Role) (t' : Terms) (n from k j : ℕ) (ws ls us : List ℕ) {v : Left} → role' ≡ role → t' ≡ t
      → n ≡ seen_in role' t' (length l.pool / 4) size index → from ≡ cond (ltb index (length l.pool / 4 / size)) (index * size * 4) 0
      → from + n * 4 ≤ length l.pool → n ≤ length ws → k ≡ least (length l.scratch / 4) (length ls) → j ≡ least (length l.result / 4) (length us)
      → v ≡ part_left (length (take n ws)) from (take (length (take k ls)) (words_of l.scratch)) (length (take j us))
      → back_from l from v ≡ whole_left (take (length ls) (words_of l.scratch)) (least (length l.result / 4) (length us))
  call-cut role' t' n from k j ws ls us {v} er et en ef inside few ek ej e =
      let size_is : n ≡ n₀ = rw (sym er, sym et) (en ∙ size-seen role' t' l.pool size index) in
      let nw : length (take n ws) ≡ n = length-take-le n ws few in
      let nl : length (take k ls) ≡ k = length-take-le k ls (few_words k (length l.scratch) ls ek) in
      let nu : length (take j us) ≡ j = length-take-le j us (few_words j (length l.result) us ej) in
      let lent : take k (words_of l.scratch) ≡ take (length ls) (words_of l.scratch) =
      ap (λ (i : ℕ). take i (words_of l.scratch)) (ek ∙ ap (λ (i : ℕ). least i (length ls)) (sym (words-length l.scratch)))
      ∙ least-taken (length ls) (words_of l.scratch) in
      let room : from₀ ≤ length l.pool = omega (arith, inside, ef) in
      ap (back_from l from) (rw (nw, nl, nu, lent) at e)
      ∙ (rw (size_is, ef, ej) (call-within (take (length ls) (words_of l.scratch)) (least (length l.result / 4) (length us)) room))
