-- A line's form, by what loading it told, and what a step is handed of it.
--   message-wrong, message-other, message-taken
--   seen_none, seen_all                                    how many residues are looked at
--   opening-kept, other-kind, other-count, opening-reply   the message that a first step is handed
-- Assumes nothing.
use mathlib.Core.Path.{◌≡◌, refl, sym, ap, ◌∙◌}
use mathlib.Core.Bool.{true, false}
use mathlib.Core.List.{List}
use mathlib.Core.Option.{Option, some, none}
use Prim.Native.Nat.{ℕ, ◌≤◌, ◌<◌}
use native.Mathlib.Omega.{arith}
use lib.ListN.{length, drop}
use borrow.Author.Tests.{le-leb, lt-leb, eq-eqb, ne_eqb}
use Rattle.algebra.specs.Count.{both}
use Rattle.protocol.specs.declared.Head.{Head}
use Rattle.protocol.specs.declared.Refusal.TheVariants.{Form}
use Rattle.protocol.specs.Judge.{clear, refused, done, judge, judge_by}
use Rattle.protocol.specs.Message.{message_with, kind_known}
use Rattle.protocol.specs.Line.{numbers_of, parsed, parse_message}
use Rattle.local.specs.Seen.{seen_count, sent_size, is_reply, shrunk, opening_head, opening_count}
use Rattle.line.specs.Reading.{Holds, NoMessage}
use Rattle.host_parts.specs.Taken.{MessageIn}

pub message-wrong : (s : List ℕ) → NoMessage s → parse_message s ≡ refused Form
unfolding parse_message judge judge_by clear both
message-wrong s w = go (numbers_of s) refl
  where
    go : (o : Option (List ℕ)) → numbers_of s ≡ o → parsed o ≡ refused Form
    go none e = refl
    go (some xs) e = rw (lt-leb 7 (length xs) (w xs e))

module _ {s words : List ℕ} {h : Head} {n : ℕ} (l : Holds s h n words) where
  pub message-other : kind_known h.kind ≡ false → parse_message s ≡ refused Form
  unfolding parse_message judge judge_by clear both
  message-other k = rw (l.reads, le-leb 7 (length l.values) l.seven, sym (ap (λ (x : Head). kind_known x.kind) l.head) ∙ k)

  reads-done : kind_known h.kind ≡ true → parse_message s ≡ done (message_with h (drop 7 l.values))
  unfolding parse_message judge judge_by clear both
  reads-done k =
      rw (
        l.reads,
        le-leb 7 (length l.values) l.seven,
        sym (ap (λ (x : Head). kind_known x.kind) l.head) ∙ k,
      )
      (ap (λ (x : Head). done (message_with x (drop 7 l.values))) (sym l.head))

  pub message-taken : kind_known h.kind ≡ true → MessageIn s words h n
  message-taken k = record { residues = drop 7 l.values; reads = reads-done k; known = k; count = l.count; stands = l.residues }

-- ---- how many residues are looked at

pub seen_none : (n : ℕ) → 3072 < n → (0 ≡ seen_count n) × (0 ≤ 3072) × (0 ≤ n)
unfolding seen_count
seen_none n h = (rw (lt-leb n 3072 h), omega arith, omega arith)

pub seen_all : (n : ℕ) → n ≤ 3072 → (n ≡ seen_count n) × (n ≤ 3072) × (n ≤ n)
unfolding seen_count
seen_all n h = (rw (le-leb n 3072 h), h, omega arith)

-- ---- the message that a first step is handed

module _ (h : Head) (n : ℕ) where
  pub opening-kept : n ≤ 2048 → (h ≡ opening_head h n) × (n ≡ opening_count h n) × (n ≤ 2048) × (n ≤ n)
  unfolding opening_head opening_count
  opening-kept few = (rw (le-leb n 2048 few), rw (le-leb n 2048 few), few, omega arith)

  pub other-kind : 2048 < n → (h.kind ≡ 2 → ⊥) → (h ≡ opening_head h n) × (0 ≡ opening_count h n) × (0 ≤ 2048) × (0 ≤ n)
  unfolding opening_head opening_count is_reply both
  other-kind many k = (rw (lt-leb n 2048 many, ne_eqb h.kind 2 k), rw (lt-leb n 2048 many, ne_eqb h.kind 2 k), omega arith, omega arith)

  pub other-count : 2048 < n → h.kind ≡ 2 → (n ≡ sent_size h → ⊥) → (h ≡ opening_head h n) × (0 ≡ opening_count h n) × (0 ≤ 2048) × (0 ≤ n)
  unfolding opening_head opening_count is_reply both
  other-count many k c = (
    rw (lt-leb n 2048 many, eq-eqb h.kind 2 k, ne_eqb n (sent_size h) c),
    rw (lt-leb n 2048 many, eq-eqb h.kind 2 k, ne_eqb n (sent_size h) c),
    omega arith,
    omega arith,
  )

  pub opening-reply : {r : Head} → 2048 < n → h.kind ≡ 2 → n ≡ sent_size h → r ≡ shrunk h → (r ≡ opening_head h n) × (2 ≡ opening_count h n) × (2 ≤ 2048) × (2 ≤ n)
  unfolding opening_head opening_count is_reply both
  opening-reply many k c e = (
    rw (lt-leb n 2048 many, eq-eqb h.kind 2 k, eq-eqb n (sent_size h) c) e,
    rw (lt-leb n 2048 many, eq-eqb h.kind 2 k, eq-eqb n (sent_size h) c),
    omega arith,
    omega arith,
  )
