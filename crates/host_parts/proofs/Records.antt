-- A session's record, from its bytes and into them.
--   terms-there, kept_there, session-there   what stands in a record's bytes
--   due-there, due-none                      the kind of message that is due
--   record-put                               a session's words over a record's bytes
-- Assumes nothing.
use mathlib.Core.Path.{◌≡◌, refl, sym, ap, ◌∙◌}
use mathlib.Core.List.{List, ◌++◌}
use Prim.Native.Nat.{ℕ, ◌-◌}
use native.Mathlib.Omega.{arith}
use lib.ListN.{length, get_or, take, drop, length-drop}
use lib.Seq.{take_all}
use borrow.Author.Tests.{eq-eqb, ne_eqb}
use borrow.Rule.Slice.PartMut.{mid_of, put_mid}
use Rattle.algebra.specs.Words.{over}
use Rattle.vectors.proofs.Written.{tail-part, part_then, after-over}
use Rattle.protocol.specs.declared.Terms.{Terms}
use Rattle.entry.specs.declared.Session.{Session}
use Rattle.entry.specs.Bytes.{word_at, words_of, bytes_of}
use Rattle.entry.specs.Record.{terms_of, record_words, session_from}
use Rattle.entry.specs.Entry.{session_in}
use Rattle.entry.proofs.Bytes.{words-at, words-length, words-drop, bytes-length, bytes-append}
use Rattle.local.proofs.Lists.{over-whole}
use Rattle.local.specs.Stored.{start_words}

module _ (l : List ℕ) (h : length l ≡ 1120) where
  pub terms-there : {a b c d e f : ℕ} → a ≡ word_at l 4 → b ≡ word_at l 8 → c ≡ word_at l 12 → d ≡ word_at l 16 → e ≡ word_at l 20 → f ≡ word_at l 24
      → terms_of a b c d e f
      ≡ terms_of (get_or (words_of l) 1 0) (get_or (words_of l) 2 0) (get_or (words_of l) 3 0) (get_or (words_of l) 4 0) (get_or (words_of l) 5 0) (get_or (words_of l) 6 0)
  terms-there ea eb ec ed ee ef =
      rw (
        words-at 1 l (omega arith),
        words-at 2 l (omega arith),
        words-at 3 l (omega arith),
        words-at 4 l (omega arith),
        words-at 5 l (omega arith),
        words-at 6 l (omega arith),
        ea,
        eb,
        ec,
        ed,
        ee,
        ef,
      )

  -- of the words behind the eighth, an array is filled
  pub kept_there : (d : List ℕ) {out : List ℕ} → length d ≡ 272 → out ≡ over (take 272 (words_of (take (length l - 32) (drop 32 l)))) d
      → out ≡ drop 8 (words_of l)
  kept_there d k e =
      let many : length (words_of (drop 32 l)) ≡ 272 = omega (arith, words-length (drop 32 l), length-drop 32 l) in
      let all : take 272 (words_of (take (length l - 32) (drop 32 l))) ≡ words_of (drop 32 l) =
      ap (λ (z : List ℕ). take 272 (words_of z)) (tail-part 32 l) ∙ take_all 272 (words_of (drop 32 l)) (omega arith) in
      e ∙ (ap (λ (z : List ℕ). over z d) all ∙ (over-whole (words_of (drop 32 l)) d (omega arith) ∙ sym (words-drop 8 l)))

  pub session-there : {end due : ℕ} {t : Terms} {kept : List ℕ} → end ≡ word_at l 0
      → t ≡ terms_of (get_or (words_of l) 1 0) (get_or (words_of l) 2 0) (get_or (words_of l) 3 0) (get_or (words_of l) 4 0) (get_or (words_of l) 5 0) (get_or (words_of l) 6 0)
      → due ≡ word_at l 28 → kept ≡ drop 8 (words_of l)
      → ◌≡◌ {A = Session} (record { end = end; terms = t; due = due; kept = kept }) (session_from (words_of l))
  unfolding session_from
  session-there e f g k = rw (words-at 0 l (omega arith), words-at 7 l (omega arith), e, f, g, k)

  pub due-there : {due : ℕ} → due ≡ word_at l 28 → due ≡ (session_in l).due
  unfolding session_in session_from
  due-there e = rw (eq-eqb (length l) 1120 h, words-at 7 l (omega arith)) e

-- a record of another length
pub due-none : (l : List ℕ) → (length l ≡ 1120 → ⊥) → 0 ≡ (session_in l).due
unfolding session_in
due-none l f = rw (ne_eqb (length l) 1120 f) refl

start-bytes : (x : Session) → length (bytes_of (start_words x)) ≡ 32
unfolding start_words
start-bytes x = bytes-length (start_words x)

record-bytes : (x : Session) → bytes_of (start_words x) ++ bytes_of x.kept ≡ bytes_of (record_words x)
unfolding start_words record_words
record-bytes x = sym (bytes-append (start_words x) x.kept)

start-all : (x : Session) → take 8 (start_words x) ≡ start_words x
unfolding start_words
start-all x = refl

-- the first eight words, and what is kept behind them
pub record-put : (x : Session) (d : List ℕ) {start out ys : List ℕ} → length x.kept ≡ 272 → length d ≡ 1120 → start ≡ start_words x
    → out ≡ over (bytes_of (take 8 start)) d → ys ≡ over (bytes_of (take 272 x.kept)) (mid_of 32 (length out - 32) out)
    → put_mid 32 (length out - 32) out ys ≡ over (bytes_of (record_words x)) d
record-put x d {start} {out} {ys} h k s e f =
    let first : out ≡ over (bytes_of (start_words x)) d = e ∙ (rw (s, start-all x)) in
    let len : length out ≡ length d = after-over (bytes_of (start_words x)) d first (omega (arith, start-bytes x)) in
    let second : ys ≡ over (bytes_of x.kept) (mid_of 32 (length out - 32) out) =
    f ∙ ap (λ (z : List ℕ). over (bytes_of z) (mid_of 32 (length out - 32) out)) (take_all 272 x.kept (omega arith)) in
    part_then (bytes_of (start_words x)) (bytes_of x.kept) d out ys 32 (start-bytes x) (omega arith) first second
    ∙ ap (λ (z : List ℕ). over z d) (record-bytes x)
