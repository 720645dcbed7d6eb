-- `drawing::sift` meets its contract: both of its ways do. Assumes nothing.
use mathlib.Core.Path.{◌≡◌, sym, ◌∙◌}
use mathlib.Core.List.{List}
use Prim.Native.Nat.{ℕ, ◌*◌, ◌≤◌}
use borrow.Author.Rules.{rules}
use native.Mathlib.Omega.{arith}
use lib.ListN.{length}
use Rattle.entry.specs.Bytes.{word_at, words_of}
use Rattle.entry.proofs.Bytes.{words-length, words-at}
use Rattle.drawing.proofs.Sifting.{sifted-whole, sifted-then}
use Rattle.drawing.proofs.sift.Goals as goal
use Rattle.drawing.proofs.sift.Goals.{then-n-many+else-all_kept, else-n-many}

pub returns-then-all_kept : goal.returns-then-all_kept
returns-then-all_kept c =
    let a = c.args in
    let many : a.n ≤ length (words_of a.bytes.now) = omega (arith, words-length a.bytes.now) in
    sifted-whole a.q a.n (words_of a.bytes.now) a.out.now many c.get_words.ensures
    (c.all_kept.ensures c.if-all_kept.true)

pub returns : goal.returns
returns c =
    let a = c.args in
    let ws : List ℕ = words_of a.bytes.now in
    let s = c.sift_each.ensures ws (words-length a.bytes.now) (λ i w h e.
    let at : w ≡ word_at a.bytes.now (i * 4) = search rules in
    at ∙ sym (words-at i a.bytes.now (omega arith))) in
    elim c.if-n-many.branch [
      | then-n-many+else-all_kept b ↦ sifted-then a.q a.n ws a.out.now (omega (arith, words-length a.bytes.now, b.if-n-many.true)) b.get_words.ensures (rw b.out-is at s)
      | else-n-many b ↦ rw b.out-is at s
    ]
