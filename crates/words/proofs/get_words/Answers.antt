-- `words::get_words` meets its contract: each word is the one at its place. Assumes nothing.
use mathlib.Core.Path.{◌≡◌, sym, ap, ◌∙◌}
use mathlib.Core.List.{List}
use Prim.Native.Nat.{ℕ, ◌*◌, ◌≤◌, ◌<◌}
use native.Mathlib.Omega.{arith}
use lib.ListN.{length, get_or}
use borrow.Author.Rules.{rules}
use Rattle.algebra.specs.Words.{over}
use Rattle.vectors.specs.Fill.{first_words}
use Rattle.vectors.proofs.Fill.{each-over, first-words}
use Rattle.entry.specs.Bytes.{word_at, words_of}
use Rattle.entry.proofs.Bytes.{words-length, words-at}
use Rattle.words.proofs.get_words.Goals as goal

pub returns : goal.returns
unfolding first_words
returns c =
    let a = c.args in
    let ws : List ℕ = words_of a.bytes.now in
    let s = c.set_each.ensures in
    let each : (i : ℕ) → i < a.n → get_or c.set_each.new.out i 0 ≡ get_or ws i 0 = λ i h.
    let e = s.each i 0 h in
    let at : get_or c.set_each.new.out i 0 ≡ word_at a.bytes.now (i * 4) = search rules in
    at ∙ sym (words-at i a.bytes.now (omega arith)) in
    let many : a.n ≤ length ws = omega (arith, words-length a.bytes.now) in
    each-over (λ i. get_or ws i 0) a.out.now _ a.n (search rules) (search rules) each s.others
    ∙ ap (λ (l : List ℕ). over l a.out.now) (first-words a.n ws many)
