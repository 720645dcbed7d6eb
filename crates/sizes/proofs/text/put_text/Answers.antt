-- Each byte of the text stands over the slice's start. Assumes nothing.
use mathlib.Core.Path.{◌≡◌, ap, ◌∙◌}
use mathlib.Core.List.{List}
use Prim.Native.Nat.{ℕ}
use native.Mathlib.Omega.{arith}
use borrow.Author.Rules.{rules}
use borrow.Author.Tests.{le-leb}
use lib.ListN.{length, get_or}
use lib.Seq.{take_all}
use Rattle.algebra.specs.Words.{over}
use Rattle.vectors.specs.Fill.{first_words}
use Rattle.vectors.proofs.Fill.{first-words, each-over}
use Rattle.sizes.specs.Words.{told}
use Rattle.sizes.proofs.text.put_text.Goals as goal

whole : (text : List ℕ) → first_words (length text) text ≡ text
whole text = first-words (length text) text (omega arith) ∙ take_all (length text) text (omega arith)

pub returns : goal.returns
unfolding told first_words
returns c =
    let a = c.args in
    let s = c.set_each.ensures in
    let text = a.text.now in
    let few = c.if-out-n.false in
    let all : c.set_each.new.out ≡ over text a.out.now =
    each-over (λ e. get_or text e 0) a.out.now _ (length text) few (search rules) (λ i h. let e = s.each i 0 h in search rules) s.others
    ∙ ap (λ (l : List ℕ). over l a.out.now) (whole text) in
    rw (le-leb _ _ few, all)
