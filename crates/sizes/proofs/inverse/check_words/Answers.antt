-- `sizes::inverse::check_words` meets its contract. Assumes nothing.
use mathlib.Core.Path.{ap, ◌∙◌}
use mathlib.Core.List.{List}
use Prim.Native.Nat.{ℕ}
use native.Mathlib.Omega.{arith}
use lib.ListN.{length, length-take}
use Rattle.judging.specs.InOrder.{judged}
use Rattle.sizes.specs.Inverse.{matrix_tests}
use Rattle.sizes.proofs.Square.{square-few, words-loaded, words_count}
use Rattle.sizes.proofs.inverse.check_words.Goals as goal

pub get_words-requires : goal.get_words-requires
get_words-requires c =
    let a = c.args in
    let h = c.requires in
    let few = square-few a.n h.few in
    (omega (arith, c.times-nn.ensures, h.whole), omega (arith, c.times-nn.ensures, few))

pub slice_bounds-words-end : goal.slice_bounds-words-end
slice_bounds-words-end c =
    let a = c.args in
    omega (arith, c.times-nn.ensures, square-few a.n c.requires.few)

pub slice_bounds-check_inverse-end : goal.slice_bounds-check_inverse-end
slice_bounds-check_inverse-end c =
    let few = square-few _ c.requires.few in
    simp length-take (omega (arith, c.times-nn.ensures))

pub check_inverse-requires : goal.check_inverse-requires
check_inverse-requires c =
    let a = c.args in
    let h = c.requires in
    let nn = c.times-nn.ensures in
    let loaded = words-loaded a.n _ a.bytes.now _ nn h.whole c.get_words.ensures in
    (h.prime, h.small, h.few, ap length loaded ∙ words_count a.n a.bytes.now h.whole)

pub returns : goal.returns
returns c =
    let a = c.args in
    let h = c.requires in
    let nn = c.times-nn.ensures in
    let loaded = words-loaded a.n _ a.bytes.now _ nn h.whole c.get_words.ensures in
    c.check_inverse.ensures ∙ ap (λ (l : List ℕ). judged (matrix_tests a.q a.n l)) loaded
