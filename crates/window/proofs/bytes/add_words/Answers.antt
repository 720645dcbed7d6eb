-- `window::bytes::add_words` meets its contract: the words are copied, and added. Assumes nothing.
use mathlib.Core.Path.{sym, ap, ◌∙◌}
use mathlib.Core.List.{List}
use Prim.Native.Nat.{ℕ, ◌%◌}
use native.Mathlib.Omega.{arith}
use lib.ListN.{length}
use Rattle.protocol.specs.Judge.{judge, reply_of}
use Rattle.protocol.specs.Window.{sum, share_tests}
use Rattle.window.proofs.Sums.{words_long, words-loaded}
use Rattle.window.proofs.bytes.add_words.Goals as goal

pub slice_bounds-add_days-end : goal.slice_bounds-add_days-end
slice_bounds-add_days-end c =
    let a = c.args in
    let long = c.requires.2 in
    let loaded = words-loaded a.w a.bytes.now _ long c.get_words.ensures in
    sym (ap length loaded ∙ words_long a.w a.bytes.now long)

pub add_days-requires : goal.add_days-requires
add_days-requires c =
    let a = c.args in
    let long = c.requires.2 in
    let loaded = words-loaded a.w a.bytes.now _ long c.get_words.ensures in
    (c.requires.0, omega (arith, ap length loaded ∙ words_long a.w a.bytes.now long, c.requires.1))

pub returns : goal.returns
returns c =
    let a = c.args in
    let long = c.requires.2 in
    let loaded = words-loaded a.w a.bytes.now _ long c.get_words.ensures in
    c.add_days.ensures ∙ ap (λ (l : List ℕ). reply_of 0 (judge (share_tests a.q l) (sum l % a.q))) loaded
