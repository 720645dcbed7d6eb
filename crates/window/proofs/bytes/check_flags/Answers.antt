-- `window::bytes::check_flags` meets its contract: the words are copied, and tested. Assumes nothing.
use mathlib.Core.Path.{sym, ap, ◌∙◌}
use mathlib.Core.List.{[], ◌∷◌}
use mathlib.Core.Bool.{Bool}
use lib.ListN.{length}
use Rattle.protocol.specs.declared.Refusal.TheVariants.{Residue}
use Rattle.protocol.specs.Judge.{needs as need-test}
use Rattle.protocol.specs.Bounds.{all_below}
use Rattle.judging.specs.InOrder.{judged}
use Rattle.window.proofs.Sums.{words_long, words-loaded}
use Rattle.window.proofs.bytes.check_flags.Goals as goal

pub slice_bounds-all_below-end : goal.slice_bounds-all_below-end
slice_bounds-all_below-end c =
    let a = c.args in
    let long = c.requires.1 in
    let loaded = words-loaded a.n a.bytes.now _ long c.get_words.ensures in
    sym (ap length loaded ∙ words_long a.n a.bytes.now long)

pub returns : goal.returns
returns c =
    let a = c.args in
    let long = c.requires.1 in
    let loaded = words-loaded a.n a.bytes.now _ long c.get_words.ensures in
    c.need.ensures ∙ ap (λ (b : Bool). judged (need-test Residue b ∷ [])) (c.all_below.ensures ∙ ap (all_below 2) loaded)
