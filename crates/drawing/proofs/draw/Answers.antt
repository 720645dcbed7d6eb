-- `drawing::draw` meets its contract: the words collected give the residues drawn. Assumes nothing.
use mathlib.Core.Path.{◌∙◌}
use Rattle.drawing.proofs.Turns.{drawn-filled}
use Rattle.drawing.proofs.draw.Goals as goal

pub returns : goal.returns
returns c =
    let start = c in
    let a = start.args in
    let g = c.collect-read.ensures in record {
      value = g.value;
      out_after = c.reduce_words.ensures ∙ drawn-filled a.q a.n a.words.now a.out.now _ _ g.collected.gives g.collected.past start.requires.1;
    }
