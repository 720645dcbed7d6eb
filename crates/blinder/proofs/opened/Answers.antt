-- `blinder::opened` meets its contract. Assumes nothing.
use Rattle.blinder.proofs.Kept.{kept-array}
use Rattle.blinder.proofs.opened.Goals as goal

pub returns : goal.returns
returns c =
    let at = c in
    let a = at.args in
    rw (kept-array 256 a.mm.now _ at.write_copy.ensures, kept-array 16 a.y.now _ c.write_copy-2.ensures)
