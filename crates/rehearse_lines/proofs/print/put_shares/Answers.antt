-- `rehearse_lines::print::put_shares` meets its contract. Assumes nothing.
use native.Mathlib.Omega.{arith}
use mathlib.Core.List.{◌++◌}
use Rattle.protocol.specs.Ascii.{ascii}
use Rattle.protocol.specs.Line.{line}
use Rattle.rehearse_lines.proofs.Stores.{two_bytes, two-stored}
use Rattle.rehearse_lines.proofs.print.put_shares.Goals as goal

pub returns : goal.returns
returns c =
    let last = c.put_named in
    let first = c.put_named-behind in
    let a = c.args in
    let one = ascii "left," ++ line a.left.now in
    let two = ascii "right," ++ line a.right.now in
    let stored = two-stored a.out.now one two a.at first.result last.result first.ensures.place last.ensures.place _ _ first.ensures.contents
    last.ensures.contents in record {
      place = two_bytes a.out.now one two a.at first.result last.result first.ensures.place last.ensures.place;
      few = omega (arith, first.ensures.few, last.ensures.few);
      contents = stored;
    }
