-- `line::put_message` meets its contract: the head, then the residues. Assumes nothing.
use mathlib.Core.Path.{ap, ◌∙◌}
use native.Mathlib.Omega.{arith}
use lib.ListN.{length}
use lib.Seq.{length-sets}
use Rattle.decimal.specs.Writing.{line_before}
use Rattle.line.proofs.Bytes.{two_runs, line-stored}
use Rattle.line.proofs.put_message.Goals as goal

pub put_numbers-at-requires : goal.put_numbers-at-requires
put_numbers-at-requires c =
    let a = c.args in
    let h = c.requires in
    let w = c.head_words-words.ensures in
    (omega (arith, two_runs a.h a.residues.now w, h.1), omega (arith, ap length w, h.0))

pub put_numbers-requires : goal.put_numbers-requires
put_numbers-requires c =
    let a = c.args in
    let h = c.requires in
    let words = c.head_words-words in
    let put = c.put_numbers-at.ensures in
    let same = length-sets a.out.now 0 (line_before (length a.residues.now) words.result) in
    (omega (arith, two_runs a.h a.residues.now words.ensures, h.1, put.place, ap length put.contents, same), omega (arith, h.0))

pub returns : goal.returns
returns c =
    let a = c.args in
    let w = c.head_words-words.ensures in
    let put = c.put_numbers-at.ensures in
    let last = c.put_numbers.ensures in
    let room = c.requires.1 in record {
      place = omega (arith, two_runs a.h a.residues.now w, put.place, last.place);
      contents = last.contents ∙ line-stored a.h a.residues.now w a.out.now put.place put.contents room;
    }
