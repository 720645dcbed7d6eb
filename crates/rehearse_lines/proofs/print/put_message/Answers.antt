-- `rehearse_lines::print::put_message` meets its contract. Assumes nothing.
use mathlib.Core.Path.{ap, ◌∙◌}
use mathlib.Core.List.{List}
use Prim.Native.Nat.{ℕ}
use native.Mathlib.Omega.{arith}
use lib.ListN.{length}
use lib.Seq.{sets}
use Rattle.decimal.specs.Writing.{line_before}
use Rattle.decimal.proofs.Messages.{message-bytes, message-stored}
use Rattle.rehearse_lines.proofs.print.put_message.Goals as goal

pub returns : goal.returns
returns c =
    let a = c.args in
    let rs = a.residues.now in
    let head = rw c.head_words-words.ensures at c.put_run-behind.ensures in
    let rest = c.put_run.ensures in
    record {
      place = omega (arith, message-bytes a.h rs, head.place, rest.place);
      few = omega (arith, c.put_run-behind.ensures.few, rest.few, ap length c.head_words-words.ensures);
      contents = rest.contents ∙ ap (λ (l : List ℕ). sets l c.put_run-behind.result (line_before 0 rs)) head.contents
          ∙ message-stored a.h rs a.out.now a.at c.put_run-behind.result head.place;
    }
