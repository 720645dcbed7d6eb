-- `rehearse_lines::print::put_named` meets its contract. Assumes nothing.
use mathlib.Core.Path.{ap, ◌∙◌}
use mathlib.Core.List.{List}
use Prim.Native.Nat.{ℕ}
use native.Mathlib.Omega.{arith}
use Rattle.rehearse_lines.proofs.Stores.{named-bytes, named-stored}
use lib.Seq.{sets}
use Rattle.decimal.specs.Writing.{line_before}
use Rattle.rehearse_lines.proofs.print.put_named.Goals as goal

pub returns : goal.returns
returns c =
    let put-text = c.put_text-behind in
    let a = c.args in
    let xs = a.xs.now in record {
      place = omega (arith, named-bytes a.name.now xs, put-text.ensures.place, c.put_run.ensures.place);
      few = omega (arith, put-text.ensures.place, c.put_run.ensures.few);
      contents = c.put_run.ensures.contents ∙ ap (λ (l : List ℕ). sets l put-text.result (line_before 0 xs)) put-text.ensures.contents
          ∙ named-stored a.name.now xs a.out.now a.at put-text.result put-text.ensures.place;
    }
