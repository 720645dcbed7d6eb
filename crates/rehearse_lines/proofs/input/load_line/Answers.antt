-- `rehearse_lines::input::load_line` meets its contract. Assumes nothing.
use mathlib.Core.Path.{sym, ap, ◌∙◌}
use mathlib.Core.List.{List}
use Prim.Native.Nat.{ℕ}
use native.Mathlib.Omega.{arith}
use lib.Seq.{sets}
use Rattle.rehearse_lines.proofs.Split.{first_fits, line-part}
use Rattle.protocol.specs.Line.{numbers_of}
use Rattle.decimal.specs.Reading.{numbers_before}
use Rattle.decimal.proofs.Entry.{tallied, tallied-as}
use Rattle.rehearse_lines.proofs.input.load_line.Goals as goal

pub slice_bounds-load-end : goal.slice_bounds-load-end
slice_bounds-load-end c =
    omega (arith, c.line_end-end.ensures, first_fits c.args.s.now c.line_start-at.result c.line_start-at.ensures.inside)

pub returns : goal.returns
returns c =
    let a = c.args in
    let line-end = c.line_end-end in
    let line-start = c.line_start-at in
    let load = c.load in
    let this = sym (line-part a.s.now a.n line-start.result line-end.result line-start.ensures.begins line-end.ensures) in record {
      answered = tallied-as 0 _ _ a.out.now load.new.out load.result (ap numbers_of this) (tallied 0 _ _ _ _ load.ensures.answered load.ensures.contents);
      contents = load.ensures.contents ∙ ap (λ (l : List ℕ). sets a.out.now 0 (numbers_before l)) (sym this);
    }
