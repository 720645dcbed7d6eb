-- `rehearse_lines::print::put_run` meets its contract. Assumes nothing.
use native.Mathlib.Omega.{arith}
use Rattle.rehearse_lines.proofs.Stores.{few_bytes}
use Rattle.rehearse_lines.proofs.print.put_run.Goals as goal

pub put_numbers-requires : goal.put_numbers-requires
put_numbers-requires c =
    let a = c.args in
    let h = c.requires in
    let f = few_bytes a.more a.xs.now (λ i. omega (arith, c.shared_slice_known-1.given i)) in
    (omega (arith, f, h.0), omega (arith, h.0, h.1))

pub returns : goal.returns
returns c =
    let a = c.args in
    let f = few_bytes a.more a.xs.now (λ i. omega (arith, c.shared_slice_known-1.given i)) in record {
      place = c.put_numbers.ensures.place;
      few = omega (arith, f, c.put_numbers.ensures.place);
      contents = c.put_numbers.ensures.contents;
    }
