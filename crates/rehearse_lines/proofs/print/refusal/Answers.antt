-- `rehearse_lines::print::refusal` meets its contract. Assumes nothing.
use native.Mathlib.Omega.{arith}
use Rattle.rehearse_lines.proofs.Stores.{refusal-stored}
use Rattle.rehearse_lines.proofs.print.refusal.Goals as goal

pub returns : goal.returns
returns c =
    let a = c.args in
    let number = c.from in
    let z = refusal-stored a.r a.out.now number.result c.put_named.result _ number.ensures
    c.put_named.ensures.place
    (omega (arith, c.put_named.ensures.few, c.requires))
    c.put_named.ensures.contents in record {
      place = z.0;
      few = omega (arith, c.put_named.ensures.few);
      contents = z.1;
    }
