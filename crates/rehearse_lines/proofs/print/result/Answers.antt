-- `rehearse_lines::print::result` meets its contract. Assumes nothing.
use Prim.Native.Nat.{◌≤◌}
use native.Mathlib.Omega.{arith}
use Rattle.rehearse_lines.specs.Prints.{MOST}
use Rattle.rehearse_lines.proofs.Stores.{result-stored}
use Rattle.rehearse_lines.proofs.print.result.Goals as goal

pub returns : goal.returns
returns c =
    let shares = c.put_shares in
    let messages = c.put_messages-behind in
    let a = c.args in
    let p = c.requires in
    let few : shares.result ≤ MOST = omega (arith, p.1, p.2, p.3, p.4, messages.ensures.few, shares.ensures.few) in
    let z = result-stored a.one a.y1.now a.two a.x1r1.now a.left.now a.right.now a.out.now messages.result shares.result _ _
    messages.ensures.place shares.ensures.place (omega (arith, p.0, few)) messages.ensures.contents shares.ensures.contents in record {
      place = z.0;
      few = few;
      contents = z.1;
    }
