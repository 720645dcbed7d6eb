-- `host_parts::seen::half_by` meets its contract. Assumes nothing.
use mathlib.Core.Path.{refl}
use native.Mathlib.Omega.{arith}
use borrow.Author.Tests.{ne_eqb}
use Rattle.host_parts.proofs.seen.half_by.Goals as goal

pub returns-in-4 : goal.returns-in-4
returns-in-4 c = (rw c.in-4.is refl, rw c.in-4.is refl)

pub returns-in-3 : goal.returns-in-3
returns-in-3 c = (rw c.in-3.is refl, rw c.in-3.is refl)

pub returns-in-2 : goal.returns-in-2
returns-in-2 c = (rw c.in-2.is refl, rw c.in-2.is refl)

pub returns-in_default : goal.returns-in_default
returns-in_default c =
    let end = c.args.end in
    let e = ne_eqb end 4 (omega arith) in
    let f = ne_eqb end 3 (omega arith) in
    let g = ne_eqb end 2 (omega arith) in
    (rw (e, f) c.no_half.ensures.0, rw (e, f, g) c.no_half.ensures.1)
