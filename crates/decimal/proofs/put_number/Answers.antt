-- `decimal::put_number` meets its contract: the digits above the last, the last, and the byte that ends it. Assumes nothing.
use mathlib.Core.Path.{ap, ◌∙◌}
use mathlib.Core.List.{List}
use Prim.Native.Nat.{ℕ, ◌+◌, ◌%◌}
use native.Mathlib.Omega.{arith}
use lib.ListN.{length, set, length-set}
use Rattle.decimal.proofs.Powers.{number-stored}
use Rattle.decimal.proofs.put_number.Goals as goal

pub bounds-out-p-2 : goal.bounds-out-p-2
bounds-out-p-2 c = simp length-set (omega (arith, ap length c.put_high-p.ensures.contents))

pub returns : goal.returns
returns c =
    let a = c.args in record {
      place = omega arith;
      contents = ap (λ (l : List ℕ). set (set l c.put_high-p.result (48 + a.n % 10)) (c.put_high-p.result + 1)
          a.last) c.put_high-p.ensures.contents
          ∙ number-stored a.out.now a.at a.n a.last c.put_high-p.result c.put_high-p.ensures.place;
    }
