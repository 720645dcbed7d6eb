-- `decimal::line_length` meets its contract: the numbers' bytes, summed. Assumes nothing.
use mathlib.Core.Path.{◌≡◌, ◌∙◌}
use Prim.Native.Nat.{◌<◌, ◌^◌}
use native.Mathlib.Omega.{arith}
use Rattle.std.proofs.Common.{rules}
use Rattle.std.specs.List.{sum_by}
use Rattle.decimal.proofs.Stores.{field-bytes, line-sum, line-few}
use Rattle.decimal.proofs.line_length.Goals as goal

pub sum-requires-clause-fits : goal.sum-requires-clause-fits
sum-requires-clause-fits c =
    let few = line-few c.args.xs.now (λ i. omega (arith, c.type_inv.xs i)) in
    let fits : sum_by field-bytes c.args.xs.now < 2 ^ 64 = omega (arith, few) in
    search rules

pub returns : goal.returns
returns c =
    let few = line-few c.args.xs.now (λ i. omega (arith, c.type_inv.xs i)) in
    let e : c.sum.result ≡ sum_by field-bytes c.args.xs.now = search rules in
    record { bytes = e ∙ line-sum c.args.xs.now; few = omega (arith, e, few) }
