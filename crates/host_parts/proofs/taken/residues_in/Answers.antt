-- `host_parts::taken::residues_in` meets its contract. Assumes nothing.
use mathlib.Core.Path.{◌≡◌}
use Prim.Native.Nat.{◌+◌, ◌-◌}
use native.Mathlib.Omega.{arith}
use Rattle.host_parts.proofs.taken.residues_in.Goals as goal

pub returns : goal.returns
returns c =
    let n = c.args.count in
    let same : n + 7 - 7 ≡ n = omega arith in
    rw same
