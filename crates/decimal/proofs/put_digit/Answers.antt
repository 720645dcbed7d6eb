-- `decimal::put_digit` meets its contract: the number reaches the power or not. Assumes nothing.
use mathlib.Core.Path.{refl}
use Prim.Native.Nat.{◌+◌, ◌≤◌}
use native.Mathlib.Omega.{arith}
use lib.ListN.{length}
use borrow.Author.Tests.{lt-ltb, le-ltb}
use Rattle.decimal.specs.Writing.{digit_at}
use Rattle.decimal.proofs.put_digit.Goals as goal

pub returns-then-n-power : goal.returns-then-n-power
unfolding digit_at
returns-then-n-power c = rw (lt-ltb _ _ c.if-n-power.true) (record { place = omega arith; contents = refl })

pub bounds-out-at : goal.bounds-out-at
unfolding digit_at
bounds-out-at c =
    let p : c.args.at + 1 ≤ length
    c.args.out.now = rw (le-ltb c.args.n c.args.power c.if-n-power.false) at c.requires.1 in
    omega arith

pub returns : goal.returns
unfolding digit_at
returns c = rw (le-ltb _ _ c.if-n-power.false) (record { place = omega arith; contents = refl })
