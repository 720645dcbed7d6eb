-- `host_parts::seen::sift_none` meets its contract. Assumes nothing.
use native.Mathlib.Omega.{arith}
use mathlib.Core.Path.{refl}
use borrow.Author.Tests.{lt-ltb}
use Rattle.host_parts.proofs.seen.sift_none.Goals as goal

pub returns-then-n-eq0 : goal.returns-then-n-eq0
returns-then-n-eq0 c = (refl, rw c.if-n-eq0.true refl)

pub returns : goal.returns
returns c = (refl, rw (lt-ltb 0 c.args.n (omega arith)) refl)
