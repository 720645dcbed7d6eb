-- `tape::header::numbers_are` meets its contract. Assumes nothing.
use Rattle.std.proofs.Common.{arith}
use Rattle.std.proofs.lemmas.Bool.Decides.{nat_tests}
use Rattle.algebra.specs.Count.{both}
use Rattle.tape.specs.Bears.{numbers_are}
use Rattle.tape.proofs.header.numbers_are.Goals as goal

pub returns-then-slot-k : goal.returns-then-slot-k
unfolding numbers_are both
returns-then-slot-k c = grind (arith, nat_tests)

pub returns-else-slot-k : goal.returns-else-slot-k
unfolding numbers_are both
returns-else-slot-k c = grind (arith, nat_tests)
