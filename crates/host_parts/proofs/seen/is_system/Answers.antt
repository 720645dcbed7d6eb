-- `host_parts::seen::is_system` meets its contract. Assumes nothing.
use Rattle.std.proofs.Common.{arith}
use Rattle.std.proofs.lemmas.Bool.Decides.{nat_tests}
use Rattle.local.specs.Seen.{is_system}
use Rattle.host_parts.proofs.seen.is_system.Goals as goal

pub returns-then-end-eq-BLINDER : goal.returns-then-end-eq-BLINDER
unfolding is_system
returns-then-end-eq-BLINDER c = grind (arith, nat_tests)

pub returns-else-end-eq-BLINDER : goal.returns-else-end-eq-BLINDER
unfolding is_system
returns-else-end-eq-BLINDER c = grind (arith, nat_tests)
