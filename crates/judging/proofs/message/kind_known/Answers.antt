-- `judging::message::kind_known` meets its contract. Assumes nothing.
use Rattle.std.proofs.Common.{arith}
use Rattle.std.proofs.lemmas.Bool.Decides.{nat_tests}
use Rattle.algebra.specs.Count.{both}
use Rattle.protocol.specs.Bounds.{within}
use Rattle.judging.proofs.message.kind_known.Goals as goal

pub returns : goal.returns
unfolding within both
returns c = grind (arith, nat_tests)
