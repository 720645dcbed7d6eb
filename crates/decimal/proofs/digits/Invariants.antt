use Rattle.decimal.proofs.Runs.{Running}
use Rattle.decimal.specs.Reading.{Ended}
use Rattle.decimal.proofs.digits.Given as goal

abbrev pub invariant-loop : goal.invariant-loop
invariant-loop l = record { run : Running l.s l.initial.t l.t l.counter; ended : Ended l.s }
