-- `decimal::field_length` meets its contract: a number of 32 bits has ten digits at most. Assumes nothing.
use native.Mathlib.Omega.{arith}
use Rattle.protocol.proofs.MessageRoundTrip.{few-digits}
use Rattle.decimal.proofs.field_length.Goals as goal

pub returns-clause-few : goal.returns-clause-few
returns-clause-few c = omega (arith, few-digits c.args.n (omega arith))

pub overflow_add-result : goal.overflow_add-result
overflow_add-result c = omega (arith, few-digits c.args.n (omega arith))
