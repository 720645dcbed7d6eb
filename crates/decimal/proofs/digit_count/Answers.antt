-- `decimal::digit_count` meets its contract: each arm is one number of digits. Assumes nothing.
use mathlib.Core.Path.{sym}
use native.Mathlib.Omega.{arith}
use Rattle.decimal.proofs.Powers.{digits_between}
use Rattle.protocol.proofs.DecimalLaws.{length-small}
use Rattle.decimal.proofs.digit_count.Goals as goal

pub returns-in_default : goal.returns-in_default
returns-in_default c = sym (length-small c.args.n (omega arith))

pub returns-in-10-to-4294967295 : goal.returns-in-10-to-4294967295
returns-in-10-to-4294967295 c = sym (digits_between 1 c.args.n (omega arith) (omega arith))

pub returns-in-100-to-4294967295 : goal.returns-in-100-to-4294967295
returns-in-100-to-4294967295 c = sym (digits_between 2 c.args.n (omega arith) (omega arith))

pub returns-in-1000-to-4294967295 : goal.returns-in-1000-to-4294967295
returns-in-1000-to-4294967295 c = sym (digits_between 3 c.args.n (omega arith) (omega arith))

pub returns-in-10000-to-4294967295 : goal.returns-in-10000-to-4294967295
returns-in-10000-to-4294967295 c = sym (digits_between 4 c.args.n (omega arith) (omega arith))

pub returns-in-100000-to-4294967295 : goal.returns-in-100000-to-4294967295
returns-in-100000-to-4294967295 c = sym (digits_between 5 c.args.n (omega arith) (omega arith))

pub returns-in-1000000-to-4294967295 : goal.returns-in-1000000-to-4294967295
returns-in-1000000-to-4294967295 c = sym (digits_between 6 c.args.n (omega arith) (omega arith))

pub returns-in-10000000-to-4294967295 : goal.returns-in-10000000-to-4294967295
returns-in-10000000-to-4294967295 c = sym (digits_between 7 c.args.n (omega arith) (omega arith))

pub returns-in-100000000-to-4294967295 : goal.returns-in-100000000-to-4294967295
returns-in-100000000-to-4294967295 c = sym (digits_between 8 c.args.n (omega arith) (omega arith))

pub returns-in-1000000000-to-4294967295 : goal.returns-in-1000000000-to-4294967295
returns-in-1000000000-to-4294967295 c = sym (digits_between 9 c.args.n (omega arith) (omega arith))
