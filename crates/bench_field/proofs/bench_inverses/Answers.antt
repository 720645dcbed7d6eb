-- `bench_field::bench_inverses` is safe: the modulus is prime, and each a is below it. Assumes nothing.
use Rattle.std.proofs.Common.{arith}
use Rattle.algebra.proofs.Prime.{prime-test}
use Rattle.field.proofs.FieldLaws.{field_told, prime-modulus}
use Rattle.bench_field.proofs.bench_inverses.Goals as goal

pub overflow_sub-field : goal.overflow_sub-field
overflow_sub-field c =
    let p = prime-test _ (prime-modulus _ _ (field_told c.in-Ok.is c.of_system.ensures)) in omega (arith, p.two)

pub inverse_mod-sum-requires : goal.inverse_mod-sum-requires
inverse_mod-sum-requires c = (prime-modulus _ _ (field_told c.in-Ok.is c.of_system.ensures), omega arith, omega arith)
