-- `sizes::host_tape_words` meets its contract: an end's half by its number. Assumes nothing.
use mathlib.Core.Path.{◌≡◌, refl, sym}
use Prim.Native.Nat.{ℕ}
use borrow.Author.Tests.{ne_eqb}
use Rattle.std.specs.Prelude.{◌≢◌}
use Rattle.protocol.specs.Tape.{Role}
use Rattle.tape.specs.declared.End.{End}
use Rattle.tape.specs.declared.End.TheVariants.{Left, Right, Blinder, Solver}
use Rattle.tape.specs.Ends.{number}
use Rattle.sizes.specs.Sizes.{by_end, tape_words}
use Rattle.sizes.proofs.host_tape_words.Goals as goal

by_none : (n : ℕ) (f : Role → ℕ) → ((e : End) → number e ≢ n) → 0 ≡ by_end n f
unfolding by_end
by_none n f no_end =
    rw (
      ne_eqb n 1 (λ is. no_end Left (sym is)),
      ne_eqb n 2 (λ is. no_end Right (sym is)),
      ne_eqb n 3 (λ is. no_end Blinder (sym is)),
      ne_eqb n 4 (λ is. no_end Solver (sym is)),
    )
    refl

pub returns-in-Err : goal.returns-in-Err
unfolding tape_words
returns-in-Err c = by_none c.args.end _ c.in-Err.ensures.1
