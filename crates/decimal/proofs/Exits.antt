-- What a `?` hands on: `err-exit`, and of an `ok_or` `none-err`. Assumes nothing.
use mathlib.Core.Path.{◌≡◌, ap, ◌∙◌}
use Rattle.std.specs.Prelude.{Option, None, Result, Err, IsErrAnd, ok_or}
use Rattle.std.proofs.lemmas.Result.{err_from_is_err_and}

pub err-exit : {T E : Type 0} (r : Result T E) {d : E} → IsErrAnd r (λ y. y ≡ d) → r ≡ Err d
err-exit r h = let p = err_from_is_err_and r h in p.1 ∙ ap Err p.2

pub none-err : {T E : Type 0} {o : Option T} {e d : E} → o ≡ None → Err d ≡ ok_or o e → d ≡ e
none-err n v = let w = rw n at v in cc w
