-- `host_parts::seen::get_input` meets its contract. Assumes nothing.
use mathlib.Core.Path.{refl}
use Rattle.host_parts.proofs.Looked.{input-out, input-loaded}
use native.Mathlib.Omega.{arith}
use Rattle.host_parts.proofs.seen.get_input.Goals as goal

pub returns-then-n-gt2048 : goal.returns-then-n-gt2048
returns-then-n-gt2048 c = (omega arith, input-out c.args.input.now c.if-n-gt2048.true)

pub returns : goal.returns
returns c =
    let a = c.args in
    (omega arith, input-loaded _ a.input.now _ refl (omega arith) c.get_words.ensures)
