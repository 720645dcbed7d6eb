-- `host_deal::copies::put_back` meets its contract. Assumes nothing.
use native.Mathlib.Omega.{arith}
use Prim.Native.Nat.{◌*◌}
use Rattle.vectors.proofs.Written.{part-written}
use Rattle.host_deal.proofs.copies.put_back.Goals as goal

pub returns : goal.returns
returns c =
    let start = c in
    let a = start.args in
    part-written (a.at.from * 4) _ a.bytes.now _ (omega (arith, start.requires.0)) c.put_words.ensures
