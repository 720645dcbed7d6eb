-- `host_parts::seen::sift_coins` meets its contract. Assumes nothing.
use Rattle.host_parts.proofs.Looked.{sifted-none, sifted-some}
use Rattle.host_parts.proofs.seen.sift_coins.Goals as goal

pub returns-then-t-eq0 : goal.returns-then-t-eq0
returns-then-t-eq0 c =
    let a = c.args in
    let n = c.coin_count-n in
    sifted-none a.t.q n.result a.raw.now _ _ c.if-t-eq0.true n.ensures.0 c.sift_none.ensures.0 c.sift_none.ensures.1

pub returns : goal.returns
returns c =
    let a = c.args in
    let n = c.coin_count-n in
    sifted-some a.t.q n.result a.raw.now _ _ n.ensures.0 n.ensures.1 c.sift.ensures
