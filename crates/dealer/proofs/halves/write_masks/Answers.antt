-- `dealer::halves::write_masks` meets its contract. Assumes nothing.
use native.Mathlib.Omega.{arith}
use Rattle.dealer.specs.Sorts.{sort}
use Rattle.dealer.specs.Written.{first_masks, second_masks}
use Rattle.dealer.proofs.Known.{masks-of, enough-masks, first-start, second-start}
use Rattle.dealer.proofs.Whole.{masks-over}
use Rattle.dealer.proofs.halves.write_masks.Goals as goal

pub write_headers-requires : goal.write_headers-requires
write_headers-requires c =
    let a = c.args in
    let h = c.requires in
    let t = a.r.now.terms in (
      omega (arith, first-start (sort a.r.now.sort) t.m t.k t.p h.first-room),
      omega (arith, second-start (sort a.r.now.sort) t.m t.k t.p h.second-room),
    )

pub fill_masks-requires : goal.fill_masks-requires
fill_masks-requires c =
    let a = c.args in
    let h = c.requires in
    let t = a.r.now.terms in (
      masks-of h.fits,
      enough-masks (sort a.r.now.sort) t.m t.k t.p h.enough,
      omega (arith, first-start (sort a.r.now.sort) t.m t.k t.p h.first-room),
      omega (arith, second-start (sort a.r.now.sort) t.m t.k t.p h.second-room),
    )

pub returns : goal.returns
unfolding first_masks second_masks
returns c =
    let far = c in
    let write-headers = c.write_headers in
    let a = far.args in
    let e = c.fill_masks.ensures in
    let heads = write-headers.ensures in record {
      value = e.value;
      first_after = masks-over (sort a.r.now.sort) a.r.now.terms _ a.first.now _ heads.first_after e.first_after;
      second_after = masks-over (sort a.r.now.sort) a.r.now.terms _ a.second.now _ heads.second_after e.second_after;
    }
