-- `dealer::check::mask_fits` meets its contract. Assumes nothing.
use mathlib.Core.Path.{sym, ap, ◌∙◌}
use native.Mathlib.Omega.{arith}
use Prim.Native.Nat.{◌*◌}
use Rattle.algebra.specs.Elimination.{regular}
use Rattle.protocol.specs.Bounds.{system}
use Rattle.drawing.proofs.Then.{enough-many, next-inside, next-left}
use Rattle.dealer.specs.Sorts.{masks_count}
use Rattle.dealer.proofs.Known.{masks-of, unknowns-of, prime-of, square, enough-masks, more-count, never-dry}
use Rattle.dealer.proofs.Whole.{mask-part}
use Rattle.dealer.proofs.check.mask_fits.Goals as goal

pub masks_count-requires : goal.masks_count-requires
masks_count-requires c = let b = masks-of c.requires.0 in (b.few-mk, b.few-kp, b.few-mp)

pub returns-in_default : goal.returns-in_default
returns-in_default c =
    let a = c.args in
    let h = c.requires in
    let t = a.t in
    let n = masks_count t.m t.k t.p in
    let told = rw c.masks_count.ensures at c.read.ensures in
    absurd (never-dry t.q n a.words.now (sym told ∙ c.in_default.is) (enough-masks system t.m t.k t.p h.1))

pub has_inverse_at-requires : goal.has_inverse_at-requires
has_inverse_at-requires c =
    let a = c.args in
    let h = c.requires in
    let t = a.t in
    let n = masks_count t.m t.k t.p in
    let told = rw c.masks_count.ensures at c.read.ensures in
    let here = (enough-many t.q n a.words.now (sym told ∙ c.in-Some.is)).1 in (
      prime-of h.0,
      unknowns-of h.0,
      next-inside t.q n a.words.now _ here,
      next-left t.q n a.words.now _ here (t.m * t.m) (omega (arith, h.1, more-count h.0)),
    )

pub returns : goal.returns
returns c =
    let a = c.args in
    let h = c.requires in
    let t = a.t in
    let n = masks_count t.m t.k t.p in
    let told = rw c.masks_count.ensures at c.read.ensures in
    let here = (enough-many t.q n a.words.now (sym told ∙ c.in-Some.is)).1 in
    let many = enough-masks system t.m t.k t.p h.1 in
    c.has_inverse_at.ensures ∙ ap (regular t.q t.m) (mask-part t a.words.now (square h.0) here many)
