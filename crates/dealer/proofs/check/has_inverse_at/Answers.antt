-- `dealer::check::has_inverse_at` meets its contract. Assumes nothing.
use mathlib.Core.Path.{ap, ◌∙◌}
use Prim.Native.Nat.{◌*◌}
use lib.ListN.{drop}
use Rattle.algebra.specs.Elimination.{regular}
use Rattle.vectors.proofs.Written.{tail-part}
use Rattle.drawing.proofs.Then.{coins-part}
use Rattle.dealer.proofs.Known.{drawn-residues}
use Rattle.dealer.proofs.check.has_inverse_at.Goals as goal

pub has_inverse-requires : goal.has_inverse-requires
has_inverse-requires c =
    let a = c.args in
    let h = c.requires in
    let nn = c.times-nn.ensures in
    let drawn = rw (tail-part a.at a.words.now, nn) at c.draw.ensures.out_after in
    let mask = coins-part a.q (a.n * a.n) (drop a.at a.words.now) _ _ h.3 drawn in
    (h.0, h.1.small-q, h.1.few-n, rw (nn, mask) (drawn-residues a.q (a.n * a.n) (drop a.at a.words.now) h.1.some-q h.3))

pub returns : goal.returns
returns c =
    let a = c.args in
    let h = c.requires in
    let nn = c.times-nn.ensures in
    let drawn = rw (tail-part a.at a.words.now, nn) at c.draw.ensures.out_after in
    c.has_inverse.ensures
    ∙ ap (regular a.q a.n) (rw nn (coins-part a.q (a.n * a.n) (drop a.at a.words.now) _ _ h.3 drawn))
