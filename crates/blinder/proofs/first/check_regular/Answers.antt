-- `blinder::first::check_regular` meets its contract. Assumes nothing.
use mathlib.Core.Path.{◌≡◌, sym, ap, ◌∙◌}
use Prim.Native.Nat.{ℕ, ◌*◌, ◌≤◌}
use native.Mathlib.Omega.{arith}
use lib.ListN.{length, length-replicate}
use Rattle.judging.proofs.Join.{also}
use mathlib.Core.List.{List, [], ◌∷◌}
use Rattle.blinder.specs.First.{first_regular}
use Rattle.protocol.specs.declared.Terms.{Terms}
use Rattle.protocol.specs.System.{scratch_size, regular_tests}
use Rattle.tape.proofs.Sides.{unknowns}
use Rattle.blinder.proofs.Known.{p-drawn, p-residues}
use Rattle.protocol.specs.Drawing.{residues_of}
use Rattle.drawing.proofs.Then.{drawn-count, coins-part}
use Rattle.blinder.proofs.Kept.{square-bound, scratch-sum}
use Rattle.blinder.proofs.first.check_regular.Goals as goal

-- the words suffice for P
enough : (t : Terms) (words : List ℕ) (size : ℕ) → size ≡ t.m * t.m → scratch_size t ≤ length (residues_of t.q words)
    → size ≤ length (residues_of t.q words)
enough t words size e h = omega (arith, e, scratch-sum t, h)

pub draw-requires : goal.draw-requires
draw-requires c =
    let told = c in (
      (told.requires.0.some-q, told.requires.0.small-q),
      enough c.args.t c.args.words.now c.times-size.result c.times-size.ensures c.requires.1,
      omega (arith, c.times-size.ensures, square-bound told.args.t told.requires.0.sides, length-replicate {A = ℕ} 256 0),
    )

pub has_inverse-requires : goal.has_inverse-requires
has_inverse-requires c =
    let a = c.args in
    let h = c.requires.0 in
    (h.prime, h.small-q, (unknowns a.t.m a.t.k a.t.p h.sides).few, h.residues)

pub slice_bounds-pm-end : goal.slice_bounds-pm-end
slice_bounds-pm-end c =
    let told = c in
    omega (arith, c.times-size.ensures, square-bound told.args.t told.requires.0.sides)

pub slice_bounds-has_inverse-end : goal.slice_bounds-has_inverse-end
slice_bounds-has_inverse-end c =
    let few = enough c.args.t c.args.words.now c.times-size.result c.times-size.ensures c.requires.1 in
    sym (ap length (coins-part _ _ c.args.words.now _ _ few
    c.draw.ensures.out_after) ∙ drawn-count _ _ _ few)

pub has_inverse-requires-2 : goal.has_inverse-requires-2
has_inverse-requires-2 c =
    let told = c in
    let a = told.args in
    let h = told.requires.0 in
    let u = coins-part _ _ a.words.now _ _ (enough c.args.t c.args.words.now c.times-size.result c.times-size.ensures c.requires.1) c.draw.ensures.out_after in (
      h.prime,
      h.small-q,
      (unknowns a.t.m a.t.k a.t.p h.sides).few,
      rw (u, told.times-size.ensures)
          (p-residues a.t.q (a.t.m * a.t.m) a.words.now h.some-q (omega (arith, scratch-sum a.t, told.requires.1))),
    )

pub returns : goal.returns
unfolding first_regular regular_tests
returns c =
    let told = c in
    let a = told.args in
    let u = coins-part _ _ a.words.now _ _ (enough c.args.t c.args.words.now c.times-size.result c.times-size.ensures c.requires.1) c.draw.ensures.out_after in
    also (_ ∷ []) _ c.worst.ensures
    (rw c.has_inverse.ensures at c.need-own.ensures)
    (rw (c.has_inverse-2.ensures, u, told.times-size.ensures, p-drawn a.t a.words.now) at c.need-drawn.ensures)
