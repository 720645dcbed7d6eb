-- The product added to a difference. Assumes nothing.
use Rattle.std.proofs.Common.{ℕ, ◌*◌, List, ap, ◌∙◌}
use Rattle.algebra.specs.Matrix.{mat_add, mat_sub, mat_mul}
use Rattle.algebra.specs.Words.{over}
use Rattle.matrix.proofs.Sums.{onto, sub-count, difference-sum}
use Rattle.matrix.proofs.formula.write_share.Goals as goal

pub returns : goal.returns
returns c =
    let start = c in
    let a = start.args in
    let n : ℕ = a.s.m * a.s.p in
    let d : List ℕ = a.out.now in
    let t : List ℕ = mat_mul a.s.q a.s.m a.s.k a.s.p a.x.now a.y.now in
    c.add_product.ensures
    ∙ (ap (λ (o : List ℕ). over (mat_add a.s.q n t o) o) c.write_difference.ensures
    ∙ (onto a.s.q n t (mat_sub a.s.q n a.r.now a.b.now) d (sub-count a.s.q n a.r.now a.b.now)
    ∙ ap (λ (l : List ℕ). over l d) (difference-sum a.s.q n start.requires.0.some-q t a.r.now a.b.now)))
