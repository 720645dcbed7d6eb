-- The product added to a negative. Assumes nothing.
use Rattle.std.proofs.Common.{ℕ, ◌*◌, List, ap, ◌∙◌}
use Rattle.algebra.specs.Matrix.{mat_add, mat_mul}
use Rattle.algebra.specs.Words.{over}
use Rattle.vectors.specs.Fill.{negated}
use Rattle.matrix.proofs.Sums.{onto, negated-count, negated-sum}
use Rattle.matrix.proofs.formula.write_deal.Goals as goal

pub returns : goal.returns
returns c =
    let start = c in
    let a = start.args in
    let n : ℕ = a.s.m * a.s.p in
    let d : List ℕ = a.out.now in
    let t : List ℕ = mat_mul a.s.q a.s.m a.s.k a.s.p a.x.now a.y.now in
    c.add_product.ensures
    ∙ (ap (λ (o : List ℕ). over (mat_add a.s.q n t o) o) c.write_negative.ensures
    ∙ (onto a.s.q n t (negated a.s.q n a.a.now) d (negated-count a.s.q n a.a.now)
    ∙ ap (λ (l : List ℕ). over l d) (negated-sum a.s.q n start.requires.0.some-q t a.a.now)))
