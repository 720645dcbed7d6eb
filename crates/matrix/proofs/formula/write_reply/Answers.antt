-- The product added to a negative less a matrix. Assumes nothing.
use Rattle.std.proofs.Common.{ℕ, ◌*◌, List, ap, ◌∙◌}
use Rattle.algebra.specs.Matrix.{mat_add, mat_sub, mat_mul}
use Rattle.algebra.specs.Words.{over}
use Rattle.vectors.specs.Fill.{negated}
use Rattle.matrix.proofs.Sums.{onto, off, negated-count, sub-count, twice-negated-sum}
use Rattle.matrix.proofs.formula.write_reply.Goals as goal

pub returns : goal.returns
returns c =
    let a = c.args in
    let minus : List ℕ = negated a.s.q (a.s.m * a.s.p) a.u.now in
    let n : ℕ = a.s.m * a.s.p in
    let d : List ℕ = a.out.now in
    let t : List ℕ = mat_mul a.s.q a.s.m a.s.k a.s.p a.x.now a.y.now in
    c.add_product.ensures
    ∙ (ap (λ (o : List ℕ). over (mat_add a.s.q n t o) o)
    (c.subtract_from.ensures
    ∙ (ap (λ (o : List ℕ). over (mat_sub a.s.q n o a.a.now) o) c.write_negative.ensures
    ∙ off a.s.q n minus a.a.now d (negated-count a.s.q n a.u.now)))
    ∙ (onto a.s.q n t (mat_sub a.s.q n minus a.a.now) d (sub-count a.s.q n minus a.a.now)
    ∙ ap (λ (l : List ℕ). over l d) (twice-negated-sum a.s.q n c.requires.0.some-q t a.u.now a.a.now)))
