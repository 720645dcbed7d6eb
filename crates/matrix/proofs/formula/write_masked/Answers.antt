-- The product added to a copy. Assumes nothing.
use Rattle.std.proofs.Common.{ℕ, ◌*◌, List, ap, ◌∙◌}
use Rattle.algebra.specs.Matrix.{mat_add, mat_mul}
use Rattle.algebra.specs.Words.{over}
use Rattle.vectors.specs.Fill.{first_words}
use Rattle.matrix.proofs.Sums.{onto, copy-count, copy-sum}
use Rattle.matrix.proofs.formula.write_masked.Goals as goal

pub returns : goal.returns
returns c =
    let a = c.args in
    let n : ℕ = a.s.m * a.s.p in
    let d : List ℕ = a.out.now in
    let t : List ℕ = mat_mul a.s.q a.s.m a.s.k a.s.p a.x.now a.y.now in
    c.add_product.ensures
    ∙ (ap (λ (o : List ℕ). over (mat_add a.s.q n t o) o) c.write_copy.ensures
    ∙ (onto a.s.q n t (first_words n a.g.now) d (copy-count a.s.q n a.g.now) ∙ ap (λ (l : List ℕ). over l d) (copy-sum a.s.q n t a.g.now)))
