-- `tape::half::matrix` meets its contract. Assumes nothing.
use mathlib.Core.Path.{ap}
use Prim.Native.Nat.{◌≤◌}
use lib.ListN.{length}
use Rattle.tape.specs.Ends.{role}
use Rattle.tape.specs.Placed.{slot_in}
use Rattle.tape.proofs.Matrices.{matrix-inside, matrix-is}
use borrow.Author.Rules.{rules}
use Rattle.tape.proofs.half.matrix.Goals as goal

inside : (c : goal.After-slot-half) → (c.matrix_at-from.result ≤ c.matrix_at-stop.result) × (c.matrix_at-stop.result ≤ length c.slot-half.result.now)
inside c =
    let start = c in
    let a = start.args in
    matrix-inside (role a.end) a.t a.j (slot_in a.pool.now a.at) start.requires.0 c.matrix_at-from.ensures c.matrix_at-stop.ensures
    (ap length c.slot-half.ensures)

pub offset_bounds-half-from : goal.offset_bounds-half-from
offset_bounds-half-from c =
    let l = inside c in
    search rules

pub slice_bounds-result-count : goal.slice_bounds-result-count
slice_bounds-result-count c =
    let l = inside c in
    search rules

pub slice_bounds-result-start : goal.slice_bounds-result-start
slice_bounds-result-start c =
    let l = inside c in
    search rules

pub slice_bounds-result-end : goal.slice_bounds-result-end
slice_bounds-result-end c =
    let l = inside c in
    search rules

pub returns : goal.returns
returns c =
    let at = c in
    let a = at.args in
    rw (at.matrix_at-stop.ensures, at.matrix_at-from.ensures, at.slot-half.ensures) (matrix-is (role a.end) a.t a.j (slot_in a.pool.now a.at))
