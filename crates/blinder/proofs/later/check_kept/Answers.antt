-- `blinder::later::check_kept` meets its contract. Assumes nothing.
use mathlib.Core.Path.{◌≡◌}
use native.Mathlib.Omega.{arith}
use lib.ListN.{length}
use Rattle.protocol.specs.System.{kept_m, kept_y}
use Rattle.judging.proofs.Join.{also}
use Rattle.blinder.specs.Later.{kept_words}
use Rattle.blinder.proofs.Kept.{side-bound, square-bound}
use Rattle.blinder.proofs.later.check_kept.Goals as goal

pub check_start-matrix-requires : goal.check_start-matrix-requires
check_start-matrix-requires c =
    let x = c.args.s in
    let l : length x.mm ≡ 256 = c.well_formed.0.1.1.1.1.0.1.0.1 in
    omega (arith, l, c.times.ensures, square-bound x.terms c.requires.0)

pub check_start-vector-requires : goal.check_start-vector-requires
check_start-vector-requires c =
    let told = c in
    let x = told.args.s in
    let l : length x.y ≡ 16 = c.well_formed.0.1.1.1.1.1.0.1.0.1 in
    omega (arith, l, c.side_size.ensures, side-bound x.terms told.requires.0)

pub returns : goal.returns
unfolding kept_words kept_m kept_y
returns c =
    let told = c in
    also _ _ c.worst-2.ensures (rw told.times.ensures at told.check_start-matrix.ensures)
    (also _ _ c.worst.ensures (rw told.side_size.ensures at told.check_start-vector.ensures)
    (rw c.scratch_size.ensures at c.check_start-coins.ensures))
