-- `rehearse::perform::steps` meets its contract. Assumes nothing.
use native.Mathlib.Omega.{arith}
use Rattle.rehearse.specs.Order.{input_of}
use Rattle.rehearse.proofs.Runs.{run-made}
use Rattle.rehearse.proofs.perform.steps.Goals as goal

pub shape_of-second : goal.shape_of-second
shape_of-second c =
    omega (arith, c.second-2-1.given, c.second-1.given)

pub shape_of-y1 : goal.shape_of-y1
shape_of-y1 c =
    omega (arith, c.y1-1.given)

pub returns : goal.returns
returns c =
    let a = c.args in
    λ p r. run-made (input_of a.i) p.fits a.first.now a.second.now p a.y1.now _ _ _ _ _ r.one
    c.right_first-sent.ensures a.x1r1.now _ a.u.now _ _ _ _ r.two r.left-share c.left_step-replied.ensures a.v.now _ _ _ _ _
    r.right-share c.right_last.ensures
