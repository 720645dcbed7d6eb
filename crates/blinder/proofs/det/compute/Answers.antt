-- `blinder::det::compute` meets its contract. Assumes nothing.
use Rattle.vectors.proofs.Written.{first_word}
use Rattle.blinder.proofs.det.compute.Goals as goal

pub returns : goal.returns
returns c =
    let start = c in
    let forget = c.forget in
    rw (
      c.accepted.ensures,
      c.no_head.ensures,
      forget.ensures.value,
      forget.ensures.scratch_after,
      first_word c.mul_mod.result start.args.out.now start.requires.room,
      c.mul_mod.ensures,
      c.inverse_mod.ensures,
    )
