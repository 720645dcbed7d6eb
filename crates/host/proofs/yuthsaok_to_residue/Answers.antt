-- `host::yuthsaok_to_residue` meets its contract: the signed score is handed on as it is. Assumes nothing.
use mathlib.Core.Path.{ap, ◌∙◌}
use lib.IntN.{ℤ}
use mir.Syntax.{w32}
use mir.ValLaws.{to_z-of_z}
use Rattle.protocol.specs.Judge.{reply_of}
use Rattle.protocol.specs.Score.{to_residue}
use Rattle.host.proofs.yuthsaok_to_residue.Goals as goal

pub returns : goal.returns
returns c =
    c.host_to_residue.ensures ∙ ap (λ (z : ℤ). reply_of 0 (to_residue c.args.q z)) (to_z-of_z w32 _ c.ranges.score)
