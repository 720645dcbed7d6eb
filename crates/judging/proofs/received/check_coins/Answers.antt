-- `steps::check_coins` meets its contract. Assumes nothing.
use mathlib.Core.Path.{sym, ◌∙◌}
use Rattle.protocol.specs.Drawing.{draw_tests}
use Rattle.protocol.specs.declared.Refusal.TheVariants.{Dry}
use Rattle.judging.proofs.Join.{judged-true, judged-false}
use Rattle.drawing.proofs.Then.{dry-few, enough-many}
use Rattle.judging.proofs.received.check_coins.Goals as goal

pub returns-in-Some : goal.returns-in-Some
unfolding draw_tests
returns-in-Some c =
    let a = c.args in
    judged-true Dry (enough-many a.q a.n a.words.now (sym c.read.ensures ∙ c.in-Some.is)).0

pub returns-in-None : goal.returns-in-None
unfolding draw_tests
returns-in-None c =
    let a = c.args in
    judged-false Dry (dry-few a.q a.n a.words.now (sym c.read.ensures ∙ c.in-None.is))
