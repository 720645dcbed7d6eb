-- `judging::step::check_room` meets its contract. Assumes nothing.
use mathlib.Core.Path.{refl}
use Rattle.protocol.specs.declared.Refusal.TheVariants.{Size}
use Rattle.protocol.specs.Judge.{given}
use Rattle.protocol.specs.Step.{is_open}
use Rattle.judging.proofs.Join.{judged-true}
use Rattle.judging.proofs.Phases.{is_open_lem}
use Rattle.judging.proofs.step.check_room.Goals as goal

pub returns-then-due-eq0 : goal.returns-then-due-eq0
unfolding given is_open
returns-then-due-eq0 c = rw c.if-due-eq0.true (judged-true Size refl)

pub returns : goal.returns
unfolding given
returns c = rw (is_open_lem c.args.due c.if-due-eq0.false) c.need.ensures
