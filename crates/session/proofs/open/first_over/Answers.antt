-- `session::open::first_over` meets its contract. Assumes nothing.
use mathlib.Core.Path.{refl, sym, ap₂, ◌∙◌}
use lib.ListN.{length}
use Rattle.protocol.specs.declared.Refusal.TheVariants.{Turn}
use Rattle.protocol.specs.Tape.{slot_at}
use Rattle.protocol.specs.Message.{message_in}
use Rattle.judging.specs.Lowest.{lower}
use Rattle.judging.proofs.Join.{judged-false}
use Rattle.entry.specs.Steps.{first_step}
use Rattle.local.specs.Settled.{unopened}
use Rattle.local.proofs.Recorded.{over-record}
use Rattle.local.proofs.Told.{first-told}
use Rattle.session.proofs.Opened.{over-free, over-open, open-leaves}
use Rattle.session.proofs.open.first_over.Goals as goal

pub returns-then-x-eq0 : goal.returns-then-x-eq0
returns-then-x-eq0 c =
    let at12 = c in
    let at17 = c in
    let at26 = c in
    let a = at26.args in
    let s = slot_at a.pool.now a.at.size a.at.index in
    let m = message_in a.a in
    let l = a.input.now in
    let room = length a.out.now in
    let share = length a.res.now in
    let told = first-told a.end a.t s a.scratch.now l a.words.now m room share in
    rw (
      over-free a.x a.end a.t s a.scratch.now l a.words.now m room share at17.if-x-eq0.true,
      c.over.ensures,
      c.is_ok.ensures.value,
    )
    (over-record a.x (unopened a.end a.t) s a.scratch.now a.out.now a.res.now told at12.first_step-d.result.answer
    at12.first_step-d.ensures)

pub returns : goal.returns
returns c =
    let at4 = c in
    let at7 = c in
    let at16 = c in
    let a = at16.args in
    let s = slot_at a.pool.now a.at.size a.at.index in
    let m = message_in a.a in
    let l = a.input.now in
    let room = length a.out.now in
    let share = length a.res.now in
    let step = first_step a.end a.t s a.scratch.now l a.words.now m room share in
    let turn = c.need-open.ensures ∙ sym (judged-false Turn refl) in
    let told = c.worst.ensures ∙ ap₂ lower turn at4.check_first-checked.ensures in
    let which = over-open a.x a.end a.t s a.scratch.now l a.words.now m room share at7.if-x-eq0.false in
    rw (c.answer_of.ensures, c.no_head.ensures, which)
    (open-leaves a.x s a.scratch.now a.out.now a.res.now Turn step c.worst.result told)
