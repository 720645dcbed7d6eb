-- `host_first::slot::on_call` meets its contract. Assumes nothing.
use mathlib.Core.Path.{refl, sym, ◌∙◌}
use native.Mathlib.Omega.{arith}
use lib.ListN.{length}
use lib.Seq.{length-take-le}
use Rattle.protocol.specs.Message.{message_in}
use Rattle.tape.specs.Ends.{role}
use Rattle.judging.specs.InOrder.{checked}
use Rattle.entry.specs.Steps.{first_step}
use Rattle.entry.specs.Entry.{Lent}
use Rattle.local.specs.Seen.{end_role}
use Rattle.local.specs.Entered.{seen_first}
use Rattle.local.proofs.Proper.{first-proper}
use Rattle.local.proofs.Within.{words-room, bytes-room, few_words, call-cut}
use Rattle.host_parts.proofs.Looked.{min-least}
use Rattle.host_first.proofs.slot.on_call.Goals as goal

pub slice_bounds-on_slot-end-4 : goal.slice_bounds-on_slot-end-4
slice_bounds-on_slot-end-4 c =
    let a = c.args in
    few_words _ (length a.scratch.now) a.lent.now (c.min-k.ensures ∙ min-least _ _)

pub slice_bounds-on_slot-end-5 : goal.slice_bounds-on_slot-end-5
slice_bounds-on_slot-end-5 c =
    sym (length-take-le _ _ (few_words _ (length c.args.scratch.now) c.args.lent.now (c.min-k.ensures ∙ min-least _ _)))

pub slice_bounds-on_slot-end-6 : goal.slice_bounds-on_slot-end-6
slice_bounds-on_slot-end-6 c =
    let a = c.args in
    few_words _ (length a.res.now) a.share.now (c.min-j.ensures ∙ min-least _ _)

pub slice_bounds-on_slot-end-7 : goal.slice_bounds-on_slot-end-7
slice_bounds-on_slot-end-7 c =
    sym (length-take-le _ _ (few_words _ (length c.args.res.now) c.args.share.now (c.min-j.ensures ∙ min-least _ _)))

pub on_slot-requires : goal.on_slot-requires
on_slot-requires c =
    let a = c.args in
    let h = c.requires in
    let seen = c.seen_in-seen in (
      h.0,
      words-room seen.result.words seen.result.from a.words.now a.pool.now seen.ensures.2,
      bytes-room _ (length a.lent.now) a.lent.now a.scratch.now (c.min-k.ensures ∙ min-least _ _),
      bytes-room _ (length a.share.now) a.share.now a.res.now (c.min-j.ensures ∙ min-least _ _),
      h.3,
      h.4,
    )

pub returns : goal.returns
unfolding seen_first
returns c =
    let a = c.args in
    let h = c.requires in
    let end = c.end_of in
    let seen = c.seen_in-seen in
    let k = c.min-k.ensures ∙ min-least _ _ in
    let j = c.min-j.ensures ∙ min-least _ _ in
    let l : Lent = record {
      host = a.session.now;
      pool = a.pool.now;
      scratch = a.scratch.now;
      line = a.line.now;
      result = a.res.now;
    } in
    let message = message_in a.a in
    call-cut (end_role a.q.end) a.q.terms
    (λ s ls i. first_step a.q.end a.q.terms s ls a.input.now a.raw.now message (length a.out.now) i)
    (λ s ls i. first-proper a.q.end a.q.terms s ls a.input.now a.raw.now message (length a.out.now) i)
    a.q.read (checked a.q.own) l a.at.size a.at.index h.2 (role end.result) a.q.terms
    seen.result.words seen.result.from c.min-k.result c.min-j.result a.words.now a.lent.now a.share.now
    end.ensures refl seen.ensures.0 seen.ensures.1 seen.ensures.2 (omega (arith, seen.ensures.3, h.1))
    k j c.on_slot.ensures
