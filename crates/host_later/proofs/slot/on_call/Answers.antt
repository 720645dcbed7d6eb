-- `host_later::slot::on_call` meets its contract. Assumes nothing.
use mathlib.Core.Path.{sym, ap₂, ◌∙◌}
use Prim.Native.Nat.{ℕ, ◌*◌, ◌/◌}
use native.Mathlib.Omega.{arith}
use lib.ListN.{length, take}
use lib.Seq.{length-take-le}
use Rattle.protocol.specs.Tape.{slot_at}
use Rattle.protocol.specs.Message.{message_in}
use Rattle.tape.specs.Ends.{role}
use Rattle.judging.specs.InOrder.{checked}
use Rattle.entry.specs.Bytes.{words_of}
use Rattle.entry.specs.Entry.{Lent, session_in}
use Rattle.local.specs.Seen.{least, seen, behind, session_role, session_terms, on_done, entering}
use Rattle.local.specs.Entered.{entered_by, later_step, seen_later}
use Rattle.local.proofs.Told.{later-behaves}
use Rattle.local.proofs.Within.{words-room, bytes-room, few_words, call-cut}
use Rattle.host_parts.proofs.Looked.{min-least}
use Rattle.host_later.proofs.slot.on_call.Goals as goal

pub slice_bounds-on_slot-end-4 : goal.slice_bounds-on_slot-end-4
slice_bounds-on_slot-end-4 c =
    few_words _ (length c.args.scratch.now) c.args.lent.now (c.min-k.ensures ∙ min-least _ _)

pub slice_bounds-on_slot-end-5 : goal.slice_bounds-on_slot-end-5
slice_bounds-on_slot-end-5 c =
    sym (length-take-le _ _ (few_words _ (length c.args.scratch.now) c.args.lent.now (c.min-k.ensures ∙ min-least _ _)))

pub slice_bounds-on_slot-end-6 : goal.slice_bounds-on_slot-end-6
slice_bounds-on_slot-end-6 c =
    few_words _ (length c.args.res.now) c.args.share.now (c.min-j.ensures ∙ min-least _ _)

pub slice_bounds-on_slot-end-7 : goal.slice_bounds-on_slot-end-7
slice_bounds-on_slot-end-7 c =
    sym (length-take-le _ _ (few_words _ (length c.args.res.now) c.args.share.now (c.min-j.ensures ∙ min-least _ _)))

pub on_slot-requires : goal.on_slot-requires
on_slot-requires c =
    let a = c.args in
    let h = c.requires in
    let place = c.seen_in-seen in (
      h.0,
      words-room place.result.words place.result.from a.words.now a.pool.now place.ensures.2,
      bytes-room _ (length a.lent.now) a.lent.now a.scratch.now (c.min-k.ensures ∙ min-least _ _),
      bytes-room _ (length a.share.now) a.share.now a.res.now (c.min-j.ensures ∙ min-least _ _),
      h.5,
      h.6,
    )

pub returns : goal.returns
unfolding seen_later
returns c =
    let lent = c.min-k.ensures ∙ min-least _ _ in
    let share = c.min-j.ensures ∙ min-least _ _ in
    let place = c.seen_in-seen in
    let half = c.half_in-half in
    let a = c.args in
    let h = c.requires in
    let l : Lent = record {
      host = a.session.now;
      pool = a.pool.now;
      scratch = a.scratch.now;
      line = a.line.now;
      result = a.res.now;
    } in
    let x = session_in a.session.now in
    let s = slot_at (words_of a.pool.now) a.at.size a.at.index in
    let m = message_in a.a in
    let room = length a.out.now in
    call-cut (session_role x) (session_terms x) (λ s ls j. later_step a.q.drops x s ls m room j)
    (λ s ls j. (later-behaves a.q.drops x s ls m room j).proper) 0 (checked a.q.own) l a.at.size a.at.index h.4
    (role half.result.end) half.result.terms place.result.words place.result.from c.min-k.result c.min-j.result
    a.words.now a.lent.now a.share.now half.ensures.0 half.ensures.1 place.ensures.0 place.ensures.1 place.ensures.2
    (omega (arith, place.ensures.3, h.1)) lent share c.on_slot.ensures
    ∙ ap₂ (λ (i j : ℕ). entered_by l (a.at.index * a.at.size) (checked a.q.own) (on_done (entering 0 (behind (session_role x) (session_terms x) s))
    (later_step a.q.drops x (seen (session_role x) (session_terms x) s) (take i (words_of a.scratch.now)) m room (least (length a.res.now / 4) j))))
    h.2 h.3
