-- `rehearse::rehearse` meets its contract. Assumes nothing.
use mathlib.Core.Path.{sym, ap, ◌∙◌}
use borrow.Author.Rules.{rules}
use lib.Seq.{length-take-le}
use Rattle.protocol.specs.declared.Refusal.TheVariants.{Form}
use Rattle.protocol.specs.Judge.{refused}
use Rattle.protocol.specs.Rehearsal.{printed}
use Rattle.rehearse.proofs.Judged.{numbers-refused, room-x, room-y, taken-fit, printed-by, said-printed}
use Rattle.rehearse.proofs.rehearse.Goals as goal

pub returns-in_default : goal.returns-in_default
returns-in_default c =
    let told = c.refusal.ensures in
    let z = printed-by c.args.bytes.now (refused Form) _ _ _ c.in_default.ensures.answered told.place told.few told.contents in record {
      place = z.place;
      few = z.few;
      contents = z.contents;
    }

pub returns-in-Err : goal.returns-in-Err
returns-in-Err c =
    let told = c.refusal-in-Err.ensures in
    let s = c.in-Some.ensures.answered in
    let wrong = numbers-refused s.input _ _ _ (c.terms_of-terms.ensures ∙ sym s.terms) s.in-x.count s.in-y.count c.in-Err.ensures in
    let z = printed-by c.args.bytes.now (refused c.in-Err.r) _ _ _ (s.prints ∙ ap printed wrong) told.place told.few told.contents in record {
      place = z.place;
      few = z.few;
      contents = z.contents;
    }

pub slice_bounds-x-end : goal.slice_bounds-x-end
slice_bounds-x-end c = room-x _ _ _ c.in_default-numbers.ensures c.read-lines.new.x (search rules)

pub slice_bounds-i-end : goal.slice_bounds-i-end
slice_bounds-i-end c = sym (length-take-le _ _ (room-x _ _ _ c.in_default-numbers.ensures c.read-lines.new.x (search rules)))

pub slice_bounds-y-end : goal.slice_bounds-y-end
slice_bounds-y-end c = room-y _ _ _ c.in_default-numbers.ensures c.read-lines.new.y (search rules)

pub slice_bounds-i-end-2 : goal.slice_bounds-i-end-2
slice_bounds-i-end-2 c = sym (length-take-le _ _ (room-y _ _ _ c.in_default-numbers.ensures c.read-lines.new.y (search rules)))

pub judge_words-requires : goal.judge_words-requires
judge_words-requires c =
    (taken-fit _ _ _ c.in_default-numbers.ensures c.read-lines.new.x c.read-lines.new.y (search rules) (search rules), search rules)

pub returns : goal.returns
returns c =
    let s = c.in-Some.ensures.answered in
    let told = c.in_default-numbers.ensures in
    let z = said-printed c.args.bytes.now s.input _ _ _ _ _ _ _ _ s.prints (c.terms_of-terms.ensures ∙ sym s.terms)
    (s.in-x.held (room-x _ _ _ told c.read-lines.new.x (search rules)))
    (s.in-y.held (room-y _ _ _ told c.read-lines.new.y (search rules)))
    (s.in-dealer.held (search rules)) (s.in_left.held (search rules)) c.judge_words.ensures in record {
      place = z.place;
      few = z.few;
      contents = z.contents;
    }
