-- `host_parts::store::put_line` meets its contract. Assumes nothing.
use mathlib.Core.Path.{ap, ◌∙◌}
use mathlib.Core.List.{List}
use Prim.Native.Nat.{ℕ}
use native.Mathlib.Omega.{arith}
use lib.ListN.{length}
use Rattle.algebra.specs.Words.{over}
use Rattle.host_parts.proofs.Looked.{min-least}
use Rattle.host_parts.proofs.PutBack.{few-sent-words, line_kept, line-some}
use Rattle.host_parts.proofs.store.put_line.Goals as goal

pub returns-then-h-eq0 : goal.returns-then-h-eq0
returns-then-h-eq0 c = let a = c.args in line_kept a.h a.sent.now a.line.now c.if-h-eq0.true

pub slice_bounds-put_message-end : goal.slice_bounds-put_message-end
slice_bounds-put_message-end c = (few-sent-words _ c.args.sent.now c.sent_count.ensures.1 (c.min-n.ensures ∙ min-least _ _)).0

pub put_message-requires : goal.put_message-requires
put_message-requires c =
    let a = c.args in
    let same = line-some a.h a.sent.now c.if-h-eq0.false c.sent_count.ensures.0 (c.min-n.ensures ∙ min-least _ _) in
    let few = few-sent-words _ a.sent.now c.sent_count.ensures.1 (c.min-n.ensures ∙ min-least _ _) in
    (few.1, omega (arith, ap length same, c.requires))

pub returns : goal.returns
returns c =
    let a = c.args in
    let same = line-some a.h a.sent.now c.if-h-eq0.false c.sent_count.ensures.0 (c.min-n.ensures ∙ min-least _ _) in
    c.put_message.ensures.contents ∙ ap (λ (l : List ℕ). over l a.line.now) same
