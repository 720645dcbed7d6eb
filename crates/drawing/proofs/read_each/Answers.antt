-- `drawing::read_each` meets its contract: each turn keeps or throws away one word. Assumes nothing.
use Prim.Native.Nat.{◌<◌}
use native.Mathlib.Omega.{arith}
use borrow.Author.Rules.{rules}
use Rattle.drawing.proofs.Turns.{kept_word, thrown-word, passed_start, passed-kept, passed-thrown, passed-all, passed-dry}
use Rattle.drawing.proofs.read_each.Goals as goal
use Rattle.drawing.proofs.read_each.Goals.{then-word-below, else-word-below}

pub returns-then-due-eq0 : goal.returns-then-due-eq0
returns-then-due-eq0 c = passed-all _ _ _ _ _ (passed_start _ _ _) (omega (arith, c.if-due-eq0.true))

pub returns-then-due-eq0-2 : goal.returns-then-due-eq0-2
returns-then-due-eq0-2 c =
    let a = c.args in
    let limit = c.limit-below in
    let s = c.loop-i.invariant in
    elim c.if-word-below.branch [
      | then-word-below w ↦
          passed-all _ _ _ _ _ (passed-kept _ _ _ _ _ s.0 (search rules) s.1 (kept_word a.q _ _ limit.ensures w.if-word-below.true))
          (omega (arith, w.due-is, c.if-due-eq0-2.true))
      | else-word-below w ↦ absurd (omega (arith, w.due-is, c.if-due-eq0-2.true, s.1))
    ]

pub loop-i-preserved : goal.loop-i-preserved
loop-i-preserved c =
    let a = c.args in
    let limit = c.limit-below in
    let s = c.loop-i.invariant in
    let more : 0 < c.if-word-below.due = omega (arith, c.if-due-eq0-2.false) in
    elim c.if-word-below.branch [
      | then-word-below w ↦
          (rw w.due-is (passed-kept _ _ _ _ _ s.0 (search rules) s.1 (kept_word a.q _ _ limit.ensures w.if-word-below.true)), more)
      | else-word-below w ↦
          (rw w.due-is (passed-thrown _ _ _ _ _ s.0 (search rules) s.1 (thrown-word a.q _ _ limit.ensures w.if-word-below.false)), more)
    ]

pub returns : goal.returns
returns c =
    let s = c.loop-i.invariant in
    passed-dry _ _ _ _ _ s.0 (search rules) s.1
