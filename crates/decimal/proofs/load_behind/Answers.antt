-- `decimal::load_behind` meets its contract: the line is as long as one may be, and byte 10 ends it. Assumes nothing.
use mathlib.Core.Path.{ap, ◌∙◌}
use mathlib.Core.List.{List}
use Prim.Native.Nat.{ℕ}
use native.Mathlib.Omega.{arith}
use lib.ListN.{drop}
use lib.Seq.{sets}
use mathlib.Core.Logic.{inl, inr}
use Rattle.decimal.proofs.Entry.{unread-length, unread-end, before-whole}
use Rattle.decimal.proofs.load_behind.Goals as goal

pub returns-then-n-eq0 : goal.returns-then-n-eq0
returns-then-n-eq0 c = let a = c.args in let all = unread-length a.skip a.s.now a.out.now (inl (omega arith)) in record { answered = all.0; contents = all.1 }

pub returns-then-n-gt65536 : goal.returns-then-n-gt65536
returns-then-n-gt65536 c = let a = c.args in let all = unread-length a.skip a.s.now a.out.now (inr c.if-n-gt65536.true) in record { answered = all.0; contents = all.1 }

pub returns-then-s-n-ne10 : goal.returns-then-s-n-ne10
returns-then-s-n-ne10 c =
    let a = c.args in let all = unread-end a.skip a.s.now a.out.now (omega arith) c.if-n-gt65536.false c.if-s-n-ne10.true in record { answered = all.0; contents = all.1 }

pub scan-requires : goal.scan-requires
scan-requires c = c.if-s-n-ne10.false

pub returns : goal.returns
returns c =
    let a = c.args in
    let s = a.s.now in
    let e = before-whole s (omega arith) c.if-n-gt65536.false c.if-s-n-ne10.false in
    let scan = c.scan in record {
      answered = scan.ensures.answered ∙ e.0;
      contents = scan.ensures.contents ∙ ap (λ (l : List ℕ). sets a.out.now 0 (drop a.skip l)) e.1;
    }
