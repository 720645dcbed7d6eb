-- `decimal::numbers` meets its contract: the line is read twice, the second time into the lent slice. Assumes nothing.
use mathlib.Core.Path.{refl, sym, ap, ◌∙◌}
use Prim.Native.Nat.{ℕ, ◌≤◌}
use native.Mathlib.Omega.{arith}
use lib.ListN.{length}
use lib.Seq.{sets}
use Rattle.std.specs.Prelude.{Ok}
use Rattle.decimal.proofs.Exits.{err-exit, none-err}
use Rattle.decimal.proofs.Entry.{into-none, into-short, into-done, told, told-wrong, before-all, sets_over}
use Rattle.protocol.specs.Line.{numbers_of}
use Rattle.decimal.specs.Reading.{count_reply}
use Rattle.decimal.proofs.numbers.Goals as goal

pub returns-in_err-n : goal.returns-in_err-n
returns-in_err-n c =
    let a = c.args in
    let s = a.s.now in
    let wrong = told-wrong (numbers_of s) (sym c.load.ensures.answered ∙ c.in_err-n.ensures.ok_part) in
    let e = none-err c.in_err-n.ensures.ok_part c.in_err-n.ensures.value in
    rw (err-exit c.from_residual.result c.from_residual.ensures.1, e, into-none (length a.out.now) s wrong) (record { answered = refl; contents = refl })

pub returns-then-out-n : goal.returns-then-out-n
returns-then-out-n c =
    let a = c.args in
    let s = a.s.now in
    let t = told (numbers_of s) c.in_ok-n.n (sym c.load.ensures.answered ∙ c.in_ok-n.ensures.ok_part) in
    rw (into-short (length a.out.now) s t.values t.reads (omega (arith, t.count, c.if-out-n.true))) (record { answered = refl; contents = refl })

pub returns : goal.returns
returns c =
    let a = c.args in
    let s = a.s.now in
    let out = a.out.now in
    let t = told (numbers_of s) c.in_ok-n.n (sym c.load.ensures.answered ∙ c.in_ok-n.ensures.ok_part) in
    let h : length t.values ≤ length out = omega (arith, t.count, c.if-out-n.false) in
    rw (into-done (length out) s t.values t.reads h) (record {
      answered = ap (λ (n : ℕ). count_reply (Ok n)) t.count;
      contents = c.load-2.ensures.contents ∙ ap (sets out 0) (before-all s t.values t.reads) ∙ sets_over t.values out h;
    })
