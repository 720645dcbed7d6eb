-- `decimal::put_numbers` meets its contract: what is stored and what is left make the whole run. Assumes nothing.
use mathlib.Core.Path.{refl, ap, ◌∙◌, ap₂}
use mathlib.Core.List.{List}
use Prim.Native.Nat.{ℕ, ◌+◌}
use native.Mathlib.Omega.{arith}
use lib.ListN.{length, drop}
use Rattle.decimal.proofs.Stores.{before-length-step, before-none, part-turn}
use lib.Seq.{sets}
use Rattle.decimal.specs.Writing.{line_before}
use Rattle.decimal.proofs.put_numbers.Goals as goal

pub loop-j-init : goal.loop-j-init
loop-j-init c = record { contents = refl; place = refl }

pub put_number-p-requires : goal.put_number-p-requires
put_number-p-requires c =
    let a = c.args in
    omega (arith, before-length-step a.more a.xs.now c.loop-j.j c.loop-j-test.true)

pub loop-j-preserved : goal.loop-j-preserved
loop-j-preserved c =
    let a = c.args in
    let more = a.more in
    let xs = a.xs.now in
    let l = c.loop-j in
    let h = c.loop-j-test.true in
    record {
      contents = ap₂ (λ (d : List ℕ) (k : ℕ). sets d k (line_before more (drop (l.j + 1) xs))) c.put_number-p.ensures.contents
          c.put_number-p.ensures.place ∙ part-turn more l.out xs l.p l.j _ h c.end_byte.ensures
          ∙ l.invariant.contents;
      place = omega (arith, before-length-step more xs l.j h);
    }

pub returns : goal.returns
returns c =
    let a = c.args in
    let none = before-none a.more a.xs.now c.loop-j.j c.loop-j-test.false in record {
      place = omega (arith, ap length none);
      contents = rw none at c.loop-j.invariant.contents;
    }
