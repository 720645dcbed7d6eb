-- `decimal::put_high` meets its contract: the loop stores the digits down to a power of ten, `upto`. Assumes nothing.
use mathlib.Core.Path.{◌≡◌, refl, ap, ◌∙◌}
use mathlib.Core.List.{List, [], ◌∷◌}
use Prim.Native.Nat.{ℕ, ◌+◌, ◌%◌}
use native.Mathlib.Omega.{arith}
use lib.ListN.{length, get_or, length-append}
use Rattle.decimal.proofs.Powers.{powers, above, upto, upto-none, upto-high, upto-length, table_step, power-length, power-stored, decimal-high}
use lib.Seq.{sets}
use Rattle.decimal.specs.Writing.{high, digit_at}
use Rattle.decimal.proofs.put_high.Goals as goal

pub loop-power-init : goal.loop-power-init
unfolding above
loop-power-init c =
    let e = upto-none c.args.n (above 0) (omega arith) in
    record { contents = rw e refl; place = rw e (omega arith) }

pub put_digit-p-requires : goal.put_digit-p-requires
put_digit-p-requires c =
    let n = c.args.n in
    let i = c.loop-power.power-index in
    let h = c.loop-power-test.true in
    ((table_step i h).1, omega (arith, power-length n i h, upto-length n (above (i + 1))))

pub loop-power-preserved : goal.loop-power-preserved
loop-power-preserved c =
    let a = c.args in
    let n = a.n in
    let l = c.loop-power in
    let i = l.power-index in
    let h = c.loop-power-test.true in
    record {
      contents = c.put_digit-p.ensures.contents ∙ ap (λ (o : List ℕ). sets o l.p (digit_at n (get_or powers i 0))) l.invariant.contents
          ∙ power-stored n i h a.out.now a.at l.p l.invariant.place;
      place = omega (arith, power-length n i h, c.put_digit-p.ensures.place);
    }

pub returns : goal.returns
unfolding above
returns c =
    let a = c.args in
    let l = c.loop-power in
    let n = a.n in
    let i9 : l.power-index ≡ 9 = omega arith in
    let e : upto n (above l.power-index) ≡ high n = ap (λ (i : ℕ). upto n (above i)) i9 ∙ upto-high n in record {
      place = omega (arith, l.invariant.place, ap length e, ap length (decimal-high n), length-append (high n) ((48 + n % 10) ∷ []));
      contents = l.invariant.contents ∙ ap (sets a.out.now a.at) e;
    }
