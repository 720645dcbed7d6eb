-- `rehearse_lines::input::line_start` meets its contract. Assumes nothing.
use mathlib.Core.Path.{◌≡◌, sym, ap, ◌∙◌}
use Prim.Native.Nat.{ℕ, suc, ◌+◌, ◌-◌}
use native.Mathlib.Omega.{arith}
use lib.ListN.{drop}
use Rattle.rehearse_lines.proofs.Split.{first_fits, line-next, line-zero}
use Rattle.protocol.specs.Rehearsal.{line_at}
use Rattle.rehearse_lines.proofs.input.line_start.Goals as goal

pub loop-init : goal.loop-init
loop-init c =
    let z : c.args.n - 0 ≡ c.args.n = omega arith in
    record { inside = omega arith; begins = ap (λ (k : ℕ). line_at k c.args.s.now) z }

pub line_end-at-requires : goal.line_end-at-requires
line_end-at-requires c = c.loop.invariant.inside

pub loop-preserved : goal.loop-preserved
loop-preserved c =
    let arg = c.args in
    let s = arg.s.now in
    let n = arg.n in
    let l = c.loop in
    let z : suc (n - (l.counter + 1)) ≡ n - l.counter = omega arith in
    record {
      inside = omega (arith, c.line_end-at.ensures, first_fits s l.at l.invariant.inside);
      begins = ap (λ (a : ℕ). line_at (n - (l.counter + 1)) (drop a s)) c.line_end-at.ensures ∙ sym (line-next s (n - (l.counter + 1)) l.at)
          ∙ ap (λ (k : ℕ). line_at k (drop l.at s)) z ∙ l.invariant.begins;
    }

pub returns : goal.returns
returns c =
    let a = c.args in
    let s = a.s.now in
    let n = a.n in
    let l = c.loop in
    let z : n - l.counter ≡ 0 = omega arith in record {
      inside = l.invariant.inside;
      begins = sym l.invariant.begins ∙ ap (λ (k : ℕ). line_at k (drop l.at s)) z ∙ line-zero (drop l.at s);
    }
