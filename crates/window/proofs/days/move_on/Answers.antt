-- `window::days::move_on` meets its contract: three residues, and then the move. Assumes nothing.
use mathlib.Core.Path.{sym, ap, ◌∙◌}
use Prim.Native.Nat.{ℕ, ◌+◌, ◌-◌, ◌%◌}
use native.Mathlib.Nat.{mod-eq_of_lt}
use native.Mathlib.Omega.{arith}
use Rattle.algebra.specs.Residue.{add_mod, sub_mod}
use Rattle.protocol.specs.Window.{moved}
use Rattle.window.proofs.Phases.{days-refused, days-taken, three-below}
use Rattle.window.proofs.days.move_on.Goals as goal

pub returns-then-not-three_below : goal.returns-then-not-three_below
returns-then-not-three_below c = sym (days-refused _ _ _ (sym c.if-not-three_below.ensures))

pub overflow_add-share : goal.overflow_add-share
overflow_add-share c = let low = three-below _ _ _ _ (sym c.if-not-three_below.ensures) in omega (arith, low)

pub reduce_once-sum-requires : goal.reduce_once-sum-requires
reduce_once-sum-requires c = let low = three-below _ _ _ _ (sym c.if-not-three_below.ensures) in (omega (arith, low), c.requires)

pub overflow_sub-q : goal.overflow_sub-q
overflow_sub-q c = let low = three-below _ _ _ _ (sym c.if-not-three_below.ensures) in omega (arith, low)

pub overflow_add-sum : goal.overflow_add-sum
overflow_add-sum c = let low = three-below _ _ _ _ (sym c.if-not-three_below.ensures) in omega (arith, low)

pub reduce_once-requires : goal.reduce_once-requires
reduce_once-requires c = let low = three-below _ _ _ _ (sym c.if-not-three_below.ensures) in (omega (arith, low), c.requires)

pub returns : goal.returns
unfolding moved add_mod sub_mod
returns c =
    let a = c.args in
    let low = three-below _ _ _ _ (sym c.if-not-three_below.ensures) in
    let is = c.reduce_once.ensures ∙ ap (λ (s : ℕ). (s + (a.q - a.oldest)) % a.q) c.reduce_once-sum.ensures
    ∙ ap (λ (o : ℕ). ((a.share + a.new) % a.q + (a.q - o)) % a.q) (sym (mod-eq_of_lt low.2))
    in
    ap (λ (v : ℕ). record { number = 0; values = v }) is ∙ sym (days-taken _ _ _ (sym c.if-not-three_below.ensures))
