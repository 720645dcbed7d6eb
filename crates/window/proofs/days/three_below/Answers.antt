-- `window::days::three_below` meets its contract: the largest is below q exactly where each is. Assumes nothing.
use mathlib.Core.Path.{◌≡◌, refl, ap, ◌∙◌}
use mathlib.Core.Bool.{Bool}
use Prim.Native.Nat.{ℕ, max}
use native.Mathlib.Omega.{arith}
use native.Mathlib.Decide.{dec_lt}
use borrow.Author.Tests.{lt-ltb, le-ltb}
use lib.Dec.{ltb}
use Rattle.algebra.specs.Count.{both}
use Rattle.protocol.specs.Bounds.{all_below}
use Rattle.protocol.proofs.CompletionLaws.{both_true, both-assoc}
use Rattle.window.proofs.days.three_below.Goals as goal

larger : (a b q : ℕ) → ltb (max a b) q ≡ both (ltb a q) (ltb b q)
unfolding both
larger a b q =
    elim (dec_lt a q) [
      | no k ↦ rw (le-ltb a q (omega arith), le-ltb (max a b) q (omega arith)) refl
      | yes k ↦ elim (dec_lt b q) [
        | no l ↦ rw (lt-ltb a q k, le-ltb b q (omega arith), le-ltb (max a b) q (omega arith)) refl
        | yes l ↦ rw (lt-ltb a q k, lt-ltb b q l, lt-ltb (max a b) q (omega arith)) refl
      ]
    ]

pub returns : goal.returns
unfolding all_below
returns c =
    let a = c.args in
    ap (λ (l : ℕ). ltb l a.q) (c.max-2.ensures ∙ ap (λ (l : ℕ). max l a.oldest) c.max.ensures)
    ∙ larger (max a.share a.new) a.oldest a.q
    ∙ ap (λ (b : Bool). both b (ltb a.oldest a.q)) (larger a.share a.new a.q)
    ∙ simp (both_true, both-assoc)
