-- Coins that are drawn.
--   enough       the raw words suffice
-- Assumes nothing.
use mathlib.Core.Path.{◌≡◌}
use mathlib.Core.List.{List}
use Prim.Native.Nat.{ℕ, ◌≤◌}
use lib.ListN.{length}
use borrow.Author.Tests.{leb-true}
use Rattle.protocol.specs.Judge.{done}
use Rattle.protocol.specs.Drawing.{residues_of, draw_tests}
use Rattle.protocol.proofs.Judge.{passed}
use Rattle.judging.specs.InOrder.{judged}

pub enough : (q n : ℕ) (words : List ℕ) → judged (draw_tests q n words) ≡ done tt → n ≤ length (residues_of q words)
unfolding draw_tests
enough q n words e = leb-true _ _ (passed _ e).0.0
