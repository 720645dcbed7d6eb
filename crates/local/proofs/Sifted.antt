-- The raw words that a call looks at: those that are kept, as many as are drawn.
--   Sifts   what is known of them where the sides fit; elsewhere the call is refused before it draws
-- Assumes nothing.
use mathlib.Core.Path.{◌≡◌}
use mathlib.Core.Bool.{true}
use mathlib.Core.List.{List}
use Prim.Native.Nat.{ℕ}
use lib.ListN.{take}
use Rattle.protocol.specs.declared.Terms.{Terms}
use Rattle.protocol.specs.Bounds.{Sort, sides_fit}
use Rattle.protocol.specs.Drawing.{words_read}
use Rattle.drawing.specs.Sift.{kept_words}

-- n residues are drawn
pub record Sifts (sort : Sort) (n : ℕ) (t : Terms) (raw kept : List ℕ) (read : ℕ) : Type 0 where
  pub words : sides_fit sort t.m t.k t.p ≡ true → kept ≡ take n (kept_words t.q raw)
  pub count : sides_fit sort t.m t.k t.p ≡ true → read ≡ words_read t.q n raw
