-- What the writer of step 2 asks. Assumes nothing.
use Rattle.std.specs.Prelude.{◌≡◌, true, List, ℕ, ◌+◌, ◌*◌, ◌≤◌, ◌<◌}
use Rattle.algebra.specs.Matrix.{Residues}
use Rattle.protocol.specs.declared.Terms.{Terms}
use Rattle.protocol.specs.Bounds.{product, sides_fit}

-- X and the mask X0 are residues; of Y1, U, A0 and the message's slice: their lengths
pub record Answering (t : Terms) (x x0 : List ℕ) (y1 u a0 out : ℕ) : Type 0 where
  pub sides : sides_fit product t.m t.k t.p ≡ true
  pub some-q : 0 < t.q
  pub small-q : t.q < 2147483648
  pub plain : Residues t.q (t.m * t.k) x
  pub mask : Residues t.q (t.m * t.k) x0
  pub full-y : y1 ≡ t.k * t.p
  pub full-u : u ≡ t.m * t.p
  pub full-a : a0 ≡ t.m * t.p
  pub room : t.m * t.k + t.m * t.p ≤ out
