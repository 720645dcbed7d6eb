-- What the blinder divides by at the last step of a determinant, and what its functions ask. Assumes nothing.
--   divisor_of   the product of the determinants of P and Q
--   Dividing    P and Q, as they stand in the scratch and in the half, are residues modulo a prime
--   Divided     what the division asks
use Rattle.std.specs.Prelude.{◌≡◌, true, List, ℕ, ◌*◌, ◌≤◌, ◌<◌, length}
use Rattle.algebra.specs.Residue.{mul_mod}
use Rattle.algebra.specs.Count.{part}
use Rattle.algebra.specs.Matrix.{Residues}
use Rattle.algebra.specs.Prime.{is_prime}
use Rattle.determinant.specs.Determinant.{det}
use Rattle.protocol.specs.declared.Terms.{Terms}
use Rattle.protocol.specs.Bounds.{sides_fit, system}
use Rattle.protocol.specs.Tape.{Slot, slot_words, blinder, matrices}
use Rattle.protocol.specs.System.{scratch_size, scratch_parts}
use Rattle.tape.specs.Placed.{Placed}

unfoldable pub divisor_of : Terms → Slot → (scratch : List ℕ) → ℕ
divisor_of t s scratch =
    mul_mod t.q (det t.q t.m (part 0 (scratch_parts t scratch))) (det t.q t.m (part 2 (matrices blinder t (slot_words s))))

pub record Dividing (t : Terms) (s : Slot) (scratch : List ℕ) : Type 0 where
  pub prime : is_prime t.q ≡ true
  pub some-q : 0 < t.q
  pub small-q : t.q < 2147483648
  pub placed : Placed blinder t s
  pub lent : scratch_size t ≤ length scratch
  pub p-residues : Residues t.q (t.m * t.m) (part 0 (scratch_parts t scratch))
  pub q-residues : Residues t.q (t.m * t.m) (part 2 (matrices blinder t (slot_words s)))

pub record Divided (t : Terms) (by scratch residues out : ℕ) : Type 0 where
  pub prime : is_prime t.q ≡ true
  pub sides : sides_fit system t.m t.k t.p ≡ true
  pub unit : 0 < by
  pub residue : by < t.q
  pub lent : scratch_size t ≤ scratch
  pub full : 0 < residues
  pub room : 0 < out
