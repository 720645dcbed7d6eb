-- What the writers of the blinder's second step ask, and the matrix that they compute on the way. Assumes nothing.
--   Small     a modulus and sides of a system: n unknowns, and rhs columns of right-hand sides
--   Sending   M, y, F, the scratch, and Q and G of the half, by the terms: how many words each has
--   inner_w    P × M + U' − F
--   second_sent   the message's residues
use Rattle.std.specs.Prelude.{◌≡◌, true, List, ◌++◌, ℕ, ◌+◌, ◌*◌, ◌≤◌, ◌<◌}
use Rattle.algebra.specs.Count.{part}
use Rattle.algebra.specs.Matrix.{mat_add, mat_sub, mat_mul}
use Rattle.algebra.specs.System.{first_cols, send_w, send_c}
use Rattle.protocol.specs.declared.Terms.{Terms}
use Rattle.protocol.specs.Bounds.{sides_fit, system, columns}
use Rattle.protocol.specs.System.{side_size, scratch_size, scratch_parts}

pub record Small (q n rhs : ℕ) : Type 0 where
  pub some-q : 0 < q
  pub small-q : q < 2147483648
  pub few-n : n ≤ 16
  pub few-rhs : rhs ≤ 16
  pub square : n * n ≤ 256
  pub side : n * rhs ≤ 16

pub record Sending (t : Terms) (mm y f scratch qm g out : ℕ) : Type 0 where
  pub some-q : 0 < t.q
  pub small-q : t.q < 2147483648
  pub sides : sides_fit system t.m t.k t.p ≡ true
  pub kept-m : mm ≡ t.m * t.m
  pub kept-y : y ≡ side_size t
  pub full : f ≡ t.m * t.m
  pub lent : scratch_size t ≤ scratch
  pub half-q : qm ≡ t.m * t.m
  pub half-g : g ≡ t.m * t.m
  pub room : t.m * t.m + side_size t ≤ out

unfoldable pub inner_w : (q n rhs : ℕ) → (u0 f pm mm : List ℕ) → List ℕ
inner_w q n rhs u0 f pm mm = mat_sub q (n * n) (mat_add q (n * n) (mat_mul q n n n pm mm) (first_cols n rhs u0)) f

-- P and U0 stand in the scratch
unfoldable pub second_sent : Terms → (mm y f scratch qm g : List ℕ) → List ℕ
second_sent t mm y f scratch qm g =
    let rhs = columns t.m t.p in
    let pm = part 0 (scratch_parts t scratch) in
    let u0 = part 1 (scratch_parts t scratch) in
    send_w t.q t.m rhs u0 f qm pm mm g ++ send_c t.q t.m rhs u0 pm y
