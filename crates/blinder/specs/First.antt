-- The tests of the blinder's first step in phases, and what its functions ask. Assumes nothing.
--   first_numbers   the first phase: the session, the slot, the message, M and y, and the rooms; behind it come the raw words
--   first_inputs    the step's own tests of it
--   first_regular   the last phase: M and P
--   Eliminable     M can be eliminated
--   Masking        Y1, the scratch, and X0 and A0 of the half, by the terms: how many words each has
--   first_sent      the message's residues
use Rattle.std.specs.Prelude.{◌≡◌, true, List, ◌++◌, ℕ, ◌+◌, ◌*◌, ◌≤◌, ◌<◌}
use Rattle.algebra.specs.Count.{part}
use Rattle.algebra.specs.Matrix.{Residues}
use Rattle.algebra.specs.Prime.{is_prime}
use Rattle.algebra.specs.Product.{send_x, send_r}
use Rattle.protocol.specs.declared.Terms.{Terms}
use Rattle.protocol.specs.Judge.{Test}
use Rattle.protocol.specs.Bounds.{sides_fit, system, input_tests, room_tests}
use Rattle.protocol.specs.Tape.{Slot, blinder}
use Rattle.protocol.specs.Message.{Message, message_size, message_tests, due_tests}
use Rattle.protocol.specs.Step.{first_tests}
use Rattle.protocol.specs.System.{side_size, scratch_size, scratch_parts, coins_of, regular_tests}

unfoldable pub first_inputs : Terms → (mm y : List ℕ) (scratch room : ℕ) → List Test
first_inputs t mm y scratch room =
    input_tests t.q (t.m * t.m) mm ++ (input_tests t.q (side_size t) y ++ (room_tests (scratch_size t) scratch ++ room_tests (message_size 2 t) room))

unfoldable pub first_numbers : Terms → Slot → (scratch : ℕ) (mm y : List ℕ) → Message → (room : ℕ) → List Test
first_numbers t s scratch mm y a room = (message_tests a ++ (first_tests blinder t s ++ due_tests 1 t a)) ++ first_inputs t mm y scratch room

unfoldable pub first_regular : Terms → (mm words : List ℕ) → List Test
first_regular t mm words = regular_tests t.q t.m mm ++ regular_tests t.q t.m (part 0 (scratch_parts t (coins_of t words)))

pub record Eliminable (t : Terms) (mm : List ℕ) : Type 0 where
  pub some-q : 0 < t.q
  pub small-q : t.q < 2147483648
  pub prime : is_prime t.q ≡ true
  pub sides : sides_fit system t.m t.k t.p ≡ true
  pub residues : Residues t.q (t.m * t.m) mm

pub record Masking (t : Terms) (y1 scratch x0 a0 out : ℕ) : Type 0 where
  pub some-q : 0 < t.q
  pub small-q : t.q < 2147483648
  pub sides : sides_fit system t.m t.k t.p ≡ true
  pub full : y1 ≡ t.m * t.p
  pub lent : scratch_size t ≤ scratch
  pub half-x : x0 ≡ t.m * t.m
  pub half-a : a0 ≡ t.m * t.p
  pub room : t.m * t.m + t.m * t.p ≤ out

-- P and U0 stand in the scratch
unfoldable pub first_sent : Terms → (y1 scratch x0 a0 : List ℕ) → List ℕ
first_sent t y1 scratch x0 a0 =
    send_x t.q t.m t.m t.p (part 0 (scratch_parts t scratch)) x0
    ++ send_r t.q t.m t.m t.p (part 0 (scratch_parts t scratch)) y1 (part 1 (scratch_parts t scratch)) a0
