-- What the dealer's tests and writers ask of numbers and lengths. Assumes nothing.
--   Fits       a request's modulus and sides
--   Numbers    the same, and two slots that lie in their pools
--   Masks      the modulus and the sides of X0, Y0 and A0
--   Unknowns   the modulus and the unknowns of Q, R and G
--   Room       a request that fits, enough raw words, and room for both halves
use Rattle.std.specs.Prelude.{◌≡◌, true, List, ℕ, ◌*◌, ◌/◌, ◌≤◌, ◌<◌, ltb, length}
use Rattle.protocol.specs.declared.Terms.{Terms}
use Rattle.protocol.specs.Bounds.{Sort, field_fits, sides_fit}
use Rattle.protocol.specs.Drawing.{residues_of}
use Rattle.protocol.specs.Tape.{header_size, tape_size}
use Rattle.protocol.specs.Deal.{first_role, second_role}
use Rattle.dealer.specs.Sorts.{draw_count}

pub record Fits (s : Sort) (t : Terms) : Type 0 where
  pub some-q : 0 < t.q
  pub small-q : t.q < 2147483648
  pub field : field_fits s t.q ≡ true
  pub sides : sides_fit s t.m t.k t.p ≡ true

-- of the pools: how many words they have
pub record Numbers (s : Sort) (t : Terms) (first second size index : ℕ) : Type 0 where
  pub fits : Fits s t
  pub first-inside : ltb index (first / size) ≡ true
  pub second-inside : ltb index (second / size) ≡ true
  pub room : header_size ≤ size

pub record Masks (q m k p : ℕ) : Type 0 where
  pub some-q : 0 < q
  pub small-q : q < 2147483648
  pub few-k : k ≤ 2048
  pub few-mk : m * k ≤ 2048
  pub few-kp : k * p ≤ 2048
  pub few-mp : m * p ≤ 1024

pub record Unknowns (q n : ℕ) : Type 0 where
  pub some-q : 0 < q
  pub small-q : q < 2147483648
  pub some-n : 1 ≤ n
  pub few-n : n ≤ 16

-- of the slots: how many words they have
pub record Room (s : Sort) (t : Terms) (words : List ℕ) (first second : ℕ) : Type 0 where
  pub fits : Fits s t
  pub enough : draw_count s t.m t.k t.p ≤ length (residues_of t.q words)
  pub first-room : tape_size (first_role s) t.m t.k t.p ≤ first
  pub second-room : tape_size (second_role s) t.m t.k t.p ≤ second
