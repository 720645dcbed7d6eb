-- What one end of a session has seen. Assumes nothing.
-- View                 an end's own input, half, coins, and the messages sent and received
-- facing               the other end
-- kinds_sent            the kinds of message that an end sends, in order
-- Finished, Unfinished whether the end has received its last message
use Rattle.std.specs.Prelude.{◌≡◌, List, [], ◌∷◌, ℕ, ◌*◌, ◌<◌, length}
use Rattle.protocol.specs.declared.Terms.{Terms}
use Rattle.protocol.specs.Tape.{Role, left, right, blinder, solver}
use Rattle.protocol.specs.Message.{last_kind}
use Rattle.protocol.specs.System.{scratch_layout}

-- RULES 10.3.2. A message counts by its residues, whatever its head says: here it is its residues
pub record View : Type 0 where
  pub role : Role
  pub terms : Terms
  -- X, or Y, or M and y, or L and x
  pub input : List (List ℕ)
  -- the matrices of the own half
  pub half : List (List ℕ)
  -- U, or P and then U0, or nothing
  pub coins : List ℕ
  -- oldest first
  pub sent : List (List ℕ)
  pub received : List (List ℕ)

-- the other end
abbrev pub facing : Role → Role
facing left = right
facing right = left
facing blinder = solver
facing solver = blinder

-- how many residues each matrix of an end's coins has. Left: U. Blinder: P, U0
abbrev pub coin_layout : Role → Terms → List ℕ
coin_layout left t = t.m * t.p ∷ []
coin_layout right t = []
coin_layout blinder t = scratch_layout t
coin_layout solver t = []

abbrev pub kinds_sent : Role → Terms → List ℕ
kinds_sent left t = 2 ∷ []
kinds_sent right t = 1 ∷ []
kinds_sent blinder t = 2 ∷ 4 ∷ []
kinds_sent solver t = 1 ∷ 3 ∷ last_kind t.m t.p ∷ []

-- finished: the end has accepted the last message that it gets
abbrev pub Finished : View → Type 0
Finished v = length v.received ≡ length (kinds_sent (facing v.role) v.terms)

abbrev pub Unfinished : View → Type 0
Unfinished v = length v.received < length (kinds_sent (facing v.role) v.terms)
