-- DEMAND 2 for windows of days (RULES 12.4), over lists of calls: for any run of day sessions of the list in which both ends kept to the rules, the two
-- makers' shares of a window add to the number of days in it that both missed. Nothing is assumed of the shares: that they add is demand 2's own claim.
--   Day                       the names of a day's two sessions
--   Played, DayKept, Each     both ends kept to the rules; every day
--   shares_of, flags_of         a maker's run of day shares, and of flags
--   WindowRight, WINDOW-RIGHT   the claim; proofs/Windows proves it
-- Assumes nothing.
use Rattle.std.specs.Prelude.{◌≡◌, true, ◌⊎◌, List, [], ◌∷◌, map, ℕ, ◌+◌, length, get_or}
use Rattle.algebra.specs.Residue.{add_mod}
use Rattle.algebra.specs.Count.{part}
use Rattle.protocol.specs.Judge.{done}
use Rattle.protocol.specs.Tape.{left}
use Rattle.protocol.specs.Window.{window_fits, window_share, moves, flags_fit, missed_by_both}
use Rattle.history.specs.Log.{Party, Call, World, run, Premises}
use Rattle.history.specs.Seen.{view}
use Rattle.history.specs.Claim.{Empty}
use Rattle.history.specs.Right.{result, Paired, Arrived}

-- one maker's session and the other's
pub record Day : Type 0 where
  pub one : ℕ
  pub other : ℕ

-- n, left's, and n', right's, are the two ends of one tape, all their messages arrived as they were sent, and they are of 1 by 1 by 1 modulo q
pub record Played (o : World) (q n n' : ℕ) : Type 0 where
  pub paired : Paired o left n n'
  pub arrived : Arrived (view o.log n) (view o.log n')
  pub modulus : (view o.log n).terms.q ≡ q
  pub one-row : (view o.log n).terms.m ≡ 1
  pub one-term : (view o.log n).terms.k ≡ 1
  pub one-column : (view o.log n).terms.p ≡ 1

-- a maker may be left on some days and right on others
abbrev pub DayKept : World → (q : ℕ) → Day → Type 0
DayKept o q d = Played o q d.one d.other ⊎ Played o q d.other d.one

abbrev pub Each : {A : Type 0} → (A → Type 0) → List A → Type 0
Each P [] = Unit
Each P (a ∷ l) = P a × Each P l

-- `whose`: which of a day's sessions is the maker's
abbrev pub shares_of : World → (whose : Day → ℕ) → List Day → List ℕ
shares_of o whose days = map (λ (d : Day). get_or (result o.log (whose d)) 0 0) days

-- the input that its first step was handed: X for left, Y for right
abbrev pub flags_of : World → (whose : Day → ℕ) → List Day → List ℕ
flags_of o whose days = map (λ (d : Day). get_or (part 0 (view o.log (whose d)).input) 0 0) days

abbrev pub of_one : Day → ℕ
of_one d = d.one

abbrev pub of_other : Day → ℕ
of_other d = d.other

-- either maker's call is accepted, and the two shares add modulo q to the number of days: as that is at most w, which is below q, it is the residue itself
pub record WindowRight (o : World) (q : ℕ) (days : List Day) (first w : ℕ) : Type 0 where
  pub share : ℕ
  pub other-share : ℕ
  pub given : window_share q (shares_of o of_one days) first w ≡ done share
  pub other-given : window_share q (shares_of o of_other days) first w ≡ done other-share
  -- .. also where the window was moved to, a day at a time, from wherever it stood
  pub reached : (from n : ℕ) → from + n ≡ first → moves q (shares_of o of_one days) from w n ≡ done share
  pub other-reached : (from n : ℕ) → from + n ≡ first → moves q (shares_of o of_other days) from w n ≡ done other-share
  pub adds : add_mod q share other-share ≡ missed_by_both (flags_of o of_one days) (flags_of o of_other days) first w

-- for every list of calls under the premises of demand 2, every run of such days whose flags fit, and every window that fits it
abbrev pub WINDOW-RIGHT : Type 0
WINDOW-RIGHT = (size : Party → ℕ) (start : Party → List ℕ) (lent : ℕ → List ℕ) → Empty size start → (cs : List Call)
    → Premises size (run size start lent cs).log
    → (q : ℕ) (days : List Day) → Each (DayKept (run size start lent cs) q) days
    → flags_fit (flags_of (run size start lent cs) of_one days) ≡ done tt → flags_fit (flags_of (run size start lent cs) of_other days) ≡ done tt
    → (first w : ℕ) → window_fits q (length days) first w ≡ true
    → WindowRight (run size start lent cs) q days first w
