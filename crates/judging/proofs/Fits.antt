-- What is known where the numbers of a step that takes a message passed.
--   first-placed, open-placed   the half of an accepted first step, and of an open session, has its place
--   numbers-placed, received-placed, turn-placed   the same from the numbers alone
--   half-fits, header-fits   the words of such a half's slot
-- Assumes nothing.
use mathlib.Core.Path.{◌≡◌, ap, ◌∙◌}
use mathlib.Core.Bool.{true}
use mathlib.Core.List.{List, ◌++◌}
use Prim.Native.Nat.{ℕ, ◌≤◌}
use native.Mathlib.Omega.{arith}
use lib.ListN.{length}
use borrow.Author.Tests.{leb-true}
use Rattle.protocol.specs.declared.Terms.{Terms}
use Rattle.protocol.specs.declared.Head.{Head}
use Rattle.protocol.specs.Judge.{Test, done}
use Rattle.protocol.specs.Bounds.{sides_fit}
use Rattle.protocol.specs.Tape.{Role, sort_of, header_size, tape_size, Slot, slot_at, is_slot, slot_words}
use Rattle.protocol.proofs.Slots.{slot-length}
use Rattle.tape.proofs.Slots.{half-body}
use Rattle.protocol.proofs.Tests.{FirstFits, OpenFits}
use Rattle.tape.specs.Placed.{Placed}
use Rattle.protocol.proofs.Judge.{passed}
use Rattle.judging.specs.InOrder.{judged}
use Rattle.judging.specs.Groups.{modulus_tests, kind_tests, number_tests, head_tests, place_tests, count_tests, open_numbers}
use Rattle.judging.specs.Received.{received_numbers}
use Rattle.judging.proofs.Join.{first-passed}

-- ---- a half that has its place

module _ (role : Role) (t : Terms) where
  pub first-placed : (s : Slot) → FirstFits role t s → Placed role t s
  first-placed s f = record { sides = f.terms.sides; inside = f.half.inside; room = f.half.room }

  pub open-placed : {due : ℕ} (s : Slot) → OpenFits role due t s → Placed role t s
  open-placed s f = record { sides = f.terms.sides; inside = f.half.inside; room = f.half.room }

  -- from the numbers alone
  pub numbers-placed : (pool : List ℕ) (size index : ℕ) → judged (open_numbers role t (length pool) size index) ≡ done tt → Placed role t (slot_at pool size index)
  unfolding open_numbers modulus_tests number_tests place_tests is_slot
  numbers-placed pool size index e =
      let s = (passed (open_numbers role t (length pool) size index) e).0.1.1 in
      record { sides = s.1.0; inside = s.1.1.1.0; room = leb-true _ _ s.1.1.1.1.0 }

  pub received-placed : (a : Head) (count : ℕ) (pool : List ℕ) (size index : ℕ)
      → judged (received_numbers role t a count (length pool) size index) ≡ done tt → Placed role t (slot_at pool size index)
  unfolding received_numbers kind_tests modulus_tests number_tests head_tests count_tests place_tests is_slot
  received-placed a count pool size index e =
      let s = (passed (received_numbers role t a count (length pool) size index) e).0.1.1.1.1.1.1.1.1.1.1 in
      record { sides = s.1.0; inside = s.1.1.1.0; room = leb-true _ _ s.1.1.1.1.0 }

  -- the same with tests of the turn behind them
  pub turn-placed : (a : Head) (count : ℕ) (pool : List ℕ) (size index : ℕ) (ts : List Test)
      → judged (received_numbers role t a count (length pool) size index ++ ts) ≡ done tt → Placed role t (slot_at pool size index)
  turn-placed a count pool size index ts e = received-placed a count pool size index (first-passed (received_numbers role t a count (length pool) size index) ts e)

-- the words of a slot in which a half has its place, as code was lent them
module _ (role : Role) (t : Terms) (s : Slot) (p : Placed role t s) {ws : List ℕ} (e : ws ≡ slot_words s) where
  pub half-fits : (sides_fit (sort_of role) t.m t.k t.p ≡ true) × (tape_size role t.m t.k t.p ≤ length ws)
  half-fits = (p.sides, omega (arith, p.room, ap length e ∙ slot-length s p.inside))

  pub header-fits : header_size ≤ length ws
  header-fits = omega (arith, half-body role t, half-fits.1)
