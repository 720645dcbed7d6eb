-- A half in a slot of its pool. Assumes nothing.
--   slot_in   a slot, by its place as the code has it
--   Placed   the sides fit, the slot lies in its pool, and the half in the slot: all that a function on a half asks
use Rattle.std.specs.Prelude.{◌≡◌, true, List, ℕ, ◌≤◌}
use Rattle.protocol.specs.declared.Terms.{Terms}
use Rattle.protocol.specs.Bounds.{sides_fit}
use Rattle.protocol.specs.Tape.{Slot, slot_at, is_slot, Role, sort_of, tape_size}
use Rattle.tape.specs.declared.Place.{Place}

abbrev pub slot_in : List ℕ → Place → Slot
slot_in pool at = slot_at pool at.size at.index

pub record Placed (role : Role) (t : Terms) (s : Slot) : Type 0 where
  pub sides : sides_fit (sort_of role) t.m t.k t.p ≡ true
  pub inside : is_slot s ≡ true
  pub room : tape_size role t.m t.k t.p ≤ s.size
