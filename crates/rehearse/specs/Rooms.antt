-- The pools of a run, and the lengths of the slices that its calls are lent. Assumes nothing.
use Rattle.std.specs.Prelude.{◌≡◌, List, ℕ, ◌*◌, length}
use Rattle.protocol.specs.declared.Terms.{Terms}
use Rattle.protocol.specs.Judge.{done}
use Rattle.protocol.specs.Message.{message_size}
use Rattle.protocol.specs.Rehearsal.{Input, rehearsal_tests, slot_size, dealt_run}
use Rattle.judging.specs.InOrder.{judged}

-- an input that fits, and pools of one slot that were dealt from it
pub record DealtFor (i : Input) (first second : List ℕ) : Type 0 where
  pub fits : judged (rehearsal_tests i) ≡ done tt
  pub long : length first ≡ slot_size i.terms
  pub first-is : first ≡ (dealt_run i).first
  pub second_is : second ≡ (dealt_run i).second

-- the messages' and the shares'
pub record Rooms (t : Terms) (y1 x1r1 u v : ℕ) : Type 0 where
  pub one : y1 ≡ message_size 1 t
  pub two : x1r1 ≡ message_size 2 t
  pub left-share : u ≡ t.m * t.p
  pub right-share : v ≡ t.m * t.p
