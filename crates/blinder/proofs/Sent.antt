-- The message that a step takes, as its one matrix.
--   f-part                   F, of step 4
--   found-size, found_part   t, of step 6
-- Assumes nothing.
use mathlib.Core.Path.{◌≡◌}
use native.Mathlib.Omega.{arith}
use Prim.Native.Nat.{◌*◌}
use lib.ListN.{length}
use lib.Seq.{take_all}
use Rattle.algebra.specs.Count.{part, parts}
use Rattle.protocol.specs.declared.Terms.{Terms}
use Rattle.protocol.specs.Bounds.{columns}
use Rattle.protocol.specs.Message.{Message, message_size, message_layout, message_parts}
use Rattle.protocol.specs.System.{side_size}
use Rattle.protocol.proofs.Tests.{MessageFits}

module _ (t : Terms) (a : Message) where
  pub f-part : length a.residues ≡ t.m * t.k → part 0 (message_parts 3 t a) ≡ a.residues
  unfolding message_parts message_layout parts
  f-part e = take_all (t.m * t.k) a.residues (omega arith)

  pub found-size : MessageFits 5 t a → length a.residues ≡ side_size t
  unfolding message_size message_layout side_size
  found-size f = f.residues.size

  pub found_part : length a.residues ≡ side_size t → part 0 (message_parts 5 t a) ≡ a.residues
  unfolding message_parts message_layout parts side_size
  found_part e = take_all (t.m * columns t.m t.p) a.residues (omega arith)
