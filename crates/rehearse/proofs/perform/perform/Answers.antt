-- `rehearse::perform::perform` meets its contract. Assumes nothing.
use mathlib.Core.Path.{◌∙◌}
use Prim.Native.Nat.{ℕ, ◌+◌, ◌≤◌}
use native.Mathlib.Omega.{arith}
use Rattle.protocol.specs.Tape.{header_size}
use Rattle.rehearse.specs.Order.{input_of}
use Rattle.rehearse.proofs.Runs.{fits, pool-taken, zeros-taken, dealt-for}
use Rattle.rehearse.proofs.perform.perform.Goals as goal

few : (n : ℕ) → n ≤ header_size + 3072 → n ≤ 4096
few n h = omega (arith, h)

pub slot_size-size-requires : goal.slot_size-size-requires
slot_size-size-requires c =
    (fits (input_of c.args.i) c.requires.0).terms.sides

pub play-requires : goal.play-requires
play-requires c = ((fits (input_of c.args.i) c.requires.0).terms.sides, c.requires.1)

pub returns : goal.returns
returns c =
    let i = input_of c.args.i in
    let n = c.slot_size-size in
    let empty = pool-taken i.terms n.result 4096 (few _ n.ensures.1) n.ensures.0 in
    c.play.ensures (dealt-for i c.requires.0 n.result _ _ _ _ _ n.ensures.0 empty empty (c.deal_product.auto.first ∙ zeros-taken n.result 4096 (few _ n.ensures.1)) c.deal_product.ensures)
