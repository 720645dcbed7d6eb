-- `session::record::BlinderSessionKept::record` meets its contract. Assumes nothing.
use native.Mathlib.Omega.{arith}
use lib.Seq.{length-take-le}
use lib.ListN.{drop, length-drop}
use Rattle.vectors.proofs.Written.{after-over}
use Rattle.vectors.proofs.Rows.{words_count}
use Rattle.entry.specs.Record.{of_blinder}
use Rattle.session.proofs.Arrays.{joined}
use Rattle.session.proofs.record.BlinderSessionKept.record.Goals as goal

pub write_copy-requires : goal.write_copy-requires
write_copy-requires c =
    let at5 = c in
    let n = at5.well_formed.0.1.1.1.1.0.1.0.1 in
    (omega arith, omega arith)

pub write_copy-requires-2 : goal.write_copy-requires-2
write_copy-requires-2 c =
    let at9 = c in
    let n = at9.well_formed.0.1.1.1.1.1.0.1.0.1 in
    let k = c.write_copy.new.out in
    let len = after-over _ _ c.write_copy.ensures (omega (arith, words_count 256 at9.args.self.mm)) in
    let part = length-take-le 16 (drop 256 k) (omega (arith, len, length-drop 256 k)) in
    (omega arith, omega (arith, part))

pub returns : goal.returns
unfolding of_blinder
returns c =
    let at5 = c in
    let at11 = c in
    let k = at11.well_formed.0.1.1.1.1.0.1.0.1 in
    let l = at11.well_formed.0.1.1.1.1.1.0.1.0.1 in
    rw (joined 256 16 at11.args.self.mm at11.args.self.y _ _ _ k l (omega arith) at5.write_copy.ensures c.write_copy-2.ensures)
