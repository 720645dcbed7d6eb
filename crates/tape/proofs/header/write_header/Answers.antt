-- `tape::header::write_header` meets its contract. Assumes nothing.
use mathlib.Core.List.{◌∷◌, []}
use native.Mathlib.Omega.{arith}
use lib.ListN.{length-set}
use lib.Seq.{sets-eq}
use Rattle.algebra.specs.Words.{over}
use Rattle.protocol.specs.Tape.{READY, header_words, sort_number}
use Rattle.tape.specs.Ends.{sort}
use Rattle.tape.proofs.header.write_header.Goals as goal

pub bounds-slot-1 : goal.bounds-slot-1
bounds-slot-1 c = simp length-set (omega arith)

pub bounds-slot-2 : goal.bounds-slot-2
bounds-slot-2 c = simp length-set (omega arith)

pub bounds-slot-3 : goal.bounds-slot-3
bounds-slot-3 c = simp length-set (omega arith)

pub bounds-slot-4 : goal.bounds-slot-4
bounds-slot-4 c = simp length-set (omega arith)

pub bounds-slot-5 : goal.bounds-slot-5
bounds-slot-5 c = simp length-set (omega arith)

pub returns : goal.returns
unfolding over header_words
returns c =
    let a = c.args in
    rw c.sort_number.ensures
    (sets-eq (READY ∷ a.tape ∷ sort_number (sort a.end) ∷ a.q ∷ a.m ∷ a.k ∷ a.p ∷ []) a.slot.now 0 (omega arith))
