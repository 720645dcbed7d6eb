-- `drawing::collect` meets its contract: both of its ways do. Assumes nothing.
use mathlib.Core.Path.{refl}
use borrow.Author.Rules.{rules}
use Prim.Native.Nat.{◌≤◌}
use native.Mathlib.Omega.{arith}
use lib.ListN.{length}
use Rattle.drawing.proofs.Turns.{residues-few, kept_read, kept-collected}
use Rattle.drawing.proofs.Sifting.{sifted-collected}
use Rattle.drawing.proofs.collect.Goals as goal

pub all_kept-requires : goal.all_kept-requires
all_kept-requires c =
    let start = c in
    (start.requires.0, omega (arith, start.requires.1, residues-few start.args.q start.args.words.now))

pub write_copy-requires : goal.write_copy-requires
write_copy-requires c =
    let start = c in
    (omega (arith, start.requires.1, residues-few start.args.q start.args.words.now), start.requires.2)

pub returns-then-all_kept : goal.returns-then-all_kept
returns-then-all_kept c =
    let start = c in
    let a = start.args in
    let fits : a.n ≤ length a.words.now = omega (arith, start.requires.1, residues-few a.q a.words.now) in
    let all = c.all_kept.ensures c.if-all_kept.true in record {
      value = kept_read a.q a.n a.words.now fits all;
      collected = kept-collected a.q a.n a.words.now a.out.now fits start.requires.2 all
          c.write_copy.ensures;
    }

pub returns-clause-collected : goal.returns-clause-collected
returns-clause-collected c =
    let a = c.args in
    let s = c.sift_each.ensures a.words.now refl (λ i w h e. search rules) in
    sifted-collected a.q a.n a.words.now a.out.now _ _ s c.requires.1 (search rules)
