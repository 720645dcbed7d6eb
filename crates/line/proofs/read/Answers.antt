-- `line::read` meets its contract: the line is loaded, its message checked, and only then stored. Assumes nothing.
use mathlib.Core.Path.{refl, sym, ap, ◌∙◌}
use mathlib.Core.List.{List}
use Prim.Native.Nat.{ℕ}
use Rattle.algebra.specs.Words.{over}
use Rattle.line.proofs.Words.{all-residues}
use lib.ListN.{length}
use borrow.Author.Rules.{rules}
use Rattle.decimal.proofs.Exits.{err-exit, none-err}
use Rattle.line.proofs.Judged.{holds, no-message, read-wrong, read-room, read-judged, refuses, takes, read-few}
use Rattle.line.proofs.read.Goals as goal

pub returns-in_err-message : goal.returns-in_err-message
returns-in_err-message c =
    let a = c.args in
    let none = c.in_err-message.ensures.ok_part in
    let wrong = read-wrong (length a.out.now) a.s.now (no-message _ _ c.load.ensures none) in
    rw (err-exit c.from_residual.result c.from_residual.ensures.1, none-err none c.in_err-message.ensures.value, wrong)
    (record { answered = refl; contents = refl })

pub returns-in_err-check_read : goal.returns-in_err-check_read
returns-in_err-check_read c =
    let l = holds _ _ c.load.ensures c.in_ok-message.ensures.ok_part in
    let all = refuses l _ (read-judged l _) c.args.out.now (c.in_err-check_read.ensures _ l) in
    rw (err-exit c.from_residual-in_err-check_read.result c.from_residual-in_err-check_read.ensures.1) (record { answered = all.0; contents = all.1 })

pub put_residues-requires : goal.put_residues-requires
put_residues-requires c =
    let l = holds _ _ c.load.ensures c.in_ok-message.ensures.ok_part in
    let passed = sym (c.in_ok-check_read.ensures _ l) in
    let few = read-few l _ passed in
    (search rules, read-room l _ passed)

pub returns : goal.returns
returns c =
    let l = holds _ _ c.load.ensures c.in_ok-message.ensures.ok_part in
    let told = c.in_ok-check_read.ensures _ l in
    let out = c.args.out.now in
    let few = read-few l _ (sym told) in
    let all = takes l _ (read-judged l _) out told
    (c.put_residues.ensures ∙ ap (λ (r : List ℕ). over r out) (all-residues l (search rules))) in
    record { answered = all.0; contents = all.1 }
