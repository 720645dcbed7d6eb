-- `line::parse` meets its contract: the line is loaded, its form checked, and only then stored. Assumes nothing.
use mathlib.Core.Path.{refl, sym, ◌∙◌}
use lib.ListN.{length}
use borrow.Author.Rules.{rules}
use Rattle.decimal.proofs.Exits.{err-exit, none-err}
use Rattle.line.proofs.Judged.{holds, no-message, parse-wrong, parse-room, parse-judged, refuses, takes}
use Rattle.line.proofs.parse.Goals as goal

pub returns-in_err-message : goal.returns-in_err-message
returns-in_err-message c =
    let a = c.args in
    let none = c.in_err-message.ensures.ok_part in
    let wrong = parse-wrong (length a.out.now) a.s.now (no-message _ _ c.load.ensures none) in
    rw (err-exit c.from_residual.result c.from_residual.ensures.1, none-err none c.in_err-message.ensures.value, wrong)
    (record { answered = refl; contents = refl })

pub returns-in_err-check_form : goal.returns-in_err-check_form
returns-in_err-check_form c =
    let l = holds _ _ c.load.ensures c.in_ok-message.ensures.ok_part in
    let all = refuses l _ (parse-judged l _) c.args.out.now (c.in_err-check_form.ensures _ _ l) in
    rw (err-exit c.from_residual-in_err-check_form.result c.from_residual-in_err-check_form.ensures.1) (record { answered = all.0; contents = all.1 })

pub store-requires : goal.store-requires
store-requires c =
    let l = holds _ _ c.load.ensures c.in_ok-message.ensures.ok_part in
    (search rules, parse-room l _ (sym (c.in_ok-check_form.ensures _ _ l)))

pub returns : goal.returns
returns c =
    let l = holds _ _ c.load.ensures c.in_ok-message.ensures.ok_part in
    let all = takes l _ (parse-judged l _) c.args.out.now (c.in_ok-check_form.ensures _ _ l) (c.store.ensures _ l) in
    record { answered = all.0; contents = all.1 }
