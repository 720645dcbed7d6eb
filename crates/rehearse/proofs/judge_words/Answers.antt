-- `rehearse::judge_words` meets its contract. Assumes nothing.
use mathlib.Core.Path.{sym}
use Rattle.rehearse.specs.Order.{input_of}
use Rattle.rehearse.proofs.Judged.{numbers_fit, words-refused, all-passed, judged-run, same-printed}
use Rattle.rehearse.proofs.judge_words.Goals as goal

pub words-requires : goal.words-requires
words-requires c =
    let n = numbers_fit c.args.i.terms _ _ c.requires.0 in
    (n.some-q, n.few-mk, n.few-kp, n.few-mp)

pub returns-in-Err : goal.returns-in-Err
returns-in-Err c =
    let printed = c.refusal.ensures in
    same-printed (sym (words-refused (input_of c.args.i) c.requires.0 c.in-Err.ensures)) printed.place printed.few printed.contents

pub perform-requires : goal.perform-requires
perform-requires c = (all-passed (input_of c.args.i) c.requires.0 c.in_default.ensures, c.requires.1)

pub returns : goal.returns
returns c =
    let i = input_of c.args.i in
    let printed = c.perform.ensures in
    same-printed (sym (judged-run i (all-passed i c.requires.0 c.in_default.ensures))) printed.place printed.few printed.contents
