-- `window::days::add_days` meets its contract: residues, and then their sum. Assumes nothing.
use mathlib.Core.Path.{sym}
use Rattle.window.proofs.Phases.{days-refused, days-taken}
use Rattle.window.proofs.Sums.{same-sum}
use Rattle.window.proofs.days.add_days.Goals as goal

pub returns-then-not-all_below : goal.returns-then-not-all_below
returns-then-not-all_below c = sym (days-refused _ _ _ (sym c.if-not-all_below.ensures))

pub returns : goal.returns
returns c = rw (c.total.ensures, c.from.ensures, same-sum c.args.days.now) (sym (days-taken _ _ _ (sym c.if-not-all_below.ensures)))
