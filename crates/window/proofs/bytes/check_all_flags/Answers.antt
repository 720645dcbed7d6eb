-- `window::bytes::check_all_flags` meets its contract: the length, and then the flags. Assumes nothing.
use mathlib.Core.Path.{sym, ◌∙◌}
use Rattle.judging.proofs.Join.{hands_on, goes-past}
use Rattle.window.proofs.Phases.{flags-phases, flag-words, all-flags}
use Rattle.window.proofs.bytes.check_all_flags.Goals as goal

pub returns-in_err-check_run : goal.returns-in_err-check_run
returns-in_err-check_run c =
    hands_on c.from_residual.result _ c.from_residual.ensures.1 c.in_err-check_run.ensures ∙ sym (flags-phases c.args.flags.now)

pub check_flags-requires : goal.check_flags-requires
check_flags-requires c = flag-words _ (sym c.in_ok-check_run.ensures)

pub returns : goal.returns
returns c =
    let flags = c.args.flags.now in
    c.check_flags.ensures ∙ all-flags flags
    ∙ sym (flags-phases flags ∙ goes-past c.in_ok-check_run.ensures)
