-- `rehearse::check::words` meets its contract. Assumes nothing.
use mathlib.Core.Path.{ap, ◌∙◌}
use Prim.Native.Nat.{ℕ, ◌*◌}
use Rattle.protocol.specs.Drawing.{draw_tests}
use Rattle.protocol.specs.Deal.{draw_size}
use Rattle.protocol.specs.Rehearsal.{request}
use Rattle.judging.specs.InOrder.{judged}
use Rattle.judging.proofs.Join.{also}
use Rattle.rehearse.specs.Order.{input_of, word_tests}
use Rattle.rehearse.proofs.Judged.{draw-size}
use Rattle.rehearse.proofs.check.words.Goals as goal

pub returns : goal.returns
unfolding word_tests
returns c =
    let i = input_of c.args.i in
    let t = i.terms in
    let many = c.masks_count.ensures ∙ draw-size i in
    also _ _ c.worst-2.ensures c.residues-inputs.ensures
    (also (draw_tests t.q (draw_size (request i)) i.dealer_words) (draw_tests t.q (t.m * t.p) i.left_words) c.worst.ensures
    (c.check_coins-dealt.ensures ∙ ap (λ (n : ℕ). judged (draw_tests t.q n i.dealer_words)) many)
    (c.check_coins-coins.ensures ∙ ap (λ (n : ℕ). judged (draw_tests t.q n i.left_words)) c.times.ensures))
