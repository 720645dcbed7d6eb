-- `rehearse_lines::input::read` meets its contract. Assumes nothing.
use Rattle.rehearse_lines.proofs.Split.{said}
use Rattle.rehearse_lines.proofs.input.read.Goals as goal

pub returns-clause-answered : goal.returns-clause-answered
returns-clause-answered c =
    let a = c.args in
    let f = c.load_line-terms in
    let x = c.load_line-in_x in
    let y = c.load_line-in_y in
    let d = c.load_line-dealt in
    let l = c.load_line-drawn in
    rw c.counts.ensures
    (said a.s.now a.first.now _ a.x.now _ a.y.now _ a.dealer.now _ a.left.now _ f.result x.result y.result d.result l.result
    c.requires f.ensures.answered x.ensures.answered y.ensures.answered d.ensures.answered l.ensures.answered)
