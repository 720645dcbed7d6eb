-- `vectors::columns::write_row` meets its contract. Assumes nothing.
use borrow.Author.Rules.{rules}
use Rattle.vectors.proofs.Rows.{words_count}
use Rattle.vectors.specs.Fill.{first_words}
use Rattle.vectors.proofs.Written.{part_then}
use Rattle.vectors.proofs.columns.write_row.Goals as goal

pub returns : goal.returns
returns c =
    let a = c.args in
    part_then (first_words a.p a.a.now) (first_words a.r a.b.now) a.out.now _ _ a.p (words_count a.p a.a.now) (search rules)
    c.write_copy.ensures c.write_copy-2.ensures
