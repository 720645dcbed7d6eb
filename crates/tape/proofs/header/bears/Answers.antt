-- `tape::header::bears` meets its contract. Assumes nothing.
use Rattle.tape.specs.Bears.{bears}
use Rattle.tape.proofs.header.bears.Goals as goal

pub returns : goal.returns
unfolding bears
returns c = rw c.sort_number.ensures at c.numbers_are.ensures
