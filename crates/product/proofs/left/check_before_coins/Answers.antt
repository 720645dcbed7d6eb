-- `product::left::check_before_coins` meets its contract. Assumes nothing.
use Rattle.judging.proofs.Join.{also}
use Rattle.product.proofs.left.check_before_coins.Goals as goal

pub returns : goal.returns
returns c = also _ _ c.worst.ensures c.check_first_received-first.ensures c.check_own-own.ensures
