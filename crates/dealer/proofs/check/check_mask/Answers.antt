-- `dealer::check::check_mask` meets its contract. Assumes nothing.
use Rattle.dealer.specs.Groups.{mask_tests}
use Rattle.dealer.proofs.Known.{no-mask}
use Rattle.dealer.proofs.check.check_mask.Goals as goal

pub returns-in-Product : goal.returns-in-Product
returns-in-Product c =
    let a = c.args in
    no-mask a.r.now.terms a.r.now.words.now c.in-Product.is

pub returns-in-System : goal.returns-in-System
unfolding mask_tests
returns-in-System c =
    rw c.in-System.is (rw c.mask_fits.ensures at c.need.ensures)
