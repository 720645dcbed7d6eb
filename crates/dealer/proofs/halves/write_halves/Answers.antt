-- `dealer::halves::write_halves` meets its contract. Assumes nothing.
use mathlib.Core.Path.{ap, ◌∙◌}
use mathlib.Core.List.{List}
use Prim.Native.Nat.{ℕ}
use Rattle.algebra.specs.Words.{over}
use Rattle.protocol.specs.Drawing.{words_read}
use Rattle.dealer.proofs.Whole.{same_count, same_first, same_second, system-first, system-second}
use Rattle.dealer.proofs.halves.write_halves.Goals as goal

pub returns-in-Product : goal.returns-in-Product
returns-in-Product c =
    let a = c.args in
    let e = c.write_masks-read.ensures in
    let told = c.in-Product.is in record {
      value = e.value ∙ ap (λ (n : ℕ). words_read a.r.now.terms.q n a.r.now.words.now) (same_count a.r.now.terms a.r.now.words.now told);
      first_after = e.first_after ∙ ap (λ (l : List ℕ). over l a.first.now) (same_first a.r.now.terms a.r.now.words.now told);
      second_after = e.second_after ∙ ap (λ (l : List ℕ). over l a.second.now) (same_second a.r.now.terms a.r.now.words.now told);
    }

pub returns-in-System : goal.returns-in-System
returns-in-System c =
    let far = c in
    let h = far.requires in
    let write-masks = far.write_masks-read in
    let a = far.args in
    let told = c.in-System.is in
    let r = rw told at h in
    let e = rw told at write-masks.ensures in
    let f = c.write_more.ensures in
    record {
      value = rw told f.value;
      first_after = rw told (system-first r a.first.now _ e.first_after f.first_after);
      second_after = rw told (system-second r a.second.now _ e.second_after f.second_after);
    }
