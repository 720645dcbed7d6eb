-- The lower of an entry's own refusal and of its step's, as the code finds it.
--   lower-told, lower-none   by the worse of the two checks
-- Assumes nothing.
use mathlib.Core.Path.{◌≡◌, sym, ap, ◌∙◌}
use mathlib.Core.Bool.{Bool, true, false, cond}
use lib.Dec.{ltb}
use Rattle.protocol.specs.declared.Refusal.{Refusal}
use Rattle.protocol.specs.Answer.{Answer}
use Rattle.std.specs.Prelude.{Ok, Err}
use Rattle.protocol.specs.Judge.{place_of, Judged, refused, done}
use Rattle.protocol.proofs.Judge.{refused≢done}
use Rattle.judging.specs.InOrder.{Check}
use Rattle.std.specs.Prelude.{Ok, Err}
use Rattle.judging.specs.InOrder.{checked}
use Rattle.judging.specs.Lowest.{lower}
use Rattle.local.specs.Stored.{lower_of}

same-refusal : (r s : Refusal) → ◌≡◌ {A = Judged Unit} (refused r) (refused s) → r ≡ s
same-refusal r s e = cc

module _ (w : Check) (r s : Refusal) (told : checked w ≡ lower (refused r) (refused s)) where
  pub lower-told : {own : Check} {a : Answer} {x : Refusal} → own ≡ Err r → a ≡ Err s → w ≡ Err x → x ≡ lower_of own a
  lower-told {x = x} e f g = rw (e, f) (go (ltb (place_of s) (place_of r)) (sym (ap checked g) ∙ told))
    where
      go : (b : Bool) → ◌≡◌ {A = Judged Unit} (refused x) (cond b (refused s) (refused r)) → x ≡ cond b s r
      go true k = same-refusal x s k
      go false k = same-refusal x r k

  -- two refusals are not passed
  pub lower-none : {A : Type 0} → w ≡ Ok tt → A
  lower-none {A = A} g = go (ltb (place_of s) (place_of r)) (sym told ∙ ap checked g)
    where
      go : (b : Bool) → ◌≡◌ {A = Judged Unit} (cond b (refused s) (refused r)) (done tt) → A
      go true k = absurd (refused≢done k)
      go false k = absurd (refused≢done k)
