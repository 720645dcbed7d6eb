-- Refusals are compared by their places in the order of RULES 8.2: by the order in which protocol declares them. Assumes nothing.
use mathlib.Core.Path.{◌≡◌, refl}
use Rattle.std.specs.Prelude.{ltb}
use Rattle.std.specs.Ordering.{partial_lt}
use Rattle.protocol.specs.declared.Refusal.{Refusal}
use Rattle.protocol.specs.declared.Refusal.TheVariants.{Form, Modulus, Composite, Size, Turn, Mark, Stranger, Residue, Dry, Singular}
use Rattle.protocol.specs.Judge.{place_in, place_of}
use Rattle.protocol.specs.contracts.RefusalPartialOrd.TheImpl.{partial_cmp-value}

pub before-by-place : (s r : Refusal) → partial_lt partial_cmp-value.it s r ≡ ltb (place_of s) (place_of r)
unfolding place_of place_in
before-by-place Form Form = refl
before-by-place Form Modulus = refl
before-by-place Form Composite = refl
before-by-place Form Size = refl
before-by-place Form Turn = refl
before-by-place Form Mark = refl
before-by-place Form Stranger = refl
before-by-place Form Residue = refl
before-by-place Form Dry = refl
before-by-place Form Singular = refl
before-by-place Modulus Form = refl
before-by-place Modulus Modulus = refl
before-by-place Modulus Composite = refl
before-by-place Modulus Size = refl
before-by-place Modulus Turn = refl
before-by-place Modulus Mark = refl
before-by-place Modulus Stranger = refl
before-by-place Modulus Residue = refl
before-by-place Modulus Dry = refl
before-by-place Modulus Singular = refl
before-by-place Composite Form = refl
before-by-place Composite Modulus = refl
before-by-place Composite Composite = refl
before-by-place Composite Size = refl
before-by-place Composite Turn = refl
before-by-place Composite Mark = refl
before-by-place Composite Stranger = refl
before-by-place Composite Residue = refl
before-by-place Composite Dry = refl
before-by-place Composite Singular = refl
before-by-place Size Form = refl
before-by-place Size Modulus = refl
before-by-place Size Composite = refl
before-by-place Size Size = refl
before-by-place Size Turn = refl
before-by-place Size Mark = refl
before-by-place Size Stranger = refl
before-by-place Size Residue = refl
before-by-place Size Dry = refl
before-by-place Size Singular = refl
before-by-place Turn Form = refl
before-by-place Turn Modulus = refl
before-by-place Turn Composite = refl
before-by-place Turn Size = refl
before-by-place Turn Turn = refl
before-by-place Turn Mark = refl
before-by-place Turn Stranger = refl
before-by-place Turn Residue = refl
before-by-place Turn Dry = refl
before-by-place Turn Singular = refl
before-by-place Mark Form = refl
before-by-place Mark Modulus = refl
before-by-place Mark Composite = refl
before-by-place Mark Size = refl
before-by-place Mark Turn = refl
before-by-place Mark Mark = refl
before-by-place Mark Stranger = refl
before-by-place Mark Residue = refl
before-by-place Mark Dry = refl
before-by-place Mark Singular = refl
before-by-place Stranger Form = refl
before-by-place Stranger Modulus = refl
before-by-place Stranger Composite = refl
before-by-place Stranger Size = refl
before-by-place Stranger Turn = refl
before-by-place Stranger Mark = refl
before-by-place Stranger Stranger = refl
before-by-place Stranger Residue = refl
before-by-place Stranger Dry = refl
before-by-place Stranger Singular = refl
before-by-place Residue Form = refl
before-by-place Residue Modulus = refl
before-by-place Residue Composite = refl
before-by-place Residue Size = refl
before-by-place Residue Turn = refl
before-by-place Residue Mark = refl
before-by-place Residue Stranger = refl
before-by-place Residue Residue = refl
before-by-place Residue Dry = refl
before-by-place Residue Singular = refl
before-by-place Dry Form = refl
before-by-place Dry Modulus = refl
before-by-place Dry Composite = refl
before-by-place Dry Size = refl
before-by-place Dry Turn = refl
before-by-place Dry Mark = refl
before-by-place Dry Stranger = refl
before-by-place Dry Residue = refl
before-by-place Dry Dry = refl
before-by-place Dry Singular = refl
before-by-place Singular Form = refl
before-by-place Singular Modulus = refl
before-by-place Singular Composite = refl
before-by-place Singular Size = refl
before-by-place Singular Turn = refl
before-by-place Singular Mark = refl
before-by-place Singular Stranger = refl
before-by-place Singular Residue = refl
before-by-place Singular Dry = refl
before-by-place Singular Singular = refl
