-- The lower of two judgements' refusals, and tests made phase by phase. Assumes nothing.
use Rattle.std.specs.Prelude.{cond, List, [], ◌∷◌, ltb}
use Rattle.protocol.specs.Judge.{place_of, Test, Judged, refused, done}
use Rattle.judging.specs.InOrder.{judged, after}

-- the lower refusal of two, if any
abbrev pub lower : Judged Unit → Judged Unit → Judged Unit
lower (done u) b = b
lower (refused r) (done u) = refused r
lower (refused r) (refused s) = cond (ltb (place_of s) (place_of r)) (refused s) (refused r)

-- each phase is made where those before it passed
abbrev pub in_phases : List (List Test) → Judged Unit
in_phases [] = done tt
in_phases (p ∷ ps) = after (judged p) (in_phases ps)
