-- Tests made one after the other: how code checks. The laws in proofs/InOrder tie this to `judge`. Assumes nothing.
use Rattle.std.specs.Prelude.{cond, List, [], ◌∷◌, ◌++◌, eqb, Ok, Err}
use Rattle.std.specs.declared.result.Result.{Result}
use Rattle.protocol.specs.declared.Refusal.{Refusal}
use Rattle.protocol.specs.Answer.{Answer}
use Rattle.protocol.specs.Judge.{refusal_number, refusals, Test, needs, Judged, refused, done, judge}

-- what a check function answers
abbrev pub Check : Type 0
Check = Result Unit Refusal

-- the same as a judgement
abbrev pub checked : Check → Judged Unit
checked (Ok u) = done tt
checked (Err r) = refused r

-- the answer of a call that draws nothing
abbrev pub answer_of : Check → Answer
answer_of (Ok u) = Ok 0
answer_of (Err r) = Err r

-- the first test that fails gives its refusal
unfoldable pub in_order : {A : Type 0} → List Test → A → Judged A
in_order [] a = done a
in_order (needs r h ∷ ts) a = cond h (in_order ts a) (refused r)

-- whether they pass, and the refusal if not
abbrev pub verdict : List Test → Judged Unit
verdict ts = in_order ts tt

-- the tests of one refusal, in their order
unfoldable pub only : Refusal → List Test → List Test
only r [] = []
only r (needs s h ∷ ts) = cond (eqb (refusal_number r) (refusal_number s)) (needs r h ∷ only r ts) (only r ts)

unfoldable pub sorted_by : List Refusal → List Test → List Test
sorted_by [] ts = []
sorted_by (r ∷ rs) ts = only r ts ++ sorted_by rs ts

-- the tests sorted by their refusal's number, those of one refusal in their order
unfoldable pub sorted : List Test → List Test
sorted ts = sorted_by refusals ts

-- what `judge` says of the tests alone
abbrev pub judged : List Test → Judged Unit
judged ts = judge ts tt

-- the second where the first accepts
abbrev pub after : Judged Unit → Judged Unit → Judged Unit
after (refused r) next = refused r
after (done u) next = next

-- groups of tests, each made in order, one after the other
abbrev pub in_groups : List (List Test) → Judged Unit
in_groups [] = done tt
in_groups (g ∷ gs) = after (verdict g) (in_groups gs)

unfoldable pub concat : List (List Test) → List Test
concat [] = []
concat (g ∷ gs) = g ++ concat gs
