-- The shared groups of tests, in the phases in which the code makes them; `ids-fit`, `head-sides`, sides that were found to fit; `is_open_lem`, of a session
-- of which something is due. Assumes nothing.
use mathlib.Core.Path.{◌≡◌, refl, sym, ap, ◌∙◌}
use mathlib.Core.Bool.{Bool, true}
use mathlib.Core.List.{[], ◌∷◌, ◌++◌}
use Prim.Native.Nat.{ℕ}
use borrow.Author.Tests.{ne_eqb}
use Rattle.protocol.specs.declared.Terms.{Terms}
use Rattle.protocol.specs.declared.Head.{Head}
use Rattle.protocol.specs.declared.Refusal.TheVariants.{Size}
use Rattle.protocol.specs.Judge.{Judged, done, needs}
use Rattle.protocol.specs.Bounds.{Sort, sides_fit}
use Rattle.protocol.specs.Tape.{Role}
use Rattle.protocol.specs.Message.{kind_sort, last_fits}
use Rattle.protocol.specs.Step.{is_open}
use Rattle.judging.specs.InOrder.{only, sorted_by, sorted, judged, after}
use Rattle.judging.proofs.InOrder.{after_last}
use Rattle.protocol.proofs.Judge.{passed}
use Rattle.judging.specs.Groups.{number_tests, head_tests, place_tests, count_tests, id_tests}
use Rattle.judging.specs.Lowest.{lower}
use Rattle.judging.proofs.Join.{judged-phases, also}

pub sizes-phases : (sort : Sort) (role : Role) (t : Terms) (pool size index : ℕ)
    → judged (number_tests sort t ++ place_tests role t pool size index) ≡ after (judged (number_tests sort t)) (judged (place_tests role t pool size index))
unfolding sorted sorted_by only number_tests place_tests
sizes-phases sort role t pool size index =
    judged-phases _ (number_tests sort t ∷ place_tests role t pool size index ∷ []) refl
    ∙ ap (after (judged (number_tests sort t))) (sym (after_last (judged (place_tests role t pool size index))))

pub head-phases : (a : Head) (count : ℕ) → judged (head_tests a ++ count_tests a count) ≡ after (judged (head_tests a)) (judged (count_tests a count))
unfolding sorted sorted_by only head_tests number_tests count_tests
head-phases a count =
    judged-phases _ (head_tests a ∷ count_tests a count ∷ []) refl
    ∙ ap (after (judged (head_tests a))) (sym (after_last (judged (count_tests a count))))

-- the head without the count of residues, by its two checks
pub head-joined : (a : Head) {x v w : Judged Unit} → x ≡ lower v w → v ≡ judged (needs Size (last_fits a.kind a.terms.m a.terms.p) ∷ [])
    → w ≡ judged (number_tests (kind_sort a.kind) a.terms) → x ≡ judged (head_tests a)
unfolding head_tests number_tests
head-joined a e f g = also (needs Size (last_fits a.kind a.terms.m a.terms.p) ∷ []) (number_tests (kind_sort a.kind) a.terms) e f g

-- the sides fit where the numbers were found to
pub ids-fit : (t : Terms) (fits : Bool) → judged (id_tests t fits) ≡ done tt → fits ≡ true
unfolding id_tests
ids-fit t fits e = (passed (id_tests t fits) e).0.1.0

pub head-sides : (a : Head) → judged (head_tests a) ≡ done tt → sides_fit (kind_sort a.kind) a.terms.m a.terms.k a.terms.p ≡ true
unfolding head_tests number_tests
head-sides a e = (passed (head_tests a) e).0.1.1.0

pub is_open_lem : (due : ℕ) → (due ≡ 0 → ⊥) → is_open due ≡ true
unfolding is_open
is_open_lem due h = rw (ne_eqb due 0 h)
