-- `session::numbers::check_moduli` meets its contract: tests of one number, made once. Assumes nothing.
use mathlib.Core.Path.{◌≡◌, refl, ◌∙◌}
use mathlib.Core.Bool.{Bool, true, false}
use mathlib.Core.List.{[], ◌∷◌}
use Prim.Native.Nat.{ℕ}
use Rattle.algebra.specs.Count.{both}
use Rattle.protocol.specs.declared.Refusal.TheVariants.{Form, Modulus, Composite}
use Rattle.protocol.specs.Judge.{judge, judge_by, clear}
use Rattle.protocol.specs.Judge as tests
use Rattle.protocol.specs.Bounds.{Sort, product, system, largest_modulus, within, field_fits}
use Rattle.protocol.specs.Message.{kind_known, kind_sort}
use Rattle.field.specs.Field.{field_tests}
use Rattle.field.proofs.FieldLaws.{tests-judged}
use Rattle.judging.specs.InOrder.{checked, judged}
use Rattle.tape.specs.Ends.{sort, joint}
use Rattle.judging.specs.Groups.{modulus_tests, kind_tests}
use Rattle.judging.proofs.Join.{also}
use Rattle.judging.proofs.numbers.check_moduli.Goals as goal

-- tests made twice of a system's number, or once of a product's and once of a system's
once : (s t : Sort) (f w h : Bool) (q : ℕ) → field_fits system q ≡ h
    → judged (tests.needs Form f ∷ tests.needs Modulus w ∷ tests.needs Composite (field_fits (joint s t) q) ∷ [])
    ≡ judged (tests.needs Form f ∷ tests.needs Modulus w ∷ tests.needs Composite (field_fits s q) ∷ tests.needs Modulus w ∷ tests.needs Composite (field_fits t q) ∷ [])
unfolding judge judge_by clear both field_fits
once product product false w h q e = refl
once product product true false h q e = refl
once product product true true h q e = refl
once product system false w h q e = refl
once product system true false h q e = refl
once product system true true true q e = rw e
once product system true true false q e = rw e
once system product false w h q e = refl
once system product true false h q e = refl
once system product true true true q e = rw e
once system product true true false q e = rw e
once system system false w h q e = refl
once system system true false h q e = refl
once system system true true true q e = rw e
once system system true true false q e = rw e

pub returns-then-t-q : goal.returns-then-t-q
returns-then-t-q c = also (kind_tests _) (modulus_tests _ _) c.worst.ensures c.check_kind.ensures c.check_modulus.ensures

-- the session's modulus, in the message's place
swapped : (kind : ℕ) (s : Sort) (p q : ℕ) → p ≡ q
    → judged (tests.needs Form (kind_known kind) ∷ field_tests (joint (kind_sort kind) s) q)
    ≡ judged (tests.needs Form (kind_known kind) ∷ tests.needs Modulus (within 2 largest_modulus p) ∷ tests.needs Composite (field_fits (kind_sort kind) p) ∷ modulus_tests s q)
unfolding modulus_tests field_tests
swapped kind s p q e = rw e (once (kind_sort kind) s (kind_known kind) (within 2 largest_modulus q) (field_fits system q) q refl)

-- what the code takes the worse of
worse : (c : goal.After-worst-2) → checked c.worst-2.result
    ≡ judged (tests.needs Form (kind_known c.args.a.kind)
    ∷ field_tests (joint (kind_sort c.args.a.kind)
    (sort c.args.end))
    c.args.q)
worse c =
    let a = c.args in
    let field = c.joint_field in
    also (tests.needs Form (kind_known a.a.kind) ∷ []) (field_tests (joint (kind_sort a.a.kind) (sort a.end)) a.q) c.worst-2.ensures
    (c.need-kind.ensures ∙ rw c.kind_known.ensures)
    (c.check_field-modulus.ensures ∙ tests-judged _ a.q field.result field.ensures)

pub returns : goal.returns
unfolding kind_tests
returns c = worse c ∙ swapped _ _ _ _ c.if-t-q.false
