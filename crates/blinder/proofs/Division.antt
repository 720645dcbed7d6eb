-- The last step of a determinant: what it divides by is 0 exactly where P or Q has no inverse, and its answer.
--   dividing-known        P and Q, where the tests of a later step passed
--   judged-singular, judged-regular   the tests that P and Q have an inverse, by the divisor
--   determinant-computed  what the step computes
-- Assumes nothing.
use mathlib.Core.Path.{◌≡◌, refl, sym, ap, ◌∙◌}
use mathlib.Core.Bool.{Bool, true, false}
use mathlib.Core.List.{List, [], ◌∷◌, ◌++◌}
use Prim.Native.Nat.{ℕ, ◌+◌, ◌*◌, ◌%◌, ◌<◌}
use native.Mathlib.Omega.{arith}
use native.Mathlib.Nat.{zero-mod}
use lib.ListN.{length, get_or, take}
use lib.Seq.{length-take-le, take-take}
use borrow.Author.Tests.{ltb-false}
use Rattle.algebra.specs.Residue.{mul_mod, inverse}
use Rattle.algebra.specs.Prime.{Prime}
use Rattle.algebra.specs.Matrix.{Residues, zeros}
use Rattle.algebra.specs.Count.{both, parts}
use Rattle.algebra.specs.Elimination.{regular}
use Rattle.algebra.specs.Words.{over}
use Rattle.algebra.proofs.Elimination.{regular-inverse}
use Rattle.algebra.proofs.Lists.{residues-take}
use Rattle.determinant.specs.Determinant.{det}
use Rattle.determinant.specs.Session.{div_mod, answer}
use Rattle.determinant.proofs.Determinant.{det-regular}
use Rattle.determinant.proofs.Session.{blinding-unit}
use Rattle.protocol.specs.declared.BlinderSession.{BlinderSession}
use Rattle.std.specs.Prelude.{Ok}
use Rattle.protocol.specs.declared.Refusal.TheVariants.{Singular}
use Rattle.protocol.specs.Judge.{needs, clear, Judged, refused, done, judge_by, judge}
use Rattle.protocol.specs.Bounds.{field_fits, all_below}
use Rattle.protocol.specs.Tape.{Slot, blinder}
use Rattle.protocol.specs.Message.{Message, no_message, message_layout, message_parts}
use Rattle.protocol.specs.System.{scratch_size, scratch_parts, closed_blinder, kept_tests, regular_tests, blinder_determinant_effect}
use Rattle.protocol.proofs.Judge.{passed, refused≢done}
use Rattle.protocol.proofs.Residues.{below-residues}
use Rattle.protocol.proofs.CompletionLaws.{third_of}
use Rattle.judging.specs.InOrder.{judged, after}
use Rattle.judging.specs.Leaves.{computed, computing}
use Rattle.judging.proofs.Fits.{open-placed}
use Rattle.blinder.specs.Later.{later_step, kept_words}
use Rattle.blinder.specs.Division.{divisor_of, Dividing}
use Rattle.blinder.proofs.Kept.{square-is, scratch-sum}
use Rattle.blinder.proofs.Order.{later-phases}
use Rattle.blinder.proofs.Known.{kept-known}

-- ---- P and Q, where the tests of a later step passed

both-done : (v w : Judged Unit) → after v w ≡ done tt → (v ≡ done tt) × (w ≡ done tt)
both-done (refused r) w e = absurd (refused≢done e)
both-done (done u) w e = (refl, e)

words-known : (x : BlinderSession) (scratch : List ℕ) → judged (kept_words x scratch) ≡ done tt → all_below x.terms.q (take (scratch_size x.terms) scratch) ≡ true
unfolding kept_words kept_tests
words-known x scratch e = (passed (kept_words x scratch) e).0.1.1.0

pub dividing-known : (x : BlinderSession) (s : Slot) (scratch : List ℕ) (a : Message) (fits : Bool) → judged (later_step 6 fits x s scratch a) ≡ done tt
    → Dividing x.terms s scratch
unfolding field_fits scratch_parts parts
dividing-known x s scratch a fits e =
    let (numbers, words) = both-done _ _ (sym (later-phases x s scratch a 6 fits) ∙ e) in
    let (later, lent) = kept-known x s a 6 fits (length scratch) numbers in
    let t = x.terms in
    let o = later.session-open.terms in
    let coins = below-residues {n = t.m * t.m + t.m * t.p} (length-take-le _ scratch lent ∙ sym (scratch-sum t)) (words-known x scratch words) in
    record {
      prime = o.field;
      some-q = omega (arith, o.big);
      small-q = omega (arith, o.small);
      placed = open-placed blinder t s later.session-open;
      lent = lent;
      p-residues = rw (take-take (t.m * t.m) (scratch_size t) scratch (omega (arith, scratch-sum t))) at (residues-take (t.m * t.m) (t.m * t.p) coins);
      q-residues = rw (square-is t o.sides) at (third_of later.matrices-fit);
    }

-- ---- the divisor is 0 exactly where P or Q has no inverse

module _ {q : ℕ} (p : Prime q) (n : ℕ) {pm qm : List ℕ} (rp : Residues q (n * n) pm) (rq : Residues q (n * n) qm) where
  none : {a : List ℕ} → Residues q (n * n) a → regular q n a ≡ false → det q n a ≡ 0
  none {a} r e = let h = ltb-false 0 (det q n a) (sym (det-regular p n r) ∙ e) in omega arith

  divisor-unit : regular q n pm ≡ true → regular q n qm ≡ true → 0 < mul_mod q (det q n pm) (det q n qm)
  unfolding mul_mod
  divisor-unit e f = blinding-unit p n pm qm (sym (regular-inverse p n rp) ∙ e) (sym (regular-inverse p n rq) ∙ f)

  divisor-none : det q n pm * det q n qm ≡ 0 → mul_mod q (det q n pm) (det q n qm) ≡ 0
  unfolding mul_mod
  divisor-none e = ap (λ (d : ℕ). d % q) e ∙ zero-mod q

  -- the tests that both have an inverse
  pub judged-singular : mul_mod q (det q n pm) (det q n qm) ≡ 0 → judged (regular_tests q n pm ++ regular_tests q n qm) ≡ refused Singular
  unfolding regular_tests judge judge_by clear both
  judged-singular z = go (regular q n pm) (regular q n qm) refl refl
    where
      go : (b c : Bool) → regular q n pm ≡ b → regular q n qm ≡ c → judged (needs Singular b ∷ needs Singular c ∷ []) ≡ refused Singular
      go true true e f = absurd (omega (arith, divisor-unit e f, z))
      go true false e f = refl
      go false c e f = refl

  pub judged-regular : (mul_mod q (det q n pm) (det q n qm) ≡ 0 → ⊥) → judged (regular_tests q n pm ++ regular_tests q n qm) ≡ done tt
  unfolding regular_tests judge judge_by clear both
  judged-regular some = go (regular q n pm) (regular q n qm) refl refl
    where
      go : (b c : Bool) → regular q n pm ≡ b → regular q n qm ≡ c → judged (needs Singular b ∷ needs Singular c ∷ []) ≡ done tt
      go true true e f = refl
      go true false e f = absurd (some (divisor-none (rw (none rq f) (omega arith))))
      go false c e f = absurd (some (divisor-none (rw (none rp e) (omega arith))))

-- ---- the answer

first_taken : (l : List ℕ) → get_or (take 1 l) 0 0 ≡ get_or l 0 0
first_taken [] = refl
first_taken (d ∷ l) = refl

pub determinant-computed : (x : BlinderSession) (s : Slot) (scratch out : List ℕ) (a : Message) {by : ℕ} → by ≡ divisor_of x.terms s scratch
    → computing (Ok 0) (closed_blinder x) no_message.head (over (zeros (scratch_size x.terms)) scratch) []
    (over (mul_mod x.terms.q (get_or a.residues 0 0) (inverse x.terms.q by) ∷ []) out)
    ≡ computed scratch [] out (blinder_determinant_effect x s scratch a)
unfolding blinder_determinant_effect answer div_mod divisor_of mul_mod over message_parts message_layout parts
determinant-computed x s scratch out a e = rw (e, first_taken a.residues) refl
