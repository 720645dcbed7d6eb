-- A square matrix that is handed over as bytes.
--   inverse-phases   its tests by its numbers, and then by its words;  matrix-phases: residues, and then an inverse
--   square-known     what is known past its numbers;  matrix-known: of its words
--   words-loaded     the words of its bytes, where they were copied
-- Assumes nothing.
use mathlib.Core.Path.{◌≡◌, refl, sym, ap, ◌∙◌}
use mathlib.Core.Bool.{Bool, true, false, cond}
use mathlib.Core.List.{List, [], ◌∷◌}
use Prim.Native.Nat.{ℕ, ◌*◌, ◌/◌, ◌%◌, ◌≤◌}
use native.Mathlib.Nat.{mul-le-mul}
use native.Mathlib.Omega.{arith}
use lib.Dec.{eqb}
use lib.ListN.{length, take}
use lib.Seq.{take_all}
use borrow.Author.Tests.{leb-true, eqb-true}
use Rattle.algebra.specs.Count.{both}
use Rattle.algebra.specs.Prime.{is_prime}
use Rattle.algebra.specs.Matrix.{Residues}
use Rattle.algebra.specs.Elimination.{regular}
use Rattle.algebra.specs.Words.{over}
use Rattle.algebra.proofs.Tests.{and_left, and_right}
use Rattle.protocol.specs.declared.Refusal.TheVariants.{Modulus, Composite, Size, Residue, Singular}
use Rattle.protocol.specs.Judge.{Test, needs, Judged, refused, done}
use Rattle.protocol.specs.Bounds.{within, largest_modulus, most_unknowns, all_below, field_fits, input_tests}
use Rattle.protocol.specs.System.{regular_tests}
use Rattle.protocol.proofs.Judge.{passed}
use Rattle.protocol.proofs.Residues.{below-residues}
use Rattle.vectors.proofs.Written.{over-part}
use Rattle.judging.specs.InOrder.{in_order, verdict, only, sorted_by, sorted, judged, after}
use Rattle.judging.specs.Groups.{modulus_tests}
use Rattle.judging.proofs.InOrder.{judge-sorted, after_last}
use Rattle.judging.proofs.Join.{judged-phases}
use Rattle.entry.specs.Bytes.{words_of}
use Rattle.entry.specs.Entry.{whole_tests}
use Rattle.entry.proofs.Bytes.{words-length}
use Rattle.sizes.specs.Inverse.{inverse_tests, is_square, square_tests, matrix_tests, Square}

-- ---- phases

-- three tests of one refusal as one
as_one : (d r : Judged Unit) (x y z : Bool) → cond x (cond y (cond z d r) r) r ≡ cond (both x (both y z)) d r
unfolding both
as_one d r true true z = refl
as_one d r true false z = refl
as_one d r false y z = refl

module _ (q n : ℕ) (bytes : List ℕ) where
  -- the tests on numbers, as the definition has them
  abbrev numbers : List Test
  numbers =
      needs Modulus (within 2 largest_modulus q)
      ∷ needs Composite (is_prime q)
      ∷ needs Size (within 1 most_unknowns n)
      ∷ needs Size (eqb (length bytes % 4) 0)
      ∷ needs Size (eqb (length (words_of bytes)) (n * n))
      ∷ []

  numbers-verdict : verdict (sorted numbers) ≡ verdict (sorted (square_tests q n (length bytes)))
  unfolding in_order sorted sorted_by only square_tests modulus_tests field_fits is_square
  numbers-verdict =
      rw (words-length bytes)
      (ap (λ (v : Judged Unit). cond (within 2 largest_modulus q) (cond (is_prime q) v (refused Composite)) (refused Modulus))
      (as_one (done tt) (refused Size) (within 1 most_unknowns n) (eqb (length bytes % 4) 0) (eqb (length bytes / 4) (n * n))))

  numbers-judged : judged numbers ≡ judged (square_tests q n (length bytes))
  numbers-judged = judge-sorted _ tt ∙ (numbers-verdict ∙ sym (judge-sorted _ tt))

  pub inverse-phases : judged (inverse_tests q n bytes) ≡ after (judged (square_tests q n (length bytes))) (judged (matrix_tests q n (words_of bytes)))
  unfolding sorted sorted_by only inverse_tests whole_tests input_tests regular_tests matrix_tests
  inverse-phases =
      let m = matrix_tests q n (words_of bytes) in
      judged-phases _ (numbers ∷ m ∷ []) refl
      ∙ ap (after (judged numbers)) (sym (after_last (judged m)))
      ∙ ap (λ (v : Judged Unit). after v (judged m)) numbers-judged

pub matrix-phases : (q n : ℕ) (words : List ℕ) → judged (matrix_tests q n words)
    ≡ after (judged (needs Residue (all_below q words) ∷ [])) (judged (needs Singular (regular q n words) ∷ []))
unfolding sorted sorted_by only matrix_tests
matrix-phases q n words =
    let a = needs Residue (all_below q words) ∷ [] in
    let b = needs Singular (regular q n words) ∷ [] in
    judged-phases _ (a ∷ b ∷ []) refl ∙ ap (after (judged a)) (sym (after_last (judged b)))

-- ---- what is known

pub square-known : (q n size : ℕ) → judged (square_tests q n size) ≡ done tt → Square q n size
unfolding square_tests modulus_tests field_fits is_square within
square-known q n size e =
    let a = (passed (square_tests q n size) e).0 in
    let small = leb-true q 2147483647 (and_right _ _ a.0) in
    let square = a.1.1.0 in
    let rest = and_right _ _ square in
    let whole = eqb-true (size % 4) 0 (and_left _ _ rest) in
    let count = eqb-true (size / 4) (n * n) (and_right _ _ rest) in
    record {
      prime = a.1.0;
      small = omega arith;
      few = leb-true n 16 (and_right _ _ (and_left _ _ square));
      whole = omega arith;
    }

pub matrix-known : (q n : ℕ) (words : List ℕ) → length words ≡ n * n → judged (needs Residue (all_below q words) ∷ []) ≡ done tt → Residues q (n * n) words
matrix-known q n words size e = below-residues size (passed (needs Residue (all_below q words) ∷ []) e).0.0

pub square-few : (n : ℕ) → n ≤ 16 → n * n ≤ 256
square-few n h = mul-le-mul {n₁ = n} {m₁ = n} {n₂ = 16} {m₂ = 16} h h

-- ---- words

pub words-loaded : (n nn : ℕ) (bytes zeros : List ℕ) {out : List ℕ} → nn ≡ n * n → length bytes ≡ n * n * 4 → out ≡ over (take nn (words_of bytes)) zeros
    → take nn out ≡ words_of bytes
words-loaded n nn bytes zeros {out} e size loaded =
    let count : length (words_of bytes) ≡ nn = words-length bytes ∙ omega arith in
    let all : take nn (words_of bytes) ≡ words_of bytes = take_all nn (words_of bytes) (omega arith) in
    over-part nn (words_of bytes) zeros (loaded ∙ ap (λ (l : List ℕ). over l zeros) all) count

pub words_count : (n : ℕ) (bytes : List ℕ) → length bytes ≡ n * n * 4 → length (words_of bytes) ≡ n * n
words_count n bytes size = words-length bytes ∙ omega arith
