-- The tests of a rehearsal, in the groups in which the code makes them, and what the code leaves. Assumes nothing.
--   input_of                              what lent words say
--   size_tests, number_tests               protocol's rehearsal_tests on numbers
--   residue_tests, word_tests              and on words
--   PrintsAll, Prints                    what is printed stands at the start of the bytes that were lent
use Rattle.std.specs.Prelude.{◌≡◌, List, [], ◌∷◌, ◌++◌, ℕ, ◌*◌, ◌≤◌, eqb, leb, length}
use Rattle.algebra.specs.Words.{over}
use Rattle.protocol.specs.declared.Terms.{Terms}
use Rattle.protocol.specs.declared.Refusal.TheVariants.{Size, Residue}
use Rattle.protocol.specs.Judge.{Test, needs, Judged}
use Rattle.protocol.specs.Bounds.{product, sides_fit, all_below}
use Rattle.protocol.specs.Drawing.{draw_tests}
use Rattle.protocol.specs.Deal.{draw_size}
use Rattle.protocol.specs.Rehearsal.{Input, request, Run, printed}
use Rattle.judging.specs.Groups.{modulus_tests}
use Rattle.rehearse_lines.specs.Prints.{MOST}
use Rattle.rehearse.specs.declared.Input.{Input as Lent}

abbrev pub input_of : Lent → Input
input_of i = record { terms = i.terms; x = i.x.now; y = i.y.now; dealer_words = i.dealer.now; left_words = i.left.now }

-- the ids, the sides, and the counts of X and Y
unfoldable pub size_tests : Terms → (x y : ℕ) → List Test
size_tests t x y =
    needs Size (leb 1 t.session.0)
    ∷ needs Size (sides_fit product t.m t.k t.p)
    ∷ needs Size (leb 1 t.tape.0)
    ∷ needs Size (eqb x (t.m * t.k))
    ∷ needs Size (eqb y (t.k * t.p))
    ∷ []

unfoldable pub number_tests : Terms → (x y : ℕ) → List Test
number_tests t x y = modulus_tests product t.q ++ size_tests t x y

-- the residues, and enough raw words for both
unfoldable pub residue_tests : (q : ℕ) (x y : List ℕ) → List Test
residue_tests q x y = needs Residue (all_below q x) ∷ needs Residue (all_below q y) ∷ []

unfoldable pub word_tests : Input → List Test
word_tests i =
    let t = i.terms in
    residue_tests t.q i.x i.y ++ (draw_tests t.q (draw_size (request i)) i.dealer_words ++ draw_tests t.q (t.m * t.p) i.left_words)

-- n bytes over the start of what was there
pub record PrintsAll (bytes : List ℕ) (n : ℕ) (before after : List ℕ) : Type 0 where
  pub place : n ≡ length bytes
  pub few : n ≤ MOST
  pub contents : after ≡ over bytes before

abbrev pub Prints : Judged Run → (n : ℕ) (before after : List ℕ) → Type 0
Prints j n before after = PrintsAll (printed j) n before after
