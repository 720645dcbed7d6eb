-- The tests of a rehearsal in two groups, and what is printed of each outcome.
--   NumbersFit, numbers_fit   what is known where the numbers passed
--   room-x, room-y, taken-fit                    and of words that have room
--   numbers-refused, words-refused, all-passed   what an inner check's answer makes of the whole
--   same-printed                                 what is printed then
--   printed-by, said-printed                     and of the lines
-- Assumes nothing.
use mathlib.Core.Path.{◌≡◌, refl, sym, ap, ap₂, ◌∙◌}
use mathlib.Core.List.{List, [], ◌∷◌}
use Prim.Native.Nat.{ℕ, ◌*◌, ◌≤◌, ◌<◌}
use native.Mathlib.Omega.{arith}
use lib.ListN.{length, take}
use lib.Seq.{length-take-le}
use borrow.Author.Tests.{eqb-true}
use Rattle.algebra.specs.Words.{over}
use Rattle.protocol.specs.declared.Terms.{Terms}
use Rattle.protocol.specs.declared.Refusal.{Refusal}
use Rattle.protocol.specs.Judge.{Test, Judged, refused, done, judge}
use Rattle.protocol.specs.Bounds.{shape_tests, terms_tests, input_tests}
use Rattle.protocol.specs.Drawing.{draw_tests}
use Rattle.protocol.specs.Deal.{draw_size}
use Rattle.protocol.specs.Rehearsal.{Input, Run, request, rehearsal_tests, run, printed, rehearse}
use Rattle.protocol.proofs.Judge.{passed}
use Rattle.judging.specs.InOrder.{only, sorted_by, sorted, judged, after}
use Rattle.judging.proofs.InOrder.{refused-by, accepted-by, after_last}
use Rattle.tape.proofs.Sides.{sides, modulus}
use Rattle.judging.specs.Groups.{modulus_tests}
use Rattle.judging.proofs.Join.{judged-phases, goes-past}
use Rattle.dealer.specs.Sorts.{masks_count}
use Rattle.rehearse_lines.specs.Prints.{MOST}
use Rattle.rehearse.specs.Order.{size_tests, number_tests, residue_tests, word_tests, PrintsAll, Prints}

-- ---- the numbers

pub record NumbersFit (t : Terms) (x y : ℕ) : Type 0 where
  pub some-q : 0 < t.q
  pub few-mk : t.m * t.k ≤ 2048
  pub few-kp : t.k * t.p ≤ 2048
  pub few-mp : t.m * t.p ≤ 1024
  pub count-x : x ≡ t.m * t.k
  pub count-y : y ≡ t.k * t.p

pub numbers_fit : (t : Terms) (x y : ℕ) → judged (number_tests t x y) ≡ done tt → NumbersFit t x y
unfolding number_tests modulus_tests size_tests
numbers_fit t x y e =
    let a = (passed (number_tests t x y) e).0 in
    let s = sides t.m t.k t.p a.1.1.1.0 in
    record {
      some-q = (modulus t.q a.0).some;
      few-mk = s.few-mk;
      few-kp = s.few-kp;
      few-mp = s.few-mp;
      count-x = eqb-true x (t.m * t.k) a.1.1.1.1.1.0;
      count-y = eqb-true y (t.k * t.p) a.1.1.1.1.1.1.0;
    }

-- the counts taken of words that have room for them
module _ (t : Terms) (m n : ℕ) (told : done tt ≡ judged (number_tests t m n)) where
  fit : NumbersFit t m n
  fit = numbers_fit t m n (sym told)

  pub room-x : (x : List ℕ) → length x ≡ 2048 → m ≤ length x
  room-x x long = omega (arith, long, fit.count-x, fit.few-mk)

  pub room-y : (y : List ℕ) → length y ≡ 2048 → n ≤ length y
  room-y y long = omega (arith, long, fit.count-y, fit.few-kp)

  pub taken-fit : (x y : List ℕ) → length x ≡ 2048 → length y ≡ 2048 → judged (number_tests t (length (take m x)) (length (take n y))) ≡ done tt
  taken-fit x y e f =
      ap₂ (λ (a b : ℕ). judged (number_tests t a b)) (length-take-le m x (room-x x e)) (length-take-le n y (room-y y f)) ∙ sym told

-- ---- the tests in two groups

module _ (i : Input) where
  abbrev numbers : List Test
  numbers = number_tests i.terms (length i.x) (length i.y)

  two-phases : judged (rehearsal_tests i) ≡ after (judged numbers) (judged (word_tests i))
  unfolding sorted sorted_by only rehearsal_tests terms_tests shape_tests input_tests draw_tests number_tests size_tests word_tests residue_tests modulus_tests request
  two-phases =
      judged-phases (rehearsal_tests i) (numbers ∷ word_tests i ∷ []) refl
      ∙ ap (after (judged numbers)) (sym (after_last (judged (word_tests i))))

  -- the terms and the counts as they are known before X and Y are
  pub numbers-refused : (t : Terms) (m n : ℕ) {r : Refusal} → t ≡ i.terms → m ≡ length i.x → n ≡ length i.y → refused r ≡ judged (number_tests t m n)
      → judge (rehearsal_tests i) (run i) ≡ refused r
  numbers-refused t m n e f g told =
      refused-by (rehearsal_tests i) (run i)
      (two-phases ∙ ap (λ (j : Judged Unit). after j (judged (word_tests i))) (sym (rw (e, f, g) at told)))

  module _ (fit : judged numbers ≡ done tt) where
    past : judged (rehearsal_tests i) ≡ judged (word_tests i)
    past = two-phases ∙ goes-past (sym fit)

    pub words-refused : {r : Refusal} → refused r ≡ judged (word_tests i) → judge (rehearsal_tests i) (run i) ≡ refused r
    words-refused words = refused-by (rehearsal_tests i) (run i) (past ∙ sym words)

    pub all-passed : done tt ≡ judged (word_tests i) → judged (rehearsal_tests i) ≡ done tt
    all-passed words = past ∙ sym words

  pub judged-run : judged (rehearsal_tests i) ≡ done tt → judge (rehearsal_tests i) (run i) ≡ done (run i)
  judged-run e = accepted-by (rehearsal_tests i) (run i) e

-- ---- what is printed

pub same-printed : {j k : Judged Run} {n : ℕ} {before after : List ℕ} → j ≡ k
    → n ≡ length (printed j) → n ≤ MOST → after ≡ over (printed j) before → Prints k n before after
same-printed {j} {k} {n} {before} {after} e place few contents = record {
  place = place ∙ ap (λ (z : Judged Run). length (printed z)) e;
  few = few;
  contents = contents ∙ ap (λ (z : Judged Run). over (printed z) before) e;
}

-- ---- and of the lines

pub printed-by : (s : List ℕ) (j : Judged Run) (n : ℕ) (before after : List ℕ) → rehearse s ≡ printed j
    → n ≡ length (printed j) → n ≤ MOST → after ≡ over (printed j) before → PrintsAll (rehearse s) n before after
printed-by s j n before after e place few contents =
    record { place = place ∙ ap length (sym e); few = few; contents = contents ∙ ap (λ (b : List ℕ). over b before) (sym e) }

same-input : {t t' : Terms} {x x' y y' d d' l l' : List ℕ} → t ≡ t' → x ≡ x' → y ≡ y' → d ≡ d' → l ≡ l'
    → ◌≡◌ {A = Input} (record { terms = t; x = x; y = y; dealer_words = d; left_words = l })
    (record { terms = t'; x = x'; y = y'; dealer_words = d'; left_words = l' })
same-input e f g h k = rw (e, f, g, h, k)

-- an input whose parts are those of the lines
pub said-printed : (s : List ℕ) (i : Input) (t : Terms) (x y d l : List ℕ) (n : ℕ) (before after : List ℕ)
    → rehearse s ≡ printed (judge (rehearsal_tests i) (run i)) → t ≡ i.terms → x ≡ i.x → y ≡ i.y → d ≡ i.dealer_words → l ≡ i.left_words
    → let made : Input = record { terms = t; x = x; y = y; dealer_words = d; left_words = l } in
    Prints (judge (rehearsal_tests made) (run made)) n before after → PrintsAll (rehearse s) n before after
said-printed s i t x y d l n before after e f g h k m p =
    let made : Input = record { terms = t; x = x; y = y; dealer_words = d; left_words = l } in
    printed-by s (judge (rehearsal_tests made) (run made)) n before after
    (e ∙ ap (λ (z : Input). printed (judge (rehearsal_tests z) (run z))) (sym (same-input f g h k m))) p.place p.few p.contents

-- how many residues the dealer draws
pub draw-size : (i : Input) → masks_count i.terms.m i.terms.k i.terms.p ≡ draw_size (request i)
unfolding draw_size request
draw-size i = refl
