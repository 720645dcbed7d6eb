-- What is printed, stored run by run.
--   few_bytes      the numbers of a slice take at most 11 bytes each
--   named-bytes, named-stored   a text with a line of numbers behind it
--   two_bytes, two-stored       one run behind another
--   refusal-stored, result-stored   what is printed
-- Assumes nothing.
use Prim.Native.Nat.{ℕ, suc, ◌+◌, ◌*◌, ◌^◌, ◌≤◌, ◌<◌}
use mathlib.Core.Path.{◌≡◌, sym, ap, ◌∙◌}
use mathlib.Core.List.{List, [], ◌∷◌, ◌++◌, append_assoc}
use native.Mathlib.Omega.{arith}
use lib.ListN.{length, get_or, length-append}
use lib.Seq.{sets}
use Rattle.algebra.specs.Words.{over}
use Rattle.protocol.specs.declared.Head.{Head}
use Rattle.protocol.specs.declared.Refusal.{Refusal}
use Rattle.protocol.specs.Judge.{refusal_number, refused, done}
use Rattle.protocol.specs.Ascii.{ascii}
use Rattle.protocol.specs.Rehearsal.{printed}
use Rattle.protocol.specs.Line.{line, message_line}
use Rattle.protocol.proofs.LineRoundTrip.{Words}
use Rattle.protocol.proofs.MessageRoundTrip.{line-short}
use Rattle.decimal.specs.Writing.{line_before}
use Rattle.decimal.proofs.Stores.{before-all, before-length, sets_then}
use Rattle.decimal.proofs.Entry.{sets_over}
use Rattle.protocol.specs.Message.{message_with}
use Rattle.rehearse_lines.specs.Prints.{shares_lines, run_of}

words-all : (xs : List ℕ) → ((i : ℕ) → get_or xs i 0 < 2 ^ 32) → Words xs
words-all [] h = tt
words-all (x ∷ xs) h = (h 0, words-all xs (λ i. h (suc i)))

pub few_bytes : (more : ℕ) (xs : List ℕ) → ((i : ℕ) → get_or xs i 0 < 2 ^ 32) → length (line_before more xs) ≤ 11 * length xs
few_bytes more xs h = omega (arith, before-length more xs, line-short xs (words-all xs h))

-- ---- a text with a line of numbers behind it

module _ (name xs : List ℕ) where
  pub named-bytes : length (name ++ line xs) ≡ length name + length (line_before 0 xs)
  named-bytes = length-append name (line xs) ∙ ap (λ (n : ℕ). length name + n) (sym (before-length 0 xs))

  pub named-stored : (out : List ℕ) (at b : ℕ) → b ≡ at + length name → sets (sets out at name) b (line_before 0 xs) ≡ sets out at (name ++ line xs)
  named-stored out at b e = sets_then out at name (line_before 0 xs) b e ∙ ap (λ (l : List ℕ). sets out at (name ++ l)) (before-all xs)

-- ---- one run behind another

module _ (out a b : List ℕ) (at i n : ℕ) (ei : i ≡ at + length a) (en : n ≡ i + length b) where
  pub two_bytes : n ≡ at + length (a ++ b)
  two_bytes = simp length-append (omega arith)

  pub two-stored : (o p : List ℕ) → o ≡ sets out at a → p ≡ sets o i b → p ≡ sets out at (a ++ b)
  two-stored o p e f = f ∙ ap (λ (l : List ℕ). sets l i b) e ∙ sets_then out at a b i ei

-- ---- all that is printed

-- a refusal
pub refusal-stored : (r : Refusal) (out : List ℕ) (n i : ℕ) (after : List ℕ) → n ≡ refusal_number r → i ≡ 0 + length (ascii "refused," ++ line (n ∷ []))
    → i ≤ length out → after ≡ sets out 0 (ascii "refused," ++ line (n ∷ [])) → (i ≡ length (printed (refused r))) × (after ≡ over (printed (refused r)) out)
refusal-stored r out n i after e h few s =
    let same : ascii "refused," ++ line (n ∷ []) ≡ printed (refused r) = ap (λ (x : ℕ). ascii "refused," ++ line (x ∷ [])) e in
    let long : i ≡ length (printed (refused r)) = omega (arith, h, ap length same) in
    (long, s ∙ ap (sets out 0) same ∙ sets_over (printed (refused r)) out (omega arith))

-- a run
module _ (one : Head) (y1 : List ℕ) (two : Head) (x1r1 left right out : List ℕ) where
  abbrev messages : List ℕ
  messages = message_line (message_with one y1) ++ message_line (message_with two x1r1)

  flat : messages ++ shares_lines left right ≡ printed (done (run_of one y1 two x1r1 left right))
  flat = simp append_assoc

  pub result-stored : (i n : ℕ) (o p : List ℕ) → i ≡ length messages → n ≡ i + length (shares_lines left right) → n ≤ length out
      → o ≡ sets out 0 messages → p ≡ sets o i (shares_lines left right)
      → (n ≡ length (printed (done (run_of one y1 two x1r1 left right)))) × (p ≡ over (printed (done (run_of one y1 two x1r1 left right))) out)
  result-stored i n o p ei en few e f =
      let start : i ≡ 0 + length messages = omega arith in
      let long : n ≡ length (messages ++ shares_lines left right) = omega (arith, two_bytes out messages (shares_lines left right) 0 i n start en) in (
        long ∙ ap length flat,
        two-stored out messages (shares_lines left right) 0 i n start en o p e f ∙ sets_over (messages ++ shares_lines left right) out (omega arith)
            ∙ ap (λ (l : List ℕ). over l out) flat,
      )
