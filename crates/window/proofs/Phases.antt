-- The tests of a window's numbers are made first, and then those of the days that are used: what either comes to.
--   Early, words-early, bytes-early          why the numbers may be first
--   known, taken, handed                     past a check of the numbers, whatever tests an entry has of its own
--   words-known, words-taken, words-handed   past a check of the numbers: what is known, what is left to judge; a refusal
--   bytes-known, bytes-taken, bytes-handed   the same on bytes
--   days-refused, days-taken                 of the days that are used;  three-below: of three words
--   flags-phases, flag-words, all-flags     a run of flags
-- Assumes nothing.
use mathlib.Core.Path.{◌≡◌, refl, sym, ap, ◌∙◌}
use mathlib.Core.Bool.{Bool, true, false}
use mathlib.Core.List.{List, [], ◌∷◌, ◌++◌}
use Prim.Native.Nat.{ℕ, ◌*◌, ◌/◌, ◌<◌, ◌≤◌}
use native.Mathlib.Omega.{arith}
use lib.ListN.{length, take}
use lib.Seq.{take_all}
use borrow.Author.Tests.{leb-true, ltb-true}
use Rattle.algebra.proofs.Tests.{and_left, and_right}
use Rattle.protocol.specs.declared.Refusal.{Refusal}
use Rattle.protocol.specs.declared.Refusal.TheVariants.{Modulus, Size, Residue}
use Rattle.protocol.specs.Judge.{Test, needs, Judged, refused, done, judge, reply_of}
use Rattle.protocol.specs.Bounds.{largest_modulus, within, all_below}
use Rattle.protocol.specs.Window.{window_fits, window_tests, share_tests, flags_tests, flags_fit}
use Rattle.protocol.proofs.Judge.{all_split, accepts, passed, one-fails}
use Rattle.protocol.proofs.Window.{Fits, fits-known, positive}
use Rattle.std.specs.Prelude.{Result, IsErrAnd}
use Rattle.std.proofs.lemmas.Result.{err_from_is_err_and}
use Rattle.field.specs.Field.{residue_reply}
use Rattle.judging.specs.InOrder.{only, sorted_by, sorted, judged, after}
use Rattle.judging.proofs.InOrder.{after_last}
use Rattle.judging.proofs.Join.{sorted_phases, judged-phases}
use Rattle.local.specs.Seen.{on_done}
use Rattle.local.proofs.Outcomes.{by-verdict, also-judge}
use Rattle.entry.specs.Bytes.{words_of}
use Rattle.entry.specs.Steps.{also}
use Rattle.entry.specs.Entry.{whole_tests}
use Rattle.entry.proofs.Bytes.{words-length}
use Rattle.window.specs.Entries.{flags_fit_on, flags_tests_on}

-- ---- two phases

-- own: the tests of an entry by itself, none for a call on words
module _ (own : List Test) (q run first w : ℕ) where
  -- none of the numbers' tests comes after one of the days, so that they may be made first
  abbrev pub Early : Type 0
  Early = (used : List ℕ) → sorted (own ++ (window_tests q run first w ++ share_tests q used))
      ≡ sorted_phases ((own ++ window_tests q run first w) ∷ share_tests q used ∷ [])

  phases : Early → (used : List ℕ) (v : ℕ) → judge (own ++ (window_tests q run first w ++ share_tests q used)) v
      ≡ on_done (λ (u : Unit). v) (after (judged (own ++ window_tests q run first w)) (judged (share_tests q used)))
  phases early used v =
      let numbers = own ++ window_tests q run first w in
      let days = share_tests q used in
      by-verdict (own ++ (window_tests q run first w ++ days)) v
      ∙ ap (on_done (λ (u : Unit). v)) (judged-phases _ (numbers ∷ days ∷ []) (early used) ∙ ap (after (judged numbers)) (sym (after_last (judged days))))

pub words-early : (q run first w : ℕ) → Early [] q run first w
unfolding sorted sorted_by only window_tests share_tests
words-early q run first w used = refl

pub bytes-early : (n q run first w : ℕ) → Early (whole_tests n) q run first w
unfolding sorted sorted_by only window_tests share_tests whole_tests
bytes-early n q run first w used = refl

-- ---- the days that are used

pub days-refused : (q : ℕ) (used : List ℕ) (v : ℕ) → all_below q used ≡ false → reply_of 0 (judge (share_tests q used) v) ≡ record { number = 8; values = 0 }
unfolding share_tests
days-refused q used v e = rw e (ap (reply_of 0) (one-fails Residue v))

pub days-taken : (q : ℕ) (used : List ℕ) (v : ℕ) → all_below q used ≡ true → reply_of 0 (judge (share_tests q used) v) ≡ record { number = 0; values = v }
unfolding share_tests
days-taken q used v e = ap (reply_of 0) (accepts _ v (e, tt))

pub three-below : (q a b c : ℕ) → all_below q (a ∷ b ∷ c ∷ []) ≡ true → (a < q) × (b < q) × (c < q)
unfolding all_below
three-below q a b c e =
    let rest = and_right _ _ e in
    (ltb-true a q (and_left _ _ e), ltb-true b q (and_left _ _ rest), ltb-true c q (and_left _ _ (and_right _ _ rest)))

-- ---- a check of the numbers, which was told by `fits` whether the window does

-- what is known where it passed
pub record Known (q run first w : ℕ) : Type 0 where
  pub positive-q : 0 < q
  pub small-q : q < 2147483648
  pub fits : Fits q run first w

small : {q : ℕ} → within 2 largest_modulus q ≡ true → q < 2147483648
unfolding within
small {q} e = let most = leb-true q 2147483647 (and_right _ _ e) in omega arith

module _ (own : List Test) {fits : Bool} (q run first w : ℕ) (early : Early own q run first w) (is : fits ≡ window_fits q run first w) where
  checks : {j : Judged Unit} → j ≡ judged (own ++ (needs Modulus (within 2 largest_modulus q) ∷ needs Size fits ∷ []))
      → j ≡ judged (own ++ window_tests q run first w)
  unfolding window_tests
  checks e = e ∙ ap (λ (b : Bool). judged (own ++ (needs Modulus (within 2 largest_modulus q) ∷ needs Size b ∷ []))) is

  pub known : done tt ≡ judged (own ++ (needs Modulus (within 2 largest_modulus q) ∷ needs Size fits ∷ [])) → Known q run first w
  unfolding window_tests
  known e =
      let a = (all_split own (window_tests q run first w) (passed (own ++ window_tests q run first w) (sym (checks e))).0).1 in
      record { positive-q = positive a.0; small-q = small a.0; fits = fits-known q run first w a.1.0 }

  -- what is left to judge
  pub taken : (used : List ℕ) (v : ℕ) → done tt ≡ judged (own ++ (needs Modulus (within 2 largest_modulus q) ∷ needs Size fits ∷ []))
      → judge (own ++ (window_tests q run first w ++ share_tests q used)) v ≡ judge (share_tests q used) v
  taken used v e =
      phases own q run first w early used v
      ∙ (ap (λ (j : Judged Unit). on_done (λ (u : Unit). v) (after j (judged (share_tests q used)))) (sym (checks e)) ∙ sym (by-verdict (share_tests q used) v))

  pub handed : (used : List ℕ) (v : ℕ) {r : Refusal} → refused r ≡ judged (own ++ (needs Modulus (within 2 largest_modulus q) ∷ needs Size fits ∷ []))
      → judge (own ++ (window_tests q run first w ++ share_tests q used)) v ≡ refused r
  handed used v e =
      phases own q run first w early used v
      ∙ ap (λ (j : Judged Unit). on_done (λ (u : Unit). v) (after j (judged (share_tests q used)))) (sym (checks e))

-- a refusal that was handed on
tells : (x : Result ℕ Refusal) {r : Refusal} {j : Judged ℕ} → IsErrAnd x (λ s. s ≡ r) → j ≡ refused r → residue_reply x ≡ reply_of 0 j
tells x gives e = let p = err_from_is_err_and x gives in rw (p.1, p.2, e) refl

-- a call on words
module _ {fits : Bool} (q run first w : ℕ) (is : fits ≡ window_fits q run first w) where
  pub words-known : done tt ≡ judged (needs Modulus (within 2 largest_modulus q) ∷ needs Size fits ∷ []) → Known q run first w
  words-known = known [] q run first w (words-early q run first w) is

  pub words-taken : (used : List ℕ) (v : ℕ) → done tt ≡ judged (needs Modulus (within 2 largest_modulus q) ∷ needs Size fits ∷ [])
      → reply_of 0 (judge (share_tests q used) v) ≡ reply_of 0 (judge (window_tests q run first w ++ share_tests q used) v)
  words-taken used v e = sym (ap (reply_of 0) (taken [] q run first w (words-early q run first w) is used v e))

  pub words-handed : (used : List ℕ) (v : ℕ) (x : Result ℕ Refusal) {r : Refusal} → IsErrAnd x (λ s. s ≡ r)
      → refused r ≡ judged (needs Modulus (within 2 largest_modulus q) ∷ needs Size fits ∷ [])
      → residue_reply x ≡ reply_of 0 (judge (window_tests q run first w ++ share_tests q used) v)
  words-handed used v x gives e = tells x gives (handed [] q run first w (words-early q run first w) is used v e)

-- a call on bytes, whose words the code counts by their length
pub by-words : (q first w : ℕ) (bytes : List ℕ) → window_fits q (length bytes / 4) first w ≡ window_fits q (length (words_of bytes)) first w
by-words q first w bytes = ap (λ (run : ℕ). window_fits q run first w) (sym (words-length bytes))

module _ {fits : Bool} (q first w : ℕ) (bytes : List ℕ) (is : fits ≡ window_fits q (length bytes / 4) first w) where
  pub bytes-known : done tt ≡ judged (whole_tests (length bytes) ++ (needs Modulus (within 2 largest_modulus q) ∷ needs Size fits ∷ []))
      → Known q (length bytes / 4) first w
  bytes-known = known (whole_tests (length bytes)) q (length bytes / 4) first w (bytes-early (length bytes) q (length bytes / 4) first w) is

  pub bytes-taken : (used : List ℕ) (v : ℕ)
      → done tt ≡ judged (whole_tests (length bytes) ++ (needs Modulus (within 2 largest_modulus q) ∷ needs Size fits ∷ []))
      → reply_of 0 (judge (share_tests q used) v)
      ≡ reply_of 0 (also (whole_tests (length bytes)) (judge (window_tests q (length (words_of bytes)) first w ++ share_tests q used) v))
  bytes-taken used v e =
      let run = length (words_of bytes) in
      let early = bytes-early (length bytes) q run first w in
      sym (ap (reply_of 0) (also-judge _ _ _ ∙ taken (whole_tests (length bytes)) q run first w early (is ∙ by-words q first w bytes) used v e))

  pub bytes-handed : (used : List ℕ) (v : ℕ) (x : Result ℕ Refusal) {r : Refusal} → IsErrAnd x (λ s. s ≡ r)
      → refused r ≡ judged (whole_tests (length bytes) ++ (needs Modulus (within 2 largest_modulus q) ∷ needs Size fits ∷ []))
      → residue_reply x
      ≡ reply_of 0 (also (whole_tests (length bytes)) (judge (window_tests q (length (words_of bytes)) first w ++ share_tests q used) v))
  bytes-handed used v x gives e =
      let run = length (words_of bytes) in
      let early = bytes-early (length bytes) q run first w in
      tells x gives (also-judge _ _ _ ∙ handed (whole_tests (length bytes)) q run first w early (is ∙ by-words q first w bytes) used v e)

-- ---- flags

pub flags-phases : (bytes : List ℕ) → flags_fit_on bytes
    ≡ after (judged (flags_tests_on (length bytes))) (judged (needs Residue (all_below 2 (words_of bytes)) ∷ []))
unfolding flags_fit_on flags_fit flags_tests flags_tests_on whole_tests sorted sorted_by only
flags-phases bytes =
    let days = needs Residue (all_below 2 (words_of bytes)) ∷ [] in
    let size = flags_tests_on (length bytes) in
    also-judge (whole_tests (length bytes)) (flags_tests (words_of bytes)) tt
    ∙ rw (words-length bytes) (judged-phases _ (size ∷ days ∷ []) refl ∙ ap (after (judged size)) (sym (after_last (judged days))))

-- how many words the bytes are
pub flag-words : (size : ℕ) → judged (flags_tests_on size) ≡ done tt → (size / 4 ≤ 2048) × (size / 4 * 4 ≤ size)
unfolding flags_tests_on whole_tests within
flag-words size e =
    let a = (passed (flags_tests_on size) e).0 in
    (leb-true (size / 4) 2048 (and_right _ _ a.1.0), omega arith)

-- all of them
pub all-flags : (bytes : List ℕ) → judged (needs Residue (all_below 2 (take (length bytes / 4) (words_of bytes))) ∷ [])
    ≡ judged (needs Residue (all_below 2 (words_of bytes)) ∷ [])
all-flags bytes =
    ap (λ (l : List ℕ). judged (needs Residue (all_below 2 l) ∷ [])) (take_all (length bytes / 4) (words_of bytes) (omega (arith, words-length bytes)))
