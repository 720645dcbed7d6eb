-- One turn of a loop over raw words.
-- Collects, collects-..  the loop that collects the words kept
-- drawn-filled         their residues are what is drawn
-- Passed, passed-..  the loop that counts the words to read
-- kept_gives, kept_read, all_read  where none of the words is thrown away
-- Assumes nothing.
use mathlib.Core.Path.{◌≡◌, refl, sym, ap, ◌∙◌}
use mathlib.Core.Bool.{Bool, true, false, cond}
use mathlib.Core.List.{List, [], ◌∷◌}
use Prim.Native.Nat.{ℕ, zero, suc, ◌+◌, ◌-◌, ◌*◌, ◌/◌, ◌≤◌, ◌<◌}
use native.Mathlib.Nat.{le_of_suc-le-suc, not-suc-le-zero}
use native.Mathlib.Decide.{ℕ_discrete}
use native.Mathlib.Numerals.{add-one}
use native.Mathlib.Omega.{arith}
use lib.Dec.{ltb}
use lib.ListN.{length, get_or, set, take, drop, length-drop, length-set, drop_of_length-le}
use lib.Seq.{drop-cons, drop_at, length-take-le, get_or-set_same, get_or-set_other, drop-set-lt}
use borrow.Author.Tests.{lt-ltb, le-ltb, ne_eqb, le-leb, lt-leb}
use Rattle.protocol.specs.Drawing.{is_kept, residue_of, residues_of, drawn, words_read}
use Rattle.algebra.specs.Count.{bit}
use Rattle.algebra.specs.Matrix.{tabulate}
use Rattle.algebra.specs.Words.{over}
use Rattle.algebra.proofs.Lists.{length-tabulate}
use Rattle.vectors.specs.Fill.{filled, first_words}
use Rattle.vectors.proofs.Fill.{filled-new, filled-over, filled-length, tabulate-ext, first-words}
use Rattle.std.specs.Prelude.{Some, None}
use Rattle.drawing.specs.Extent.{read_for, residue_at, Kept, Collected}

pub kept_word : (q w below : ℕ) → below ≡ q * (4294967296 / q) → w < below → is_kept q w ≡ true
unfolding is_kept
kept_word q w below e h = lt-ltb w _ (rw e at h)

pub thrown-word : (q w below : ℕ) → below ≡ q * (4294967296 / q) → below ≤ w → is_kept q w ≡ false
unfolding is_kept
thrown-word q w below e h = le-ltb w _ (rw e at h)

pub kept_by : (q w below : ℕ) → below ≡ q * (4294967296 / q) → is_kept q w ≡ ltb w below
unfolding is_kept
kept_by q w below e = rw e

pub bit-few : {n : ℕ} (b : Bool) → n ≡ bit b → n ≤ 1
bit-few true e = omega arith
bit-few false e = omega arith

pub residues-few : (q : ℕ) (ws : List ℕ) → length (residues_of q ws) ≤ length ws
unfolding residues_of
residues-few q [] = omega arith
residues-few q (w ∷ ws) = go (is_kept q w) (residues-few q ws)
  where
    go : (b : Bool) → length (residues_of q ws) ≤ length ws → length (cond b (residue_of q w ∷ residues_of q ws) (residues_of q ws)) ≤ suc (length ws)
    go true h = omega arith
    go false h = omega arith

module _ (q : ℕ) (words : List ℕ) (i : ℕ) (inside : i < length words) where
  pub residues-kept : is_kept q (get_or words i 0) ≡ true → residues_of q (drop i words) ≡ residue_of q (get_or words i 0) ∷ residues_of q (drop (i + 1) words)
  unfolding residues_of
  residues-kept k = rw (add-one, drop-cons words i 0, k)

  pub residues-thrown : is_kept q (get_or words i 0) ≡ false → residues_of q (drop i words) ≡ residues_of q (drop (i + 1) words)
  unfolding residues_of
  residues-thrown k = rw (add-one, drop-cons words i 0, k)

  pub read_kept : (n : ℕ) → 0 < n → is_kept q (get_or words i 0) ≡ true → words_read q n (drop i words) ≡ suc (words_read q (n - 1) (drop (i + 1) words))
  unfolding words_read
  read_kept n h k = rw (add-one, drop-cons words i 0, k, ne_eqb n 0 (λ e. omega arith))

  pub read-thrown : (n : ℕ) → 0 < n → is_kept q (get_or words i 0) ≡ false → words_read q n (drop i words) ≡ suc (words_read q n (drop (i + 1) words))
  unfolding words_read
  read-thrown n h k = rw (add-one, drop-cons words i 0, k, ne_eqb n 0 (λ e. omega arith))

-- ---- collecting: of n kept words j stand at the start of what was d, from the first i words

pub record Collects (q n : ℕ) (words d : List ℕ) (i j : ℕ) (out : List ℕ) : Type 0 where
  pub few : j ≤ n
  pub rest : residues_of q (drop i words) ≡ drop j (residues_of q words)
  pub read : i + words_read q (n - j) (drop i words) ≡ words_read q n words
  pub gives : (t : ℕ) → t < j → residue_at q out t ≡ get_or (residues_of q words) t 0
  pub past : drop n out ≡ drop n d
  pub same : length out ≡ length d

-- what a list holds where it goes on with x
next-at : (r : List ℕ) (j x : ℕ) (l : List ℕ) → drop j r ≡ x ∷ l → (get_or r j 0 ≡ x) × (drop (suc j) r ≡ l) × (j < length r)
next-at [] zero x l e = absurd (let z : ◌≡◌ {A = ℕ} 0 1 = cc in omega arith)
next-at [] (suc j) x l e = absurd (let z : ◌≡◌ {A = ℕ} 0 1 = cc in omega arith)
next-at (y ∷ r) zero x l e = (cc, cc, omega arith)
next-at (y ∷ r) (suc j) x l e = let o = next-at r j x l e in (o.0, o.1, omega (arith, o.2))

pub collects-start : (q n : ℕ) (words d : List ℕ) → Collects q n words d 0 0 d
collects-start q n words d =
    let all : n - 0 ≡ n = omega arith in
    record { few = omega arith; rest = refl; read = rw all (omega arith); gives = λ t h. absurd (omega arith); past = refl; same = refl }

module _ (q n : ℕ) (words d : List ℕ) (i j : ℕ) {out : List ℕ} (s : Collects q n words d i j out) (enough : n ≤ length (residues_of q words)) (more : j < n) where
  -- a word is left
  pub collects-inside : i < length words
  collects-inside =
      omega (arith, ap length s.rest, length-drop j (residues_of q words), residues-few q (drop i words), length-drop i words)

  -- the words before the one that is written
  before : (w t : ℕ) → t < j → residue_at q (set out j w) t ≡ get_or (residues_of q words) t 0
  unfolding residue_at
  before w t h = rw (get_or-set_other out j t w 0 (λ e. omega arith)) (s.gives t h)

  collects-kept : n ≤ length d → is_kept q (get_or words i 0) ≡ true → Collects q n words d (i + 1) (j + 1) (set out j (get_or words i 0))
  unfolding residue_at
  collects-kept fits k =
      let w : ℕ = get_or words i 0 in
      let at = next-at (residues_of q words) j _ _ (sym s.rest ∙ residues-kept q words i collects-inside k) in
      let less : n - j - 1 ≡ n - (j + 1) = omega arith in
      let read = read_kept q words i collects-inside (n - j) (omega arith) k in
      let here : residue_of q (get_or (set out j w) j 0) ≡ get_or (residues_of q words) j 0 =
      rw (get_or-set_same out j w 0 (omega (arith, s.same))) (sym at.0) in
      record {
        few = omega arith;
        rest = rw (add-one j) (sym at.1);
        read = omega (arith, s.read, rw less at read);
        gives = λ t h. elim (ℕ_discrete t j) [ yes e ↦ rw e here | no d ↦ before w t (omega arith) ];
        past = drop-set-lt n out j w more ∙ s.past;
        same = simp length-set s.same;
      }

  collects-thrown : is_kept q (get_or words i 0) ≡ false → Collects q n words d (i + 1) j (set out j (get_or words i 0))
  collects-thrown k = record {
    few = s.few;
    rest = sym (residues-thrown q words i collects-inside k) ∙ s.rest;
    read = omega (arith, s.read, read-thrown q words i collects-inside (n - j) (omega arith) k);
    gives = before (get_or words i 0);
    past = drop-set-lt n out j (get_or words i 0) more ∙ s.past;
    same = simp length-set s.same;
  }

  pub collects-next : n ≤ length d → (b : Bool) → is_kept q (get_or words i 0) ≡ b → Collects q n words d (i + 1) (j + bit b) (set out j (get_or words i 0))
  collects-next fits true k = collects-kept fits k
  collects-next fits false k = let z : j + 0 ≡ j = omega arith in rw z (collects-thrown k)

pub read_none : (q : ℕ) (ws : List ℕ) → words_read q 0 ws ≡ 0
unfolding words_read
read_none q [] = refl
read_none q (w ∷ ws) = refl

module _ (q n : ℕ) (words d : List ℕ) (i j : ℕ) {out : List ℕ} (s : Collects q n words d i j out) (end : n ≤ j) where
  pub collects-read : i ≡ words_read q n words
  collects-read =
      let none : n - j ≡ 0 = omega (arith, s.few) in
      omega (arith, rw none at s.read, read_none q (drop i words))

  pub collected : Collected q n words d out
  collected = record { gives = λ t h. s.gives t (omega arith); past = s.past; same = s.same }

-- ---- residues written over the first n words

filled-past : (f : ℕ → ℕ) (d : List ℕ) (n : ℕ) → drop n (filled n f d) ≡ drop n d
unfolding filled
filled-past f d n = drop_at (tabulate n f) (drop n d) n (length-tabulate n f)

pub drawn-filled : (q n : ℕ) (words d k : List ℕ) (f : ℕ → ℕ) → ((t : ℕ) → t < n → f t ≡ get_or (residues_of q words) t 0) → drop n k ≡ drop n d
    → n ≤ length (residues_of q words) → filled n f k ≡ over (drawn q n words) d
unfolding filled over drawn first_words
drawn-filled q n words d k f gives past enough =
    let r : List ℕ = residues_of q words in
    let e : tabulate n f ≡ take n r = tabulate-ext n f (λ t. get_or r t 0) gives ∙ first-words n r enough in
    rw (e, past, length-take-le n r enough)

-- ---- reading: `due` more residues are needed, after the first i words

pub record Passed (q n : ℕ) (words : List ℕ) (i due : ℕ) : Type 0 where
  pub few : due ≤ n
  pub inside : i ≤ length words
  pub kept : n + length (residues_of q (drop i words)) ≡ due + length (residues_of q words)
  pub read : i + words_read q due (drop i words) ≡ words_read q n words

pub passed_start : (q n : ℕ) (words : List ℕ) → Passed q n words 0 n
passed_start q n words = record { few = omega arith; inside = omega arith; kept = refl; read = omega arith }

module _ (q n : ℕ) (words : List ℕ) (i due : ℕ) (s : Passed q n words i due) where
  pub passed-kept : i < length words → 0 < due → is_kept q (get_or words i 0) ≡ true → Passed q n words (i + 1) (due - 1)
  passed-kept h more k = record {
    few = omega (arith, s.few);
    inside = omega arith;
    kept = omega (arith, s.kept, ap length (residues-kept q words i h k));
    read = omega (arith, s.read, read_kept q words i h due more k);
  }

  pub passed-thrown : i < length words → 0 < due → is_kept q (get_or words i 0) ≡ false → Passed q n words (i + 1) due
  passed-thrown h more k = record {
    few = s.few;
    inside = omega arith;
    kept = omega (arith, s.kept, ap length (residues-thrown q words i h k));
    read = omega (arith, s.read, read-thrown q words i h due more k);
  }

  pub passed-all : due ≤ 0 → Some i ≡ read_for q n words
  unfolding read_for
  passed-all end =
      let none : due ≡ 0 = omega arith in
      let read : i ≡ words_read q n words = omega (arith, rw none at s.read, read_none q (drop i words)) in
      rw (le-leb n (length (residues_of q words)) (omega (arith, s.kept)), read)

  pub passed-dry : i ≡ length words → 0 < due → None ≡ read_for q n words
  unfolding read_for residues_of
  passed-dry end more =
      let over : length words ≤ i = omega arith in
      let none : drop i words ≡ [] = drop_of_length-le words over in
      rw (lt-leb n (length (residues_of q words)) (omega (arith, rw none at s.kept)))

pub kept_gives : (q n : ℕ) (words : List ℕ) → n ≤ length words → Kept q n words → (t : ℕ) → t < n → residue_at q words t ≡ get_or (residues_of q words) t 0
unfolding residue_at residues_of
kept_gives q n [] fits all t h = absurd (omega arith)
kept_gives q zero (w ∷ words) fits all t h = absurd (not-suc-le-zero h)
kept_gives q (suc n) (w ∷ words) fits all zero h = rw (all 0 h)
kept_gives q (suc n) (w ∷ words) fits all (suc t) h =
    rw (all 0 (omega arith)) (kept_gives q n words (le_of_suc-le-suc fits) (λ j l. all (suc j) (omega arith)) t (le_of_suc-le-suc h))

pub kept-collected : (q n : ℕ) (words d : List ℕ) {out : List ℕ} → n ≤ length words → n ≤ length d → Kept q n words
    → out ≡ over (first_words n words) d → Collected q n words d out
unfolding residue_at first_words
kept-collected q n words d {out} fits room all e =
    let f : ℕ → ℕ = λ j. get_or words j 0 in
    let o : out ≡ filled n f d = e ∙ sym (filled-over f d n) in
    record {
      gives = λ j h. rw (o, filled-new f d n j h) (kept_gives q n words fits all j h);
      past = rw o (filled-past f d n);
      same = rw o (filled-length f d n room);
    }

module _ (q n : ℕ) (words : List ℕ) (inside : n ≤ length words) (all : Kept q n words) where
  all-passed : (i : ℕ) → i ≤ n → Passed q n words i (n - i)
  all-passed zero h = let whole : n - 0 ≡ n = omega arith in rw whole (passed_start q n words)
  all-passed (suc i) h =
      let less : n - i - 1 ≡ n - suc i = omega arith in
      rw (add-one i, less) at (passed-kept q n words i (n - i) (all-passed i (omega arith)) (omega arith) (omega arith) (all i h))

  pub kept_read : n ≡ words_read q n words
  kept_read =
      let none : n - n ≡ 0 = omega arith in
      omega (arith, rw none at (all-passed n (omega arith)).read, read_none q (drop n words))

  pub all_read : Some n ≡ read_for q n words
  all_read = passed-all q n words n (n - n) (all-passed n (omega arith)) (omega arith)
