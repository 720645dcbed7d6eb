-- The words that a line was read into.
--   message-loaded                               what is known of the line, by the tally of its numbers
--   all-residues                                 where there is room for all residues, the words have them
-- Assumes nothing.
use mathlib.Core.Path.{◌≡◌, refl, sym, ap, ◌∙◌}
use mathlib.Core.List.{List, [], ◌∷◌}
use Prim.Native.Nat.{ℕ, zero, suc, ◌+◌, ◌-◌, ◌≤◌, ◌<◌}
use native.Mathlib.Omega.{arith}
use native.Mathlib.Nat.{zero-add}
use lib.ListN.{length, get_or, set, take, drop, length-drop, length-set}
use lib.Seq.{sets, length-sets, ext_get_or, take_all, get_or-set_same, get_or-set_other, get_or-take, get_or-drop, length-take-le}
use Rattle.protocol.specs.declared.Head.{Head}
use Rattle.protocol.specs.Line.{numbers_of, message_from}
use Rattle.std.specs.Prelude.{Some}
use Rattle.decimal.specs.Reading.{numbers_before, tally_of}
use Rattle.decimal.proofs.Entry.{told, before-all}
use Rattle.line.specs.Reading.{Holds}

sets-before : (l : List ℕ) (xs : List ℕ) (k j : ℕ) → j < k → get_or (sets l k xs) j 0 ≡ get_or l j 0
sets-before l [] k j h = refl
sets-before l (x ∷ xs) k j h = sets-before (set l k x) xs (suc k) j (omega arith) ∙ get_or-set_other l k j x 0 (λ e. omega arith)

sets-at : (l xs : List ℕ) (k i : ℕ) → i < length xs → k + i < length l → get_or (sets l k xs) (k + i) 0 ≡ get_or xs i 0
sets-at l [] k i h m = absurd (omega arith)
sets-at l (x ∷ xs) k zero h m =
    let z : k + 0 ≡ k = omega arith in
    let in-l : k < length l = omega arith in
    rw z (sets-before (set l k x) xs (suc k) k (omega arith) ∙ get_or-set_same l k x 0 in-l)
sets-at l (x ∷ xs) k (suc i) h m =
    let z : k + suc i ≡ suc k + i = omega arith in
    let in-l : suc k + i < length (set l k x) = simp length-set (omega arith) in
    rw z (sets-at (set l k x) xs (suc k) i (omega arith) in-l)

at-loaded : (l xs : List ℕ) (i : ℕ) → i < length xs → i < length l → get_or (sets l 0 xs) i 0 ≡ get_or xs i 0
at-loaded l xs i h m = ap (λ (j : ℕ). get_or (sets l 0 xs) j 0) (sym (zero-add i)) ∙ sets-at l xs 0 i h (omega arith)

-- the head stands in front
head-loaded : (l xs : List ℕ) → 7 ≤ length xs → 7 ≤ length l → (message_from (sets l 0 xs)).head ≡ (message_from xs).head
head-loaded l xs h m =
    rw (
      at 0 (omega arith),
      at 1 (omega arith),
      at 2 (omega arith),
      at 3 (omega arith),
      at 4 (omega arith),
      at 5 (omega arith),
      at 6 (omega arith),
    )
  where
    at : (i : ℕ) → i < 7 → get_or (sets l 0 xs) i 0 ≡ get_or xs i 0
    at i k = at-loaded l xs i (omega arith) (omega arith)

-- the residues stand behind it
residues-loaded : (l xs : List ℕ) (j : ℕ) → j + 7 ≤ length xs → j + 7 ≤ length l → take j (drop 7 (sets l 0 xs)) ≡ take j (drop 7 xs)
residues-loaded l xs j h m =
    let here : length (take j (drop 7 (sets l 0 xs))) ≡ j = length-take-le j (drop 7 (sets l 0 xs)) (simp (length-drop, length-sets) (omega arith)) in
    let there : length (take j (drop 7 xs)) ≡ j = length-take-le j (drop 7 xs) (simp length-drop (omega arith)) in
    ext_get_or 0 (take j (drop 7 (sets l 0 xs))) (take j (drop 7 xs)) (here ∙ sym there)
    (λ i k. let few : i < j = omega (arith, here) in
    get_or-take j (drop 7 (sets l 0 xs)) i 0 few ∙ get_or-drop 7 (sets l 0 xs) i 0 ∙ at-loaded l xs (7 + i) (omega arith) (omega arith)
    ∙ sym (get_or-take j (drop 7 xs) i 0 few ∙ get_or-drop 7 xs i 0))

pub message-loaded : (s before after : List ℕ) {n : ℕ} {h : Head} → 7 ≤ length before → after ≡ sets before 0 (numbers_before s) → Some n ≡ tally_of (numbers_of s) → 7 ≤ n
    → h ≡ (message_from after).head → Holds s h (n - 7) after
message-loaded s before after {n} {h} long f w k g =
    let t = told (numbers_of s) n (sym w) in
    let stores : after ≡ sets before 0 t.values = f ∙ ap (sets before 0) (before-all s t.values t.reads) in
    let seven : 7 ≤ length t.values = omega (arith, t.count) in
    let count : length (drop 7 t.values) ≡ n - 7 = length-drop 7 t.values ∙ omega (arith, t.count) in
    record {
      values = t.values;
      reads = t.reads;
      seven = seven;
      head = g ∙ (ap (λ (w : List ℕ). (message_from w).head) stores ∙ head-loaded before t.values seven (omega (arith, long)));
      count = count;
      residues = λ j few room. ap (λ (w : List ℕ). take j (drop 7 w)) stores
          ∙ residues-loaded before t.values j (omega (arith, t.count)) (omega (arith, ap length stores, length-sets before 0 t.values));
    }

pub all-residues : {s words : List ℕ} {h : Head} {n : ℕ} (l : Holds s h n words) → n + 7 ≤ length words → take n (drop 7 words) ≡ drop 7 l.values
all-residues {n = n} l room = l.residues n (omega arith) room ∙ take_all n (drop 7 l.values) (omega (arith, l.count))
