-- Drawing in several goes: a residues, and then b more from the words that are left.
-- residues-after  what the words left give
-- read-then       the words read add up
-- next-..         what the words left have room for, give and take
-- drawn-count, coins-part  as many residues are drawn as are asked for, and stand at the start of what they were drawn over
-- dry-few, enough-many  what a reading says of the words
-- Assumes nothing.
use mathlib.Core.Path.{◌≡◌, refl, sym, ap, ◌∙◌}
use mathlib.Core.Bool.{Bool, true, false, cond}
use mathlib.Core.List.{List, [], ◌∷◌}
use Prim.Native.Nat.{ℕ, zero, suc, ◌+◌, ◌-◌, ◌≤◌}
use native.Mathlib.Nat.{le_of_suc-le-suc, zero-add}
use native.Mathlib.Omega.{arith}
use lib.Dec.{eqb, leb, eqb-suc-zero}
use lib.ListN.{length, take, drop, length-drop}
use lib.Seq.{length-take-le, take_at}
use Rattle.algebra.specs.Words.{over}
use Rattle.protocol.specs.Drawing.{is_kept, residue_of, residues_of, drawn, words_read}
use Rattle.std.specs.Prelude.{Some, None}
use Rattle.drawing.specs.Extent.{read_for}

pub residues-after : (q a : ℕ) (ws : List ℕ) → a ≤ length (residues_of q ws) → residues_of q (drop (words_read q a ws) ws) ≡ drop a (residues_of q ws)
unfolding residues_of words_read
residues-after q zero [] h = refl
residues-after q zero (w ∷ ws) h = refl
residues-after q (suc a) [] h = refl
residues-after q (suc a) (w ∷ ws) h = rw (eqb-suc-zero a) (go (is_kept q w) h (λ k l. residues-after q k ws l))
  where
    less : suc a - 1 ≡ a
    less = omega arith

    go : (b : Bool) → suc a ≤ length (cond b (residue_of q w ∷ residues_of q ws) (residues_of q ws))
        → ((k : ℕ) → k ≤ length (residues_of q ws) → residues_of q (drop (words_read q k ws) ws) ≡ drop k (residues_of q ws))
        → residues_of q (drop (words_read q (cond b (suc a - 1) (suc a)) ws) ws) ≡ drop (suc a) (cond b (residue_of q w ∷ residues_of q ws) (residues_of q ws))
    go true l again = rw less (again a (le_of_suc-le-suc l))
    go false l again = again (suc a) l

one_more : (x y z : ℕ) → x ≡ y + z → suc x ≡ suc y + z
one_more x y z e = omega arith

read-then : (q a b : ℕ) (ws : List ℕ) → a ≤ length (residues_of q ws)
    → words_read q (a + b) ws ≡ words_read q a ws + words_read q b (drop (words_read q a ws) ws)
unfolding residues_of words_read
read-then q zero b [] h = refl
read-then q zero b (w ∷ ws) h = ap (λ (n : ℕ). words_read q n (w ∷ ws)) (zero-add b) ∙ sym (zero-add (words_read q b (w ∷ ws)))
read-then q (suc a) b [] h = absurd (omega arith)
read-then q (suc a) b (w ∷ ws) h = rw (same, eqb-suc-zero a, eqb-suc-zero (a + b)) (go (is_kept q w) h (λ k l. read-then q k b ws l))
  where
    less : suc a - 1 ≡ a
    less = omega arith

    same : suc a + b ≡ suc (a + b)
    same = omega arith

    less-too : suc (a + b) - 1 ≡ a + b
    less-too = omega arith

    go : (c : Bool) → suc a ≤ length (cond c (residue_of q w ∷ residues_of q ws) (residues_of q ws))
        → ((k : ℕ) → k ≤ length (residues_of q ws) → words_read q (k + b) ws ≡ words_read q k ws + words_read q b (drop (words_read q k ws) ws))
        → suc (words_read q (cond c (suc (a + b) - 1) (suc (a + b))) ws)
        ≡ suc (words_read q (cond c (suc a - 1) (suc a)) ws) + words_read q b (drop (words_read q (cond c (suc a - 1) (suc a)) ws) ws)
    go true l again = rw (less, less-too) (omega (arith, again a (le_of_suc-le-suc l)))
    go false l again = one_more _ _ _ (rw same at (again (suc a) l))

pub drawn-count : (q n : ℕ) (ws : List ℕ) → n ≤ length (residues_of q ws) → length (drawn q n ws) ≡ n
unfolding drawn
drawn-count q n ws h = length-take-le n (residues_of q ws) h

pub coins-part : (q n : ℕ) (ws l d : List ℕ) → n ≤ length (residues_of q ws) → l ≡ over (drawn q n ws) d → take n l ≡ drawn q n ws
unfolding over
coins-part q n ws l d h e = ap (take n) e ∙ take_at (drawn q n ws) (drop (length (drawn q n ws)) d) n (drawn-count q n ws h)

pub read-few : (q n : ℕ) (ws : List ℕ) → words_read q n ws ≤ length ws
unfolding words_read
read-few q n [] = omega arith
read-few q n (w ∷ ws) = go (eqb n 0) (read-few q (cond (is_kept q w) (n - 1) n) ws)
  where
    go : (b : Bool) {r : ℕ} → r ≤ length ws → cond b 0 (suc r) ≤ suc (length ws)
    go true h = omega arith
    go false h = omega arith

-- ---- the words from i on, where the first i gave a residues

module _ (q a : ℕ) (ws : List ℕ) (i : ℕ) (at : i ≡ words_read q a ws) where
  pub next-inside : i ≤ length ws
  next-inside = omega (arith, read-few q a ws)

  pub next-left : (b : ℕ) → a + b ≤ length (residues_of q ws) → b ≤ length (residues_of q (drop i ws))
  next-left b h =
      let few : a ≤ length (residues_of q ws) = omega arith in
      rw (at, residues-after q a ws few) (omega (arith, length-drop a (residues_of q ws)))

  pub next_drawn : (b : ℕ) → a ≤ length (residues_of q ws) → drawn q b (drop i ws) ≡ take b (drop a (residues_of q ws))
  unfolding drawn
  next_drawn b h = rw (at, residues-after q a ws h)

  pub next-read : (b : ℕ) → a ≤ length (residues_of q ws) → i + words_read q b (drop i ws) ≡ words_read q (a + b) ws
  next-read b h = rw at (sym (read-then q a b ws h))

-- ---- what a reading says

module _ (q n : ℕ) (ws : List ℕ) where
  pub dry-few : read_for q n ws ≡ None → leb n (length (residues_of q ws)) ≡ false
  unfolding read_for
  dry-few e = go (leb n (length (residues_of q ws))) e
    where
      go : (b : Bool) → cond b (Some (words_read q n ws)) None ≡ None → b ≡ false
      go true e = absurd (let z : ◌≡◌ {A = ℕ} 0 1 = cc in omega arith)
      go false e = refl

  pub enough-many : {i : ℕ} → read_for q n ws ≡ Some i → (leb n (length (residues_of q ws)) ≡ true) × (i ≡ words_read q n ws)
  unfolding read_for
  enough-many {i} e = go (leb n (length (residues_of q ws))) e
    where
      go : (b : Bool) → cond b (Some (words_read q n ws)) None ≡ Some i → (b ≡ true) × (i ≡ words_read q n ws)
      go true e = (refl, cc)
      go false e = absurd (let z : ◌≡◌ {A = ℕ} 0 1 = cc in omega arith)
