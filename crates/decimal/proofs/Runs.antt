-- A run of digits, digit by digit: `run-start`, `run-turn` for each step, `run_end` after nine; and what the ends of spell show.
-- Assumes nothing.
use Prim.Native.Nat.{ℕ, zero, suc, ◌+◌, ◌*◌, ◌-◌, ◌^◌, ◌≤◌, ◌<◌}
use mathlib.Core.Path.{◌≡◌, ap, ◌∙◌}
use mathlib.Core.List.{List}
use mathlib.Core.Logic.{◌⊎◌, inl, inr, ⊎_elim}
use native.Mathlib.Omega.{arith}
use native.Mathlib.Nat.{pow-suc, pow-le-pow_right}
use native.Mathlib.Numerals.{add-one}
use native.Mathlib.Decide.{dec_lt}
use lib.ListN.{length, get_or, drop}
use borrow.Author.Tests.{ne_eqb, lt-ltb, le-ltb}
use Rattle.protocol.specs.declared.Numeral.{Numeral}
use Rattle.protocol.specs.declared.Numeral.TheVariants.{Empty, Value, Wrong}
use Rattle.protocol.specs.Line.{with_byte, end_byte}
use Rattle.protocol.proofs.DecimalLaws.{of-digit}
use Rattle.decimal.specs.declared.Run.{Run}
use Rattle.std.specs.Prelude.{Option, Some, None}
use Rattle.decimal.specs.declared.Found.{Found}
use Rattle.decimal.specs.Reading.{fault, spell, Ended, grow, seen, Stops, Ran, Finds}
use Rattle.decimal.proofs.Bytes.{NoDigit, not_taken, spell-byte, spell-wrong}

-- ---- a value that may have more than 32 bits

pub seen-small : (v : ℕ) → v < 2 ^ 32 → seen v ≡ Value v
unfolding seen
seen-small v h = rw (lt-ltb v (2 ^ 32) h)

pub seen-large : (v : ℕ) → 2 ^ 32 ≤ v → seen v ≡ Wrong
unfolding seen
seen-large v h = rw (le-ltb v (2 ^ 32) h)

seen-digit : (v b : ℕ) → 1 ≤ v → 48 ≤ b → b ≤ 57 → Dec (v < 2 ^ 32) → with_byte (seen v) b ≡ seen (v * 10 + (b - 48))
unfolding seen
seen-digit v b p l h (yes k) =
    let z : v ≡ 0 → ⊥ = λ e. omega arith in
    of-digit (seen v) b l h ∙ rw (lt-ltb v (2 ^ 32) k, ne_eqb v 0 z)
seen-digit v b p l h (no k) =
    let w : 2 ^ 32 ≤ v = omega arith in
    let x : 2 ^ 32 ≤ v * 10 + (b - 48) = omega arith in
    of-digit (seen v) b l h ∙ rw (le-ltb v (2 ^ 32) w, le-ltb (v * 10 + (b - 48)) (2 ^ 32) x)

-- ---- the bytes of a line

end_byte-low : (n : ℕ) → end_byte n < 48
end_byte-low zero = omega arith
end_byte-low (suc n) = omega arith

-- a digit is not the last byte, and ends no number
pub digit-inside : (s : List ℕ) (i : ℕ) → Ended s → i < length s → 48 ≤ get_or s i 0 → i + 1 < length s
digit-inside s i e h l = by_place (dec_lt (i + 1) (length s))
  where
    by_place : Dec (i + 1 < length s) → i + 1 < length s
    by_place (yes k) = k
    by_place (no k) =
        let p : i ≡ length s - 1 = omega arith in
        absurd (omega (arith, ap (λ (j : ℕ). get_or s j 0) p))

pub digit-read : (f : Numeral) (s : List ℕ) (i : ℕ) → i < length s → 48 ≤ get_or s i 0 → spell f (drop i s) ≡ spell (with_byte f (get_or s i 0)) (drop (i + 1) s)
digit-read f s i h l = spell-byte f s i h (λ p. omega (arith, end_byte-low (length s - (i + 1))))

-- ---- a run

pub record Running (s : List ℕ) (r t : Run) (j : ℕ) : Type 0 where
  pub reads : spell (Value r.value) (drop r.next s) ≡ spell (seen t.value) (drop t.next s)
  pub inside : t.next < length s
  pub onward : r.next ≤ t.next
  pub some : 1 ≤ t.value
  pub small : t.value < 10 ^ (j + 1)
  -- as many digits as steps, or no digit is left
  pub large : (10 ^ j ≤ t.value) ⊎ NoDigit (get_or s t.next 0)

pub run-start : (s : List ℕ) (r : Run) → r.next < length s → 1 ≤ r.value → r.value < 10 → Running s r r 0
run-start s r h p q = record {
  reads = rw (seen-small r.value (omega arith));
  inside = h;
  onward = omega arith;
  some = p;
  small = omega arith;
  large = inl (omega arith);
}

module _ (s : List ℕ) (r t : Run) where
  -- the run stays as it is
  same-run : (j : ℕ) → Running s r t j → NoDigit (get_or s t.next 0) → Running s r t (j + 1)
  same-run j a d = record {
    reads = a.reads;
    inside = a.inside;
    onward = a.onward;
    some = a.some;
    small = omega (arith, a.small, pow-le-pow_right {n = 10} (omega arith) {i = j + 1} {j = j + 1 + 1} (omega arith));
    large = inr d;
  }

  -- the run takes a digit
  more-run : (j : ℕ) → Ended s → Running s r t j → 48 ≤ get_or s t.next 0 → get_or s t.next 0 ≤ 57
      → Running s r (record { value = t.value * 10 + (get_or s t.next 0 - 48); next = t.next + 1 }) (j + 1)
  more-run j e a l h =
      let b = get_or s t.next 0 in
      let p1 : 10 ^ (j + 1) ≡ 10 ^ j * 10 = rw add-one (pow-suc 10 j) in
      let p2 : 10 ^ (j + 1 + 1) ≡ 10 ^ (j + 1) * 10 = rw (add-one (j + 1)) (pow-suc 10 (j + 1)) in
      record {
        reads = a.reads ∙ digit-read (seen t.value) s t.next a.inside l
            ∙ ap (λ (f : Numeral). spell f (drop (t.next + 1) s)) (seen-digit t.value b a.some l h (dec_lt _ _));
        inside = digit-inside s t.next e a.inside l;
        onward = omega (arith, a.onward);
        some = omega (arith, a.some);
        small = omega (arith, a.small, p2);
        large = inl (⊎_elim (λ k. omega (arith, p1)) (⊎_elim (λ k. absurd (omega arith)) (λ k. absurd (omega arith))) a.large);
      }

  pub run-turn : (j : ℕ) → Ended s → Running s r t j → Running s r (grow s t) (j + 1)
  unfolding grow
  run-turn j e a = by-low (dec_lt (get_or s t.next 0) 48)
    where
      by_high : 48 ≤ get_or s t.next 0 → Dec (57 < get_or s t.next 0) → Running s r (grow s t) (j + 1)
      by_high l (yes h) = rw (le-ltb (get_or s t.next 0) 48 l, lt-ltb 57 (get_or s t.next 0) h) (same-run j a (inr h))
      by_high l (no h) =
          let k : get_or s t.next 0 ≤ 57 = omega arith in
          rw (le-ltb (get_or s t.next 0) 48 l, le-ltb 57 (get_or s t.next 0) k) (more-run j e a l k)

      by-low : Dec (get_or s t.next 0 < 48) → Running s r (grow s t) (j + 1)
      by-low (yes l) = rw (lt-ltb (get_or s t.next 0) 48 l) (same-run j a (inl l))
      by-low (no l) = by_high (omega arith) (dec_lt 57 (get_or s t.next 0))

  -- no digit goes behind ten
  pub run_end : Running s r t 9 → Ran s r t
  run_end a = record { reads = a.reads; inside = a.inside; onward = a.onward; stops = ⊎_elim full (not_taken (seen t.value) (get_or s t.next 0)) a.large }
    where
      by-digit : 10 ^ 9 ≤ t.value → Dec (get_or s t.next 0 < 48) → Dec (57 < get_or s t.next 0) → Stops s (seen t.value) t.next
      by-digit k (yes l) h = not_taken (seen t.value) (get_or s t.next 0) (inl l)
      by-digit k (no l) (yes h) = not_taken (seen t.value) (get_or s t.next 0) (inr h)
      by-digit k (no l) (no h) =
          seen-digit t.value (get_or s t.next 0) a.some (omega arith) (omega arith) (dec_lt t.value (2 ^ 32))
          ∙ seen-large (t.value * 10 + (get_or s t.next 0 - 48)) (omega arith)

      full : 10 ^ 9 ≤ t.value → Stops s (seen t.value) t.next
      full k = by-digit k (dec_lt (get_or s t.next 0) 48) (dec_lt 57 (get_or s t.next 0))

-- ---- spell that have been found

-- behind a zero no digit stands
pub zero-stops : (s : List ℕ) (i : ℕ) → Stops s (Value 0) i
zero-stops s i = go (dec_lt (get_or s i 0) 48) (dec_lt 57 (get_or s i 0))
  where
    go : Dec (get_or s i 0 < 48) → Dec (57 < get_or s i 0) → Stops s (Value 0) i
    go (yes l) h = not_taken (Value 0) (get_or s i 0) (inl l)
    go (no l) (yes h) = not_taken (Value 0) (get_or s i 0) (inr h)
    go (no l) (no h) = of-digit (Value 0) (get_or s i 0) (omega arith) (omega arith)

-- the first byte of a number
pub first-digit : (s : List ℕ) (i : ℕ) → i < length s → 48 ≤ get_or s i 0 → get_or s i 0 ≤ 57 → spell Empty (drop i s) ≡ spell (Value (get_or s i 0 - 48)) (drop (i + 1) s)
first-digit s i h l k = digit-read Empty s i h l ∙ ap (λ (f : Numeral). spell f (drop (i + 1) s)) (of-digit Empty (get_or s i 0) l k)

pub finds-first : (f : Numeral) (s : List ℕ) (i j : ℕ) (r : Option Found) → spell Empty (drop i s) ≡ spell f (drop j s) → i ≤ j → Finds f s j r → Finds Empty s i r
finds-first f s i j (Some n) e h a = (e ∙ a.0, omega (arith, a.1), a.2)
finds-first f s i j None e h a = e ∙ a

pub too_large : (s : List ℕ) (r t : Run) → Ran s r t → 2 ^ 32 ≤ t.value → spell (Value r.value) (drop r.next s) ≡ fault
too_large s r t a h = a.reads ∙ ap (λ (f : Numeral). spell f (drop t.next s)) (seen-large t.value h) ∙ spell-wrong (drop t.next s)
