-- The numbers of a line, one after the other: `scan-start`, `scan-turn`, and at the end `scan-done` or `scan-wrong`.
-- Assumes nothing.
use Prim.Native.Nat.{ℕ, ◌+◌, ◌-◌, ◌≤◌, ◌<◌}
use mathlib.Core.Path.{◌≡◌, refl, sym, ap, ap₂, ◌∙◌}
use mathlib.Core.Bool.{Bool, true, false, cond}
use mathlib.Core.List.{List, [], ◌∷◌, ◌++◌}
use native.Mathlib.Omega.{arith}
use lib.Dec.{ltb}
use lib.ListN.{length, set, drop, length-append, length-drop, drop_of_length-le}
use borrow.Author.Tests.{ltb-true, ltb-false}
use lib.Seq.{sets, length-sets, drop-append-le}
use Rattle.protocol.specs.declared.Numeral.TheVariants.{Empty}
use Rattle.std.specs.Prelude.{Some, None}
use Rattle.decimal.specs.Reading.{Spelled, fault, with_number, spell, tally_in, set_behind}
use Rattle.decimal.proofs.Bytes.{spell-none}
use Rattle.decimal.proofs.Stores.{sets-append}

abbrev all : List ℕ → Spelled → Spelled
all [] x = x
all (v ∷ vs) x = with_number v (all vs x)

all_more : (vs : List ℕ) (v : ℕ) (x : Spelled) → all (vs ++ (v ∷ [])) x ≡ all vs (with_number v x)
all_more [] v x = refl
all_more (a ∷ vs) v x = ap (with_number a) (all_more vs v x)

all-last : (vs : List ℕ) (w : Bool) → all vs (record { values = []; whole = w }) ≡ record { values = vs; whole = w }
all-last [] w = refl
all-last (v ∷ vs) w = ap (with_number v) (all-last vs w)

-- one number more, stored where it is not among the first `skip`
behind_more : (skip : ℕ) (before past : List ℕ) (v : ℕ) → set_behind skip (sets before 0 (drop skip past)) (length past) v ≡ sets before 0 (drop skip (past ++ (v ∷ [])))
unfolding set_behind
behind_more skip before past v = go (ltb (length past) skip) refl
  where
    go : (b : Bool) → ltb (length past) skip ≡ b
        → cond b (sets before 0 (drop skip past)) (set (sets before 0 (drop skip past)) (length past - skip) v) ≡ sets before 0 (drop skip (past ++ (v ∷ [])))
    go true e =
        let h = ltb-true (length past) skip e in
        let l : length (past ++ (v ∷ [])) ≤ skip = omega (arith, length-append past (v ∷ [])) in
        ap (sets before 0) (drop_of_length-le past {i = skip} (omega arith) ∙ sym (drop_of_length-le (past ++ (v ∷ [])) l))
    go false e =
        let h : skip ≤ length past = ltb-false (length past) skip e in
        let p : length past - skip ≡ 0 + length (drop skip past) = omega (arith, length-drop skip past) in
        ap (λ (k : ℕ). set (sets before 0 (drop skip past)) k v) p
        ∙ sym (sets-append before 0 (drop skip past) (v ∷ []))
        ∙ ap (sets before 0) (sym (drop-append-le skip past (v ∷ []) h))

-- n numbers have been read up to the byte at i, and those behind the first `skip` stored
pub record Scanning (skip : ℕ) (s before after : List ℕ) (n i : ℕ) : Type 0 where
  pub past : List ℕ
  pub reads : spell Empty s ≡ all past (spell Empty (drop i s))
  pub count : n ≡ length past
  pub stores : after ≡ sets before 0 (drop skip past)
  pub inside : i ≤ length s
  pub few : n ≤ i

pub scan-start : (skip : ℕ) (s out : List ℕ) → Scanning skip s out out 0 0
scan-start skip s out = record {
  past = [];
  reads = refl;
  count = refl;
  stores = ap (sets out 0) (sym (drop_of_length-le {A = ℕ} [] {i = skip} (omega arith)));
  inside = omega arith;
  few = omega arith;
}

module _ (skip : ℕ) (s before after : List ℕ) (n i : ℕ) (a : Scanning skip s before after n i) where
  pub scan-turn : (v j : ℕ) → spell Empty (drop i s) ≡ with_number v (spell Empty (drop j s)) → i < j → j ≤ length s
      → Scanning skip s before (set_behind skip after n v) (n + 1) j
  scan-turn v j e h k = record {
    past = a.past ++ (v ∷ []);
    reads = a.reads ∙ ap (all a.past) e ∙ sym (all_more a.past v _);
    count = omega (arith, a.count, length-append a.past (v ∷ []));
    stores = ap₂ (λ (l : List ℕ) (k : ℕ). set_behind skip l k v) a.stores a.count ∙ behind_more skip before a.past v;
    inside = k;
    few = omega (arith, a.few);
  }

  pub scan-same : length after ≡ length before
  scan-same = ap length a.stores ∙ length-sets before 0 (drop skip a.past)

  -- at the end, or at the first fault
  scan-ends : (w : Bool) → spell Empty (drop i s) ≡ record { values = []; whole = w } → spell Empty s ≡ record { values = a.past; whole = w }
  scan-ends w e = a.reads ∙ ap (all a.past) e ∙ all-last a.past w

  stored-all : (w : Bool) → spell Empty s ≡ record { values = a.past; whole = w } → after ≡ sets before 0 (drop skip (spell Empty s).values)
  stored-all w e = a.stores ∙ ap (λ (x : Spelled). sets before 0 (drop skip x.values)) (sym e)

  pub scan-done : length s ≤ i → (Some n ≡ tally_in (spell Empty s)) × (after ≡ sets before 0 (drop skip (spell Empty s).values))
  scan-done h =
      let e = scan-ends true (spell-none Empty s i h) in
      (ap (λ (k : ℕ). Some k) a.count ∙ sym (ap tally_in e), stored-all true e)

  pub scan-wrong : spell Empty (drop i s) ≡ fault → (None ≡ tally_in (spell Empty s)) × (after ≡ sets before 0 (drop skip (spell Empty s).values))
  scan-wrong f = let e = scan-ends false f in (sym (ap tally_in e), stored-all false e)
