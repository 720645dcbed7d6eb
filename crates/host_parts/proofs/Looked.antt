-- What a call looks at, as its code counts it.
--   role_numbered                        whose half, by the end's number
--   half-there, half-none                whose half, by a record's bytes
--   half-whole, half-header              the words of a half, and of a header where the sides don't fit
--   slot-out, slot_seen                  the words of a slot
--   role-fits, coins-out .. coins-none   how many residues a first step draws
--   sifted-none, sifted-some             the words kept of those handed over; modulo 0 none
--   input-out, input-loaded              an input
-- Assumes nothing.
use mathlib.Core.Path.{◌≡◌, refl, sym, ap, ◌∙◌}
use mathlib.Core.Bool.{Bool, true, false, cond}
use mathlib.Core.List.{List, [], ◌∷◌}
use Rattle.std.specs.Prelude.{Result, Ok, Err}
use Rattle.std.specs.Result.{result_unwrap_or}
use native.Mathlib.Decide.{dec_le}
use Prim.Native.Nat.{ℕ, zero, suc, min, ◌*◌, ◌/◌, ◌≤◌, ◌<◌}
use native.Mathlib.Nat.{mul-le-mul}
use native.Mathlib.Omega.{arith}
use lib.Dec.{ltb, eqb}
use lib.ListN.{length, take, get_or, length-take}
use lib.Seq.{take_all}
use borrow.Author.Tests.{le-ltb, lt-ltb, ne_eqb, eq-eqb, le-leb, lt-leb}
use Rattle.algebra.specs.Words.{over}
use Rattle.vectors.proofs.Written.{over-part}
use Rattle.protocol.specs.declared.Terms.{Terms}
use Rattle.protocol.specs.declared.RightSession.{RightSession}
use Rattle.protocol.specs.Bounds.{product, system, sides_fit}
use Rattle.protocol.specs.Tape.{Role, left, right, blinder, solver, sort_of, body_size, tape_size}
use Rattle.protocol.specs.Message.{no_terms}
use Rattle.protocol.specs.Product.{no_right}
use Rattle.protocol.specs.System.{scratch_size}
use Rattle.protocol.specs.Drawing.{is_kept, words_read}
use Rattle.tape.specs.declared.End.{End}
use Rattle.tape.specs.declared.End.TheVariants.{Left, Right, Blinder, Solver}
use Rattle.tape.specs.declared.NoEnd.{NoEnd}
use Rattle.tape.specs.Ends.{role, sort, Numbered}
use Rattle.tape.proofs.Sides.{unknowns, sides-of}
use Rattle.drawing.specs.Sift.{kept_words, SiftedTo}
use Rattle.drawing.specs.declared.Sifted.{Sifted}
use Rattle.entry.specs.declared.Session.{Session}
use Rattle.entry.specs.Bytes.{word_at, words_of}
use Rattle.entry.specs.Record.{terms_of, right_of, session_from}
use Rattle.entry.specs.Entry.{session_in}
use Rattle.entry.proofs.Bytes.{words-length, words-at}
use Rattle.local.specs.Seen.{least, half_size, seen_words, end_role, session_role, session_terms, coin_count}
use Rattle.local.proofs.Tests.{few-square}
use Rattle.local.specs.Stored.{seen_in}

-- ---- whose half

-- left's, where no end has the number
pub role_numbered : (n : ℕ) (r : Result End NoEnd) → Numbered n r → role (result_unwrap_or r Left) ≡ end_role n
unfolding end_role
role_numbered n (Ok Left) e = rw (sym e) refl
role_numbered n (Ok Right) e = rw (sym e) refl
role_numbered n (Ok Blinder) e = rw (sym e) refl
role_numbered n (Ok Solver) e = rw (sym e) refl
role_numbered n (Err err) e =
    rw (ne_eqb n 2 (λ f. e.1 Right (sym f)), ne_eqb n 3 (λ f. e.1 Blinder (sym f)), ne_eqb n 4 (λ f. e.1 Solver (sym f))) refl

terms-by : (x : Session)
    → session_terms x ≡ cond (eqb x.end 4) x.terms (cond (eqb x.end 3) x.terms (cond (eqb x.end 2) x.terms no_terms))
unfolding session_terms right_of
terms-by x = go (eqb x.end 2)
  where
    own : RightSession
    own = record { terms = x.terms; due = x.due }

    go : (b : Bool)
        → cond (eqb x.end 4) x.terms (cond (eqb x.end 3) x.terms (cond {A = RightSession} b own no_right).terms)
        ≡ cond (eqb x.end 4) x.terms (cond (eqb x.end 3) x.terms (cond b x.terms no_terms))
    go true = refl
    go false = refl

module _ (l : List ℕ) where
  pub half-there : {end : ℕ} {r : Role} {t u : Terms} → length l ≡ 1120 → end ≡ word_at l 0
      → t ≡ terms_of (get_or (words_of l) 1 0) (get_or (words_of l) 2 0) (get_or (words_of l) 3 0) (get_or (words_of l) 4 0) (get_or (words_of l) 5 0) (get_or (words_of l) 6 0)
      → r ≡ cond (eqb end 4) solver (cond (eqb end 3) blinder right)
      → u ≡ cond (eqb end 4) t (cond (eqb end 3) t (cond (eqb end 2) t no_terms))
      → (r ≡ session_role (session_in l)) × (u ≡ session_terms (session_in l))
  unfolding session_in session_from session_role
  half-there h e f g k =
      let first = words-at 0 l (omega arith) in
      let is = eq-eqb (length l) 1120 h in
      (rw (is, first, ← e) g, rw (terms-by (session_in l), is, first, ← e, ← f) k)

  -- a record of another length
  pub half-none : (length l ≡ 1120 → ⊥) → (right ≡ session_role (session_in l)) × (no_terms ≡ session_terms (session_in l))
  unfolding session_in session_role session_terms right_of
  half-none f = let is = ne_eqb (length l) 1120 f in (rw is refl, rw is refl)

-- ---- the words of a half

few-system : (m k p : ℕ) → sides_fit system m k p ≡ true → (m * k ≤ 256) × (k * p ≤ 272) × (m * p ≤ 272)
few-system m k p e =
    let u = unknowns m k p e in
    let k16 : k ≤ 16 = omega (arith, u.few, u.square) in
    let p17 : p ≤ 17 = omega (arith, u.few, u.most) in (
      mul-le-mul {n₁ = m} {m₁ = k} {n₂ = 16} {m₂ = 16} u.few k16,
      mul-le-mul {n₁ = k} {m₁ = p} {n₂ = 16} {m₂ = 17} k16 p17,
      mul-le-mul {n₁ = m} {m₁ = p} {n₂ = 16} {m₂ = 17} u.few p17,
    )

few-tape : (role : Role) (m k p : ℕ) → sides_fit (sort_of role) m k p ≡ true → tape_size role m k p ≤ 3079
unfolding tape_size body_size
few-tape left m k p e = let s = sides-of product m k p e in omega (arith, s.few-mk, s.few-mp)
few-tape right m k p e = let s = sides-of product m k p e in omega (arith, s.few-kp, s.few-mp)
few-tape blinder m k p e = let s = few-system m k p e in omega arith
few-tape solver m k p e = let s = few-system m k p e in omega arith

module _ (role : Role) (t : Terms) where
  pub half-whole : {r : ℕ} → sides_fit (sort_of role) t.m t.k t.p ≡ true → r ≡ tape_size role t.m t.k t.p
      → (r ≡ half_size role t) × (r ≤ 3079)
  unfolding half_size
  half-whole e is = (rw e is, omega (arith, is, few-tape role t.m t.k t.p e))

  pub half-header : sides_fit (sort_of role) t.m t.k t.p ≡ false → (7 ≡ half_size role t) × (7 ≤ 3079)
  unfolding half_size
  half-header e = (rw e refl, omega arith)

-- ---- the words of a slot

module _ (role : Role) (t : Terms) (pool size index : ℕ) where
  pub slot-out : ltb index (pool / size) ≡ false → 0 ≡ seen_in role t pool size index
  unfolding seen_in
  slot-out e = rw e refl

  pub slot_seen : ltb index (pool / size) ≡ true → least size (half_size role t) ≡ seen_in role t pool size index
  unfolding seen_in
  slot_seen e = rw e refl

-- ---- how many residues a first step draws

pub role-fits : {b : Bool} (end : ℕ) (e : End) (t : Terms) → role e ≡ end_role end → b ≡ sides_fit (sort e) t.m t.k t.p
    → b ≡ sides_fit (sort_of (end_role end)) t.m t.k t.p
role-fits end e t same fits = rw same at fits

module _ (end : ℕ) (t : Terms) where
  pub coins-out : sides_fit (sort_of (end_role end)) t.m t.k t.p ≡ false → (0 ≡ coin_count end t) × (0 ≤ 1024)
  unfolding coin_count
  coins-out e = (rw e refl, omega arith)

  -- where they fit
  module _ (fits : sides_fit (sort_of (end_role end)) t.m t.k t.p ≡ true) where
    pub coins-left : {r : ℕ} → end ≡ 1 → r ≡ t.m * t.p → (r ≡ coin_count end t) × (r ≤ 1024)
    unfolding coin_count
    coins-left e is = (rw (fits, eq-eqb end 1 e) is, omega (arith, is, (sides-of (sort_of (end_role end)) t.m t.k t.p fits).few-mp))

    pub blinder-fits : end ≡ 3 → sides_fit system t.m t.k t.p ≡ true
    unfolding end_role
    blinder-fits e = rw e at fits

    pub coins-blinder : {r : ℕ} → end ≡ 3 → r ≡ scratch_size t → (r ≡ coin_count end t) × (r ≤ 1024)
    unfolding coin_count scratch_size
    coins-blinder e is =
        let few = few-square t (blinder-fits e) in
        let other : end ≡ 1 → ⊥ = λ f. omega arith in
        (rw (fits, ne_eqb end 1 other, eq-eqb end 3 e) is, omega (arith, is))

    pub coins-none : (end ≡ 1 → ⊥) → (end ≡ 3 → ⊥) → (0 ≡ coin_count end t) × (0 ≤ 1024)
    unfolding coin_count
    coins-none f g = (rw (fits, ne_eqb end 1 f, ne_eqb end 3 g) refl, omega arith)

-- ---- modulo 0

thrown : (w : ℕ) → is_kept 0 w ≡ false
unfolding is_kept
thrown w = le-ltb w _ (omega arith)

none_kept : (ws : List ℕ) → kept_words 0 ws ≡ []
unfolding kept_words
none_kept [] = refl
none_kept (w ∷ ws) = rw (thrown w) (none_kept ws)

all_read : (n : ℕ) (ws : List ℕ) → words_read 0 (suc n) ws ≡ length ws
unfolding words_read
all_read n [] = refl
all_read n (w ∷ ws) = rw (ne_eqb (suc n) 0 (λ e. omega arith), thrown w) (ap suc (all_read n ws))

none_read : (n : ℕ) (ws : List ℕ) → words_read 0 n ws ≡ cond (ltb 0 n) (length ws) 0
unfolding words_read
none_read zero [] = refl
none_read zero (w ∷ ws) = refl
none_read (suc n) ws = rw (lt-ltb 0 (suc n) (omega arith)) (all_read n ws)

take_none : (n : ℕ) → take {A = ℕ} n [] ≡ []
take_none zero = refl
take_none (suc n) = refl

module _ (q n : ℕ) (bytes out : List ℕ) (r : Sifted) where
  pub sifted-none : {m : ℕ} → q ≡ 0 → n ≡ m → r.kept ≡ 0 → r.read ≡ cond (ltb 0 n) (length bytes / 4) 0
      → (r.read ≡ words_read q m (words_of bytes)) × (r.kept ≤ 1024) × (take r.kept out ≡ take m (kept_words q (words_of bytes)))
  sifted-none {m} e f kept read = (
    rw (e, ← f, none_read n (words_of bytes), words-length bytes) read,
    omega arith,
    rw (e, kept, none_kept (words_of bytes)) (sym (take_none m)),
  )

  pub sifted-some : {m : ℕ} {d : List ℕ} → n ≡ m → n ≤ 1024 → SiftedTo q n (words_of bytes) d out r
      → (r.read ≡ words_read q m (words_of bytes)) × (r.kept ≤ 1024) × (take r.kept out ≡ take m (kept_words q (words_of bytes)))
  sifted-some {m} f few s = (
    rw (← f) s.read,
    rw s.kept (simp length-take (omega arith)),
    rw (← f) s.copied,
  )

-- ---- an input

pub input-out : (bytes : List ℕ) → 2048 < length bytes / 4 → [] ≡ seen_words (words_of bytes)
unfolding seen_words
input-out bytes h = rw (lt-leb (length (words_of bytes)) 2048 (omega (arith, words-length bytes))) refl

pub input-loaded : (n : ℕ) (bytes d : List ℕ) {out : List ℕ} → n ≡ length bytes / 4 → n ≤ 2048 → out ≡ over (take n (words_of bytes)) d
    → take n out ≡ seen_words (words_of bytes)
unfolding seen_words
input-loaded n bytes d e few loaded =
    let count : length (words_of bytes) ≡ n = words-length bytes ∙ sym e in
    let all : take n (words_of bytes) ≡ words_of bytes = take_all n (words_of bytes) (omega arith) in
    rw (le-leb (length (words_of bytes)) 2048 (omega arith))
    (over-part n (words_of bytes) d (loaded ∙ ap (λ (l : List ℕ). over l d) all) count)

-- the library's name for the smaller of two numbers
pub min-least : (a b : ℕ) → min a b ≡ least a b
unfolding least
min-least a b = elim (dec_le a b) [
  | yes h ↦ rw (le-leb a b h) (omega (arith, h))
  | no h ↦ rw (lt-leb a b (omega (arith, h))) (omega (arith, h))
]
