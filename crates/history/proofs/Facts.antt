-- Facts that hold of any log: no words and no steps here.
--   chosen-yes, chosen-no, set_same, set_other     choices, and a function set at one name
--   place-did, elsewhere, begun-here, gone-on      a place after an entry
--   place-known                                    what a place holds was dealt there
--   one-dealing, one-half                          a number names one dealing; with a role, one half at one place
-- Assumes nothing.
use mathlib.Core.Path.{◌≡◌, refl, sym, ap, ◌∙◌}
use mathlib.Core.Logic.{◌≢◌, ◌⊎◌, inl, inr}
use mathlib.Core.Bool.{true, false}
use mathlib.Core.List.{List, [], ◌∷◌}
use mathlib.Core.Option.{Option, some, none}
use Prim.Native.Nat.{ℕ}
use native.Mathlib.Omega.{arith}
use native.Mathlib.Decide.{ℕ_discrete}
use Rattle.protocol.specs.Bounds.{Sort, product, system}
use Rattle.protocol.specs.Deal.{first_role, second_role}
use Rattle.history.specs.Ends.{Session, absent, is_begun, Step, begins, goes_on}
use Rattle.history.specs.Log.{choose, set_at, Party, first, second, party-eq, Dealing, Entry, dealt, did, role_by, half_role, Place, untouched, holds, serving, here, place_after, place, WasDealt, number_of, Distinct}

pub chosen-yes : {P A : Type 0} (d : Dec P) (a b : A) → P → choose d a b ≡ a
chosen-yes (yes _) a b p = refl
chosen-yes (no h) a b p = absurd (h p)

pub chosen-no : {P A : Type 0} (d : Dec P) (a b : A) → ¬ P → choose d a b ≡ b
chosen-no (yes p) a b h = absurd (h p)
chosen-no (no _) a b h = refl

pub set_same : {A : Type 0} (n : ℕ) (a : A) (f : ℕ → A) → set_at n a f n ≡ a
set_same n a f = chosen-yes (ℕ_discrete n n) a (f n) refl

pub set_other : {A : Type 0} (n : ℕ) (a : A) (f : ℕ → A) (n' : ℕ) → n' ≢ n → set_at n a f n' ≡ f n'
set_other n a f n' h = chosen-no (ℕ_discrete n n') a (f n') (λ q. h (sym q))

-- different constructors are never equal
pub untouched≢ : {A : Type 0} {d : Dealing} {o : Option ℕ} → untouched ≡ holds d o → A
untouched≢ e = absurd (let z : ◌≡◌ {A = ℕ} 0 1 = cc in omega arith)

pub none≢ : {A B : Type 0} {n : B} → none ≡ some n → A
none≢ e = absurd (let z : ◌≡◌ {A = ℕ} 0 1 = cc in omega arith)

pub absent≢ : {A : Type 0} {x : Session} → x ≡ absent → is_begun x ≡ true → A
absent≢ {x} e b = absurd (let z : false ≡ true = sym (ap is_begun e) ∙ b in let y : ◌≡◌ {A = ℕ} 0 1 = cc in omega arith)

pub same-dealing : {d d' : Dealing} {o o' : Option ℕ} → holds d o ≡ holds d' o' → d ≡ d'
same-dealing e = cc

pub same-server : {d d' : Dealing} {o o' : Option ℕ} → holds d o ≡ holds d' o' → o ≡ o'
same-server e = cc

pub same_some : {A : Type 0} {a a' : A} → some a ≡ some a' → a ≡ a'
same_some e = cc

-- two parties with one role in one tape are one party
first≢second : {A : Type 0} (sort : Sort) → first_role sort ≡ second_role sort → A
first≢second product e = absurd (let z : ◌≡◌ {A = ℕ} 0 1 = cc in omega arith)
first≢second system e = absurd (let z : ◌≡◌ {A = ℕ} 0 1 = cc in omega arith)

third : (a b c : Party) → (a ≡ b → ⊥) → (a ≡ c → ⊥) → b ≡ c
third first first c f g = absurd (f refl)
third first second first f g = absurd (g refl)
third first second second f g = refl
third second first first f g = refl
third second first second f g = absurd (g refl)
third second second c f g = absurd (f refl)

pub same-party : (w w' : Party) (d : Dealing) → half_role w d ≡ half_role w' d → w ≡ w'
unfolding half_role
same-party w w' d e = go (party-eq d.holder w) (party-eq d.holder w') e
  where
    go : (a : Dec (d.holder ≡ w)) (b : Dec (d.holder ≡ w')) → role_by a d.request.sort ≡ role_by b d.request.sort → w ≡ w'
    go (yes a) (yes b) f = sym a ∙ b
    go (yes a) (no b) f = first≢second d.request.sort f
    go (no a) (yes b) f = first≢second d.request.sort (sym f)
    go (no a) (no b) f = third d.holder w w' a b

-- ---- places

-- a step changes at most who serves a place
pub place-did : {P : Type 0} (h : Dec P) (k : Step) (n : ℕ) (c : Place) {d : Dealing} {o : Option ℕ} → place_after h k n c ≡ holds d o → (o' : Option ℕ) × (c ≡ holds d o')
place-did (yes _) (begins t k) n untouched e = untouched≢ e
place-did (yes _) (begins t k) n (holds d o) e = (o, cc)
place-did (yes _) (goes_on k) n c {o} e = (o, e)
place-did (no _) k n c {o} e = (o, e)

pub elsewhere : {P : Type 0} (h : Dec P) (k : Step) (n : ℕ) (c : Place) → ¬ P → place_after h k n c ≡ c
elsewhere (yes p) k n c q = absurd (q p)
elsewhere (no _) k n c q = refl

pub begun-here : {P : Type 0} (h : Dec P) (k : Step) (n : ℕ) (c : Place) {t : _} {f : _} → k ≡ begins t f → P → place_after h k n c ≡ serving n c
begun-here (yes _) (begins t k) n c e p = refl
begun-here (yes _) (goes_on k) n c e p = absurd (let z : ◌≡◌ {A = ℕ} 0 1 = cc in omega arith)
begun-here (no h) k n c e p = absurd (h p)

pub gone-on : {P : Type 0} (h : Dec P) (k : Step) (n : ℕ) (c : Place) {f : _} → k ≡ goes_on f → place_after h k n c ≡ c
gone-on (yes _) (begins t k) n c e = absurd (let z : ◌≡◌ {A = ℕ} 0 1 = cc in omega arith)
gone-on (yes _) (goes_on k) n c e = refl
gone-on (no h) k n c e = refl

-- what a place's description says was dealt there
pub place-known : (l : List Entry) (w : Party) (i : ℕ) {d : Dealing} {o : Option ℕ} → place l w i ≡ holds d o → WasDealt d l × (d.index ≡ i)
place-known [] w i e = untouched≢ e
place-known (dealt d₀ ∷ l) w i {d} {o} e = go (ℕ_discrete d₀.index i) e (λ h. place-known l w i h)
  where
    go : (c : Dec (d₀.index ≡ i)) → choose c (holds d₀ none) (place l w i) ≡ holds d o → (place l w i ≡ holds d o → WasDealt d l × (d.index ≡ i))
        → ((d₀ ≡ d) ⊎ WasDealt d l) × (d.index ≡ i)
    go (yes p) f known = let q : d₀ ≡ d = same-dealing f in (inl q, ap (λ (x : Dealing). x.index) (sym q) ∙ p)
    go (no _) f known = let a = known f in (inr a.0, a.1)
place-known (did e ∷ l) w i f = let a = place-did (here e.party e.index w i) e.step e.name (place l w i) f in place-known l w i a.1

-- a number names one dealing
pub one-dealing : (l : List Entry) → Distinct l → (d d' : Dealing) → WasDealt d l → WasDealt d' l → number_of d ≡ number_of d' → d ≡ d'
one-dealing [] h d d' p q e = absurd p
one-dealing (dealt d₀ ∷ l) h d d' (inl p) (inl q) e = sym p ∙ q
one-dealing (dealt d₀ ∷ l) h d d' (inl p) (inr q) e = absurd (h.0 d' q (sym e ∙ ap number_of (sym p)))
one-dealing (dealt d₀ ∷ l) h d d' (inr p) (inl q) e = absurd (h.0 d p (e ∙ ap number_of (sym q)))
one-dealing (dealt d₀ ∷ l) h d d' (inr p) (inr q) e = one-dealing l h.1 d d' p q e
one-dealing (did x ∷ l) h d d' p q e = one-dealing l h d d' p q e

-- a number and a role name one half, which lies at one place
pub one-half : (l : List Entry) → Distinct l → (w w' : Party) (i i' : ℕ) {d d' : Dealing} {o o' : Option ℕ}
    → place l w i ≡ holds d o → place l w' i' ≡ holds d' o' → number_of d ≡ number_of d' → half_role w d ≡ half_role w' d' → (w ≡ w') × (i ≡ i')
one-half l h w w' i i' {d} {d'} e f n p =
    let a = place-known l w i e in
    let b = place-known l w' i' f in
    let one : d ≡ d' = one-dealing l h d d' a.0 b.0 n in
    (same-party w w' d (p ∙ ap (λ (x : Dealing). half_role w' x) (sym one)), sym a.1 ∙ ap (λ (x : Dealing). x.index) one ∙ b.1)
