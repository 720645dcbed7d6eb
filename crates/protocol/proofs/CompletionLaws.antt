-- Laws for counting completions: equal tests count the same, a half as dealt stands in its slot, coins are drawn from their own words, and one step's
-- message comes before those of the next. Assumes nothing.
-- same_count                      tests that agree on all residues
-- both-same, eq_lists-eq, eq_lists-of   tests
-- first_of .. fourth-of           parts that fit
-- half_slot, dealt-alone           a half alone in a pool
-- drawn-own, drawn-enough         coins as raw words
-- message-fits, incoming-is, first-test   a message of the session, and its parts
-- then-accepted, said-message     an end's messages
-- view_of, nothing-received        a view part by part; before anything is received no input is in it
use mathlib.Core.Path.{◌≡◌, refl, sym, ap, ap₂, ◌∙◌, subst}
use mathlib.Core.Bool.{Bool, true, false}
use mathlib.Core.List.{List, [], ◌∷◌, ◌++◌, append-nil}
use Prim.Native.Nat.{ℕ, zero, suc, ◌+◌, ◌*◌, ◌/◌, ◌%◌, ◌≤◌, ◌<◌}
use native.Mathlib.Nat.{mod-lt, div-add-mod'}
use native.Mathlib.Omega.{arith}
use lib.Dec.{ltb, eqb-suc-zero}
use lib.ListN.{length, take, drop}
use lib.Seq.{take_all}
use borrow.Author.Tests.{lt-ltb, leb-true}
use Rattle.algebra.specs.Matrix.{Residues}
use Rattle.algebra.specs.Count.{bit, both, eq_list, parts, part, join, total, count, count_parts}
use Rattle.algebra.proofs.Count.{and_left, and_right, and_both, eq_list-eq, eq_list-of, sum_lists-ext}
use Rattle.algebra.proofs.Tests.{same_test}
use Rattle.algebra.proofs.Parts.{Fits, ◌then◌, fits-join, fits-parts, parts_join, join-parts}
use Rattle.protocol.specs.declared.Terms.{Terms}
use Rattle.protocol.specs.declared.Refusal.{Refusal}
use Rattle.protocol.specs.Judge.{refused, done}
use Rattle.protocol.specs.Drawing.{residues_of, drawn, words_for, draw_tests}
use Rattle.protocol.specs.Tape.{Slot, slot_at, is_slot, slot_words, header_words, READY, Role, sort_of, layout, body_size, tape_size}
use Rattle.protocol.specs.Message.{message_of, message_layout, message_size}
use Rattle.protocol.specs.Step.{Effect, Outcome}
use Rattle.protocol.specs.View.{View}
use Rattle.protocol.specs.Completion.{incoming, said, and_then, eq_lists, is_completion, completions}
use Rattle.protocol.proofs.Slots.{written}
use Rattle.protocol.proofs.Drawn.{drawn-residues, enough-residues}
use Rattle.protocol.proofs.Halves.{Holding, tape-holding}

-- ---- tests

-- tests that agree on all lists of residues count the same
pub same_count : (q : ℕ) (ns : List ℕ) (test test' : List (List ℕ) → Bool) → ((ls : List (List ℕ)) → Fits q ns ls → test ls ≡ test' ls)
    → count_parts q ns test ≡ count_parts q ns test'
unfolding count_parts count
same_count q ns test test' h = sum_lists-ext q (total ns) _ _ (λ l r. ap bit (h (parts ns l) (fits-parts ns r)))

pub both_true : (b : Bool) → both b true ≡ b
unfolding both
both_true true = refl
both_true false = refl

pub both-assoc : (a b c : Bool) → both (both a b) c ≡ both a (both b c)
unfolding both
both-assoc true b c = refl
both-assoc false b c = refl

-- a test after another counts only where the other passes
pub both-same : (b x y : Bool) → (b ≡ true → x ≡ y) → both b x ≡ both b y
unfolding both
both-same true x y h = h refl
both-same false x y h = refl

pub eq_lists-eq : (ls rs : List (List ℕ)) → eq_lists ls rs ≡ true → ls ≡ rs
unfolding eq_lists
eq_lists-eq [] [] e = refl
eq_lists-eq [] (r ∷ rs) e = absurd (let z : ◌≡◌ {A = ℕ} 0 1 = cc in omega arith)
eq_lists-eq (l ∷ ls) [] e = absurd (let z : ◌≡◌ {A = ℕ} 0 1 = cc in omega arith)
eq_lists-eq (l ∷ ls) (r ∷ rs) e = ap₂ (λ (x : List ℕ) (y : List (List ℕ)). x ∷ y) (eq_list-eq _ _ (and_left _ _ e)) (eq_lists-eq ls rs (and_right _ _ e))

same_lists : (ls : List (List ℕ)) → eq_lists ls ls ≡ true
unfolding eq_lists
same_lists [] = refl
same_lists (l ∷ ls) = and_both (eq_list-of refl) (same_lists ls)

pub eq_lists-of : {ls rs : List (List ℕ)} → ls ≡ rs → eq_lists ls rs ≡ true
eq_lists-of {ls} {rs} e = ap (λ (z : List (List ℕ)). eq_lists ls z) (sym e) ∙ same_lists ls

-- ---- parts that fit

pub first_of : {q n : ℕ} {ns : List ℕ} {ls : List (List ℕ)} → Fits q (n ∷ ns) ls → Residues q n (part 0 ls)
first_of (r then f) = r

pub second-of : {q a n : ℕ} {ns : List ℕ} {ls : List (List ℕ)} → Fits q (a ∷ n ∷ ns) ls → Residues q n (part 1 ls)
second-of (r then r' then f) = r'

pub third_of : {q a b n : ℕ} {ns : List ℕ} {ls : List (List ℕ)} → Fits q (a ∷ b ∷ n ∷ ns) ls → Residues q n (part 2 ls)
third_of (r then r' then r'' then f) = r''

pub fourth-of : {q a b c n : ℕ} {ns : List ℕ} {ls : List (List ℕ)} → Fits q (a ∷ b ∷ c ∷ n ∷ ns) ls → Residues q n (part 3 ls)
fourth-of (r then r' then r'' then r''' then f) = r'''

-- ---- a half as dealt

pub one-slot : (n k : ℕ) → n ≡ k → 0 < k → ltb 0 (n / k) ≡ true
one-slot n k e h = lt-ltb 0 (n / k) (go (n / k) refl)
  where
    go : (d : ℕ) → n / k ≡ d → 0 < d
    go zero z = absurd (omega (arith, mod-lt n h, subst (λ (x : ℕ). x * k + n % k ≡ n) z (div-add-mod' n k)))
    go (suc d) z = omega arith

-- a half as dealt, alone in a pool
unfoldable pub half_slot : Role → Terms → (half : List (List ℕ)) → Slot
half_slot role t ls =
    slot_at (header_words READY t.tape.0 (sort_of role) t.q t.m t.k t.p ++ join ls) (tape_size role t.m t.k t.p) 0

pub dealt-alone : (role : Role) (t : Terms) (ls : List (List ℕ)) → Fits t.q (layout role t.m t.k t.p) ls → Holding role READY t ls (half_slot role t ls)
unfolding half_slot is_slot slot_words header_words tape_size body_size
dealt-alone role t ls f =
    tape-holding role READY t ls _ [] (one-slot (length ws) (tape_size role t.m t.k t.p) (omega (arith, size)) (omega arith))
    (ap (λ (n : ℕ). take (tape_size role t.m t.k t.p) (drop n ws)) start
    ∙ take_all (tape_size role t.m t.k t.p) ws (omega (arith, size))
    ∙ ap (λ (l : List ℕ). header_words READY t.tape.0 (sort_of role) t.q t.m t.k t.p ++ l) (sym (append-nil (join ls)))) f
  where
    size : length (join ls) ≡ total (layout role t.m t.k t.p)
    size = (fits-join f).size

    start : 0 * tape_size role t.m t.k t.p ≡ 0
    start = omega arith

    ws : List ℕ
    ws = header_words READY t.tape.0 (sort_of role) t.q t.m t.k t.p ++ join ls

-- ---- coins as raw words

module _ {q n : ℕ} {l : List ℕ} (b : q ≤ 2147483647) (r : Residues q n l) where
  -- the coins drawn from the words for them are they
  pub drawn-own : drawn q n (words_for q l) ≡ l
  unfolding words_for
  drawn-own = drawn-residues q n l b r

  pub drawn-enough : n ≤ length (residues_of q (words_for q l))
  unfolding words_for draw_tests
  drawn-enough = leb-true n (length (residues_of q l)) (enough-residues q n l b r).0

-- ---- messages

module _ (kind : ℕ) (t : Terms) (a : List ℕ) (r : Residues t.q (message_size kind t) a) where
  pub message-fits : Fits t.q (message_layout kind t.m t.k t.p) (parts (message_layout kind t.m t.k t.p) a)
  unfolding message_size
  message-fits = fits-parts (message_layout kind t.m t.k t.p) r

  -- residues are a message in parts
  pub message-join : join (parts (message_layout kind t.m t.k t.p) a) ≡ a
  unfolding message_size
  message-join = join-parts (message_layout kind t.m t.k t.p) r

  pub incoming-is : incoming kind t a ≡ message_of kind t (parts (message_layout kind t.m t.k t.p) a)
  incoming-is = ap (λ (z : List ℕ). incoming kind t z) (sym message-join)

  -- residues received are those of a message sent where the parts are
  pub message-test : {ls : List (List ℕ)} → Fits t.q (message_layout kind t.m t.k t.p) ls
      → eq_list a (join ls) ≡ eq_lists (parts (message_layout kind t.m t.k t.p) a) ls
  message-test {ls} f = same_test _ _
      (λ e. eq_lists-of (ap (parts (message_layout kind t.m t.k t.p)) (eq_list-eq _ _ e) ∙ parts_join f))
      (λ e. eq_list-of (sym message-join ∙ ap join (eq_lists-eq _ _ e)))

  -- and as the first of several
  pub first-test : {ls : List (List ℕ)} → Fits t.q (message_layout kind t.m t.k t.p) ls → (later rs : List (List ℕ))
      → eq_lists (a ∷ later) (join ls ∷ rs) ≡ both (eq_lists (parts (message_layout kind t.m t.k t.p) a) ls) (eq_lists later rs)
  unfolding eq_lists
  first-test f later rs = ap (λ (b : Bool). both b (eq_lists later rs)) (message-test f)

-- ---- an end's messages

module _ {S : Type 0} (s : Slot) (o : Outcome S) (next : S → Slot → List (List ℕ)) where
  pub then-accepted : (e : Effect S) → o ≡ done e → and_then s o next ≡ said e.sent ++ next e.session (written s e.slot)
  unfolding and_then
  then-accepted e h = rw (h, and_then) refl

  pub then-refused : (r : Refusal) → o ≡ refused r → and_then s o next ≡ []
  unfolding and_then
  then-refused r h = rw (h, and_then) refl

pub said-message : (kind : ℕ) (t : Terms) (ls : List (List ℕ)) → said (message_of (suc kind) t ls) ≡ join ls ∷ []
unfolding said
said-message kind t ls = rw (eqb-suc-zero kind)

-- a view, part by part
abbrev pub view_of : Role → Terms → (input half : List (List ℕ)) (coins : List ℕ) (sent received : List (List ℕ)) → View
view_of role t i h c s r = record { role = role; terms = t; input = i; half = h; coins = c; sent = s; received = r }

-- while nothing is received, the other end's input is in nothing that was seen
pub nothing-received : (role : Role) (t : Terms) (input half : List (List ℕ)) (coins : List ℕ) (sent i j : List (List ℕ))
    → completions (view_of role t input half coins sent []) i ≡ completions (view_of role t input half coins sent []) j
unfolding completions is_completion
nothing-received role t input half coins sent i j = refl
