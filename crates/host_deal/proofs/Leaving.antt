-- What the entry's code leaves is what its definition says.
--   fit-told                    its tests, as one
--   part-taken, cut-back        words of a pool, and of an array of which the first words were lent
--   sifted-none, sifted-some    the raw words
--   copied-refused, copied-done a dealing on copies, in the pools
--   all_told                    and its report
--   other-sort, by-sort         the sort by its number
-- Assumes nothing.
use mathlib.Core.Path.{◌≡◌, refl, sym, ap, ◌∙◌}
use mathlib.Core.Bool.{Bool, true, false, cond}
use mathlib.Core.List.{List, [], ◌∷◌, ◌++◌}
use Prim.Native.Nat.{ℕ, ◌+◌, ◌-◌, ◌*◌, ◌≤◌, ◌<◌}
use native.Mathlib.Omega.{arith}
use lib.Dec.{eqb, ltb}
use lib.ListN.{length, take, drop, length-drop, length-take}
use lib.Seq.{take_at, length-take-le}
use borrow.Author.Tests.{ne_eqb, eq-eqb, lt-ltb}
use Rattle.algebra.specs.Count.{both}
use Rattle.algebra.specs.Words.{over, written_at}
use Rattle.protocol.specs.declared.Terms.{Terms}
use Rattle.protocol.specs.declared.Refusal.{Refusal}
use Rattle.protocol.specs.declared.Refusal.TheVariants.{Size}
use Rattle.protocol.specs.Answer.{Answer}
use Rattle.std.specs.Prelude.{Ok, Err, Some, None, IsErrAnd, is_ok}
use Rattle.std.proofs.lemmas.Result.{err_from_is_err_and}
use Rattle.std.proofs.lemmas.Option.{none-some}
use Rattle.protocol.specs.Judge.{refusal_number, Reply, needs, clear, Judged, refused, done, judge, judge_by}
use Rattle.protocol.specs.Bounds.{Sort, product, system, sides_fit}
use Rattle.protocol.specs.Step.{answer_reply}
use Rattle.protocol.specs.Deal.{Dealt, deal}
use Rattle.protocol.proofs.Judge.{not-zero, refused≢done}
use Rattle.judging.specs.InOrder.{Check, checked, judged}
use Rattle.vectors.proofs.Written.{over-part, tail-part}
use Rattle.entry.specs.Bytes.{words_of, bytes_of}
use Rattle.entry.specs.Entry.{Dealing, whole_tests, dealing, deal_on}
use Rattle.entry.specs.Steps.{also}
use Rattle.entry.proofs.Bytes.{words-length, words-drop}
use Rattle.drawing.specs.declared.Sifted.{Sifted}
use Rattle.drawing.specs.Sift.{kept_words, SiftedTo}
use Rattle.dealer.specs.Sorts.{draw_count, request}
use Rattle.dealer.specs.Dealt.{Pools, pools}
use Rattle.local.proofs.Outcomes.{also-judge}
use Rattle.local.proofs.Tests.{both-no}
use Rattle.host_deal.specs.declared.part.Part.{Part}
use Rattle.host_deal.specs.Part.{own_tests, part_tests, is_fit}
use Rattle.host_deal.specs.Copied.{part_words, raw_for, read_for, dealt_copies, back, copied, report_of, reported, told, SiftedFor}
use Rattle.host_deal.proofs.Fits.{few-drawn, fit-judged}

-- ---- the tests

module _ (s : Sort) (t : Terms) (first second words size index : ℕ) where
  pub fit_refused : {r : Refusal} → judged (part_tests s t first second words size index) ≡ refused r → is_fit s t first second words size index ≡ false
  unfolding is_fit
  fit_refused {r} e = go (clear Size (part_tests s t first second words size index)) refl
    where
      go : (b : Bool) → clear Size (part_tests s t first second words size index) ≡ b
          → both (ltb 0 t.q) (clear Size (part_tests s t first second words size index)) ≡ false
      go false h = rw h (both-no (ltb 0 t.q))
      go true h = absurd (refused≢done (sym e ∙ (fit-judged s t first second words size index ∙ rw h refl)))

  pub fit_passed : 0 < t.q → judged (part_tests s t first second words size index) ≡ done tt → is_fit s t first second words size index ≡ true
  unfolding is_fit both
  fit_passed q e = go (clear Size (part_tests s t first second words size index)) refl
    where
      go : (b : Bool) → clear Size (part_tests s t first second words size index) ≡ b
          → both (ltb 0 t.q) (clear Size (part_tests s t first second words size index)) ≡ true
      go true h = rw (lt-ltb 0 t.q q, h) refl
      go false h = absurd (refused≢done {r = Size} (sym (fit-judged s t first second words size index ∙ rw h refl) ∙ e))

  -- the same of what was answered
  pub fit-told : (x : Check) → 0 < t.q → checked x ≡ judged (part_tests s t first second words size index) → is_ok x ≡ is_fit s t first second words size index
  fit-told (Ok u) q e = sym (fit_passed q (sym e))
  fit-told (Err r) q e = sym (fit_refused (sym e))

-- ---- words

pub part-taken : (at : Part) (bytes d : List ℕ) {l : List ℕ} → at.from * 4 + at.size * 4 ≤ length bytes
    → l ≡ over (take at.size (words_of (take (length bytes - at.from * 4) (drop (at.from * 4) bytes)))) d → take at.size l ≡ part_words at bytes
unfolding part_words
part-taken at bytes d h e =
    let all = tail-part (at.from * 4) bytes in
    let rest = words_of (drop (at.from * 4) bytes) in
    let few : at.size ≤ length rest = omega (arith, words-length (drop (at.from * 4) bytes), length-drop (at.from * 4) bytes) in
    over-part at.size (take at.size rest) d (rw all at e) (length-take-le at.size rest few) ∙ ap (take at.size) (sym (words-drop at.from bytes))

pub cut-back : (n : ℕ) (x y one two : List ℕ) {a : Reply ℕ} {o : Pools} → length x ≡ n → length y ≡ n
    → ◌≡◌ {A = Pools} (record { answer = a; first = x; second = y }) o
    → ◌≡◌ {A = Pools} (record { answer = a; first = take n (x ++ drop n one); second = take n (y ++ drop n two) }) o
cut-back n x y one two e f h = rw (take_at x (drop n one) n e, take_at y (drop n two) n f) h

-- ---- raw words

module _ (s : Sort) (t : Terms) (size : ℕ) (words out : List ℕ) where
  pub sifted-none : size ≡ 0 → SiftedFor s t size words out (record { kept = 0; read = 0 })
  unfolding raw_for read_for
  sifted-none e = record { few = omega arith; kept = rw (eq-eqb size 0 e) refl; read = rw (eq-eqb size 0 e) refl }

  pub sifted-some : (n : ℕ) (d : List ℕ) (r : Sifted) → (size ≡ 0 → ⊥) → sides_fit s t.m t.k t.p ≡ true → n ≡ draw_count s t.m t.k t.p
      → SiftedTo t.q n words d out r → SiftedFor s t size words out r
  unfolding raw_for read_for
  sifted-some n d r some sides e f = record {
    few = omega (arith, f.kept, length-take n (kept_words t.q words), few-drawn s t.m t.k t.p sides, e);
    kept = f.copied ∙ rw (ne_eqb size 0 some, e) refl;
    read = f.read ∙ rw (ne_eqb size 0 some, e) refl;
  }

-- ---- a dealing on copies

-- an answer, and both pools
abbrev leaving : Answer → (first second : List ℕ) → Pools
leaving a first second = record { answer = answer_reply a; first = first; second = second }

module _ (at : Part) (first second v w x y : List ℕ) where
  back-refused : (o : Judged Dealt) (r : Refusal) → leaving (Err r) x y ≡ pools v w o → leaving (Err r) first second ≡ back at first second o
  back-refused (refused z) r h = ap (λ (p : Pools). record { answer = p.answer; first = first; second = second }) h
  back-refused (done d) r h =
      let n : refusal_number r ≡ 0 = ap (λ (p : Pools). p.answer.number) h in
      absurd (omega (arith, not-zero r, n))

  back_done : (o : Judged Dealt) {n : ℕ} {l m : List ℕ} → leaving (Ok n) x y ≡ pools v w o
      → l ≡ written_at (at.from * 4) (bytes_of x) first → m ≡ written_at (at.from * 4) (bytes_of y) second
      → leaving (Ok n) l m ≡ back at first second o
  back_done (refused z) h p q =
      let n : 0 ≡ refusal_number z = ap (λ (p : Pools). p.answer.number) h in
      absurd (omega (arith, not-zero z, n))
  back_done (done d) h p q =
      rw (p, q)
      (ap (λ (p : Pools). record {
        answer = p.answer;
        first = written_at (at.from * 4) (bytes_of p.first) first;
        second = written_at (at.from * 4) (bytes_of p.second) second;
      }) h)

-- the copies are of the pools' words
module _ (at : Part) (s : Sort) (t : Terms) (first second words v w : List ℕ) (e : v ≡ part_words at first) (f : w ≡ part_words at second)
    (x y : List ℕ) where
  same : {p : Pools} → p ≡ pools v w (deal v w at.size 0 (request s t words))
      → p ≡ pools (part_words at first) (part_words at second) (dealt_copies at s t first second words)
  unfolding dealt_copies
  same h = rw (e, f) at h

  pub copied-refused : (a : Answer) (r : Refusal) → IsErrAnd a (λ z. z ≡ r) → leaving (Err r) x y ≡ pools v w (deal v w at.size 0 (request s t words))
      → leaving a first second ≡ copied at s t first second words
  unfolding copied
  copied-refused a r gives h =
      let p = err_from_is_err_and a gives in
      rw (p.1, p.2) (back-refused at first second (part_words at first) (part_words at second) x y (dealt_copies at s t first second words) r (same h))

  pub copied-done : {n : ℕ} {l m : List ℕ} → leaving (Ok n) x y ≡ pools v w (deal v w at.size 0 (request s t words))
      → l ≡ written_at (at.from * 4) (bytes_of x) first → m ≡ written_at (at.from * 4) (bytes_of y) second
      → leaving (Ok n) l m ≡ copied at s t first second words
  unfolding copied
  copied-done h p q =
      back_done at first second (part_words at first) (part_words at second) x y (dealt_copies at s t first second words) (same h) p q

-- `read` of all raw words were read
report-told : (at : Part) (read : ℕ) (first second x y : List ℕ) (a : Answer) (o : Judged Dealt)
    → leaving a x y ≡ back at first second o
    → ◌≡◌ {A = Dealing} (record { report = report_of a read; first = x; second = y }) (reported at read first second o)
report-told at read first second x y (Ok n) (done d) h =
    ap (λ (p : Pools). record { report = record { number = 0; read = read; bytes = 0 }; first = p.first; second = p.second }) h
report-told at read first second x y (Ok n) (refused z) h =
    let e : 0 ≡ refusal_number z = ap (λ (p : Pools). p.answer.number) h in
    absurd (omega (arith, not-zero z, e))
report-told at read first second x y (Err r) (refused z) h =
    ap (λ (p : Pools). record { report = record { number = p.answer.number; read = 0; bytes = 0 }; first = p.first; second = p.second }) h
report-told at read first second x y (Err r) (done d) h =
    let e : refusal_number r ≡ 0 = ap (λ (p : Pools). p.answer.number) h in
    absurd (omega (arith, not-zero r, e))

pub all_told : (at : Part) (s : Sort) (t : Terms) (first second words raw x y : List ℕ) (a : Answer) (read : ℕ)
    → raw ≡ raw_for s t at.size words → read ≡ read_for s t at.size words
    → leaving a x y ≡ copied at s t first second raw
    → ◌≡◌ {A = Dealing} (record { report = report_of a read; first = x; second = y }) (told at s t first second words)
unfolding copied told
all_told at s t first second words raw x y a read e f h =
    rw f (report-told at (read_for s t at.size words) first second x y a (dealt_copies at s t first second (raw_for s t at.size words)) (rw e at h))

-- ---- the sort

module _ (first second : List ℕ) (size index : ℕ) (words : List ℕ) where
  own-refused : {A : Type 0} (a : A) → also (own_tests (length first) (length second) (length words)) (judge (needs Size false ∷ []) a) ≡ refused Size
  unfolding whole_tests clear both judge judge_by
  own-refused a = also-judge (own_tests (length first) (length second) (length words)) (needs Size false ∷ []) a ∙ simp both-no

  none-refused : also {A = Dealt} (own_tests (length first) (length second) (length words)) (refused Size) ≡ refused Size
  unfolding clear both judge judge_by
  none-refused = own-refused (record { read = 0; first = []; second = [] })

  pub other-sort : (sort tape q m k p : ℕ) → None ≡ cond (eqb sort 0) (Some product) (cond (eqb sort 1) (Some system) None)
      → ◌≡◌ {A = Dealing} (record { report = report_of (Err Size) 0; first = first; second = second })
      (deal_on sort first second size index tape q m k p words)
  unfolding deal_on
  other-sort sort tape q m k p e = go (eqb sort 0) (eqb sort 1) refl refl
    where
      go : (a b : Bool) → eqb sort 0 ≡ a → eqb sort 1 ≡ b
          → ◌≡◌ {A = Dealing} (record { report = report_of (Err Size) 0; first = first; second = second })
          (deal_on sort first second size index tape q m k p words)
      go true b x y = let none : None ≡ Some product = rw x at e in absurd (none-some _ none)
      go false true x y = let none : None ≡ Some system = rw (x, y) at e in absurd (none-some _ none)
      go false false x y = rw (x, y) (sym (ap (dealing first second) none-refused))

  pub by-sort : (sort : ℕ) (s : Sort) (t : Terms) → Some s ≡ cond (eqb sort 0) (Some product) (cond (eqb sort 1) (Some system) None)
      → dealing first second
      (also (own_tests (length first) (length second) (length words)) (deal (words_of first) (words_of second) size index (request s t (words_of words))))
      ≡ deal_on sort first second size index t.tape.0 t.q t.m t.k t.p words
  unfolding deal_on
  by-sort sort s t e = go (eqb sort 0) (eqb sort 1) refl refl
    where
      go : (a b : Bool) → eqb sort 0 ≡ a → eqb sort 1 ≡ b
          → dealing first second
          (also (own_tests (length first) (length second) (length words)) (deal (words_of first) (words_of second) size index (request s t (words_of words))))
          ≡ deal_on sort first second size index t.tape.0 t.q t.m t.k t.p words
      go true b x y =
          let some : Some s ≡ Some product = rw x at e in
          let same : s ≡ product = cc in
          rw (x, same) refl
      go false true x y =
          let some : Some s ≡ Some system = rw (x, y) at e in
          let same : s ≡ system = cc in
          rw (x, y, same) refl
      go false false x y = let none : Some s ≡ None = rw (x, y) at e in absurd (none-some _ (sym none))
