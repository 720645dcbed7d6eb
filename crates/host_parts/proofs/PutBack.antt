-- What a step left, put back.
--   sent-none, sent-out, few_words, sent-some     how many residues are sent
--   few-sent-words                                of the words as many as there are, and no more than a message has
--   line-none, line-some, line_kept               the line of what is sent
--   all_words                                     words as bytes
--   sent-stored, sent-full                        what an accepted step leaves, and where its line has no room
--   stored-accepted, stored-sum, stored_refused   by the step's answer
-- Assumes nothing.
use mathlib.Core.Path.{◌≡◌, refl, sym, ap, ◌∙◌}
use mathlib.Core.Bool.{Bool, true, false}
use mathlib.Core.List.{List, []}
use Prim.Native.Nat.{ℕ, ◌+◌, ◌*◌, ◌≤◌, ◌<◌}
use native.Mathlib.Omega.{arith}
use native.Mathlib.Decide.{dec_le}
use lib.ListN.{length, take, length-take}
use lib.Seq.{take_all}
use borrow.Author.Tests.{ne_eqb, eq-eqb, le-leb, lt-leb}
use Rattle.algebra.specs.Words.{over}
use Rattle.algebra.specs.Count.{both}
use Rattle.protocol.specs.declared.Head.{Head}
use Rattle.protocol.specs.Answer.{Answer}
use Rattle.std.specs.Prelude.{Ok, Err}
use Rattle.protocol.specs.declared.Refusal.{Refusal}
use Rattle.protocol.specs.declared.Refusal.TheVariants.{Size}
use Rattle.protocol.specs.Bounds.{product, sides_fit}
use Rattle.protocol.specs.Message.{message_with, message_size}
use Rattle.protocol.specs.Line.{message_line}
use Rattle.tape.proofs.Sides.{sides-of}
use Rattle.entry.specs.declared.Session.{Session}
use Rattle.entry.specs.declared.Report.{Report}
use Rattle.entry.specs.Bytes.{bytes_of}
use Rattle.entry.specs.Record.{record_words}
use Rattle.entry.specs.Entry.{Lent, Left, line_of, refusal_report}
use Rattle.local.specs.Settled.{is_singular}
use Rattle.local.specs.Seen.{least, sent_size}
use Rattle.local.proofs.Slots.{least-left, least-right, least-below}
use Rattle.local.proofs.Tests.{few-sent}
use Rattle.local.specs.Stored.{sent_line, stored_sent, stored}

-- ---- the line

-- as many of the words as there are
least-takes : (k : ℕ) (l : List ℕ) → take (least k (length l)) l ≡ take k l
least-takes k l =
    elim (dec_le k (length l)) [
      | yes h ↦ ap (λ (i : ℕ). take i l) (least-left k (length l) h)
      | no h ↦ ap (λ (i : ℕ). take i l) (least-right k (length l) (omega arith))
          ∙ (take_all (length l) l (omega arith) ∙ sym (take_all k l (omega arith)))
    ]

pub few-sent-words : {n : ℕ} (k : ℕ) (rs : List ℕ) → k ≤ 3072 → n ≡ least k (length rs)
    → (n ≡ length (take n rs)) × (length (take n rs) ≤ 3072)
few-sent-words {n} k rs h e =
    let below = least-below k (length rs) in
    let many : n ≡ length (take n rs) = simp length-take (omega (arith, e, below)) in (many, omega (arith, e, below, many))

module _ (h : Head) where
  pub sent-none : h.kind ≡ 0 → (0 ≡ sent_size h) × (0 ≤ 3072)
  unfolding sent_size
  sent-none e = (rw (eq-eqb h.kind 0 e) refl, omega arith)

  pub sent-out : (h.kind ≡ 0 → ⊥) → sides_fit product h.terms.m h.terms.k h.terms.p ≡ false → (0 ≡ sent_size h) × (0 ≤ 3072)
  unfolding sent_size
  sent-out e fits = (rw (ne_eqb h.kind 0 e, fits) refl, omega arith)

  pub few_words : sides_fit product h.terms.m h.terms.k h.terms.p ≡ true → h.terms.m * h.terms.k + h.terms.m * h.terms.p ≤ 4096
  few_words fits = let s = sides-of product h.terms.m h.terms.k h.terms.p fits in omega (arith, s.few-mk, s.few-mp)

  pub sent-some : {r : ℕ} → (h.kind ≡ 0 → ⊥) → sides_fit product h.terms.m h.terms.k h.terms.p ≡ true → r ≡ message_size h.kind h.terms
      → (r ≡ sent_size h) × (r ≤ 3072)
  unfolding sent_size
  sent-some e fits is = (rw (ne_eqb h.kind 0 e, fits) is, omega (arith, is, few-sent product h.kind h.terms fits))

  pub line-none : (rs : List ℕ) → h.kind ≡ 0 → [] ≡ sent_line h rs
  unfolding sent_line line_of
  line-none rs e = rw (eq-eqb h.kind 0 e) refl

  pub line-some : {n k : ℕ} (rs : List ℕ) → (h.kind ≡ 0 → ⊥) → k ≡ sent_size h → n ≡ least k (length rs)
      → message_line (message_with h (take n rs)) ≡ sent_line h rs
  unfolding sent_line line_of
  line-some {n} {k} rs e is few = rw (ne_eqb h.kind 0 e, few, least-takes k rs, is) refl

-- no line over a slice
pub line_kept : (h : Head) (rs line : List ℕ) → h.kind ≡ 0 → line ≡ over (sent_line h rs) line
unfolding over
line_kept h rs line e = rw (← line-none h rs e) refl

-- ---- words as bytes

pub all_words : (ws d : List ℕ) {out : List ℕ} → out ≡ over (bytes_of (take (length ws) ws)) d → out ≡ over (bytes_of ws) d
all_words ws d e = e ∙ ap (λ (l : List ℕ). over (bytes_of l) d) (take_all (length ws) ws (omega arith))

-- ---- an accepted step

module _ (read : ℕ) (x : Session) (h : Head) (ws ls rs us : List ℕ) (l : Lent) where
  pub sent-stored : {bytes : ℕ} {host pool scratch line result : List ℕ} → bytes ≡ length (sent_line h rs) → bytes ≤ length l.line
      → host ≡ over (bytes_of (record_words x)) l.host
      → pool ≡ over (bytes_of ws) l.pool
      → scratch ≡ over (bytes_of ls) l.scratch
      → line ≡ over (sent_line h rs) l.line
      → result ≡ over (bytes_of us) l.result
      → ◌≡◌ {A = Left} (record {
        report = record { number = 0; read = read; bytes = bytes };
        lent = record { host = host; pool = pool; scratch = scratch; line = line; result = result };
      }) (stored_sent read x h ws ls rs us l)
  sent-stored size room a b c d e =
      rw (le-leb (length (sent_line h rs)) (length l.line) (omega arith), size, a, b, c, d, e) refl

  pub sent-full : {bytes : ℕ} {report : Report} → bytes ≡ length (sent_line h rs) → length l.line < bytes → report ≡ refusal_report Size
      → ◌≡◌ {A = Left} (record { report = report; lent = l }) (stored_sent read x h ws ls rs us l)
  sent-full size short e = rw (lt-leb (length (sent_line h rs)) (length l.line) (omega arith), e) refl

-- ---- by the answer

module _ (sums : Bool) (read : ℕ) (answer : Answer) (x : Session) (h : Head) (ws ls rs us : List ℕ) (l : Lent) where
  pub stored-accepted : {n : ℕ} {after : Left} → answer ≡ Ok n → after ≡ stored_sent read x h ws ls rs us l
      → after ≡ stored sums read answer x h ws ls rs us l
  stored-accepted e is = rw e is

  module _ {r : Refusal} (e : answer ≡ Err r) {report : Report} (is : report ≡ refusal_report r) where
    pub stored-sum : {host pool scratch result : List ℕ} → both sums (is_singular r) ≡ true
        → host ≡ over (bytes_of (record_words x)) l.host
        → pool ≡ over (bytes_of ws) l.pool
        → scratch ≡ over (bytes_of ls) l.scratch
        → result ≡ over (bytes_of us) l.result
        → ◌≡◌ {A = Left} (record {
          report = report;
          lent = record { host = host; pool = pool; scratch = scratch; line = l.line; result = result };
        }) (stored sums read answer x h ws ls rs us l)
    unfolding over
    stored-sum sum a b c d = rw (e, sum, is, a, b, c, d) refl

    pub stored_refused : both sums (is_singular r) ≡ false
        → ◌≡◌ {A = Left} (record { report = report; lent = l }) (stored sums read answer x h ws ls rs us l)
    stored_refused sum = rw (e, sum, is) refl
