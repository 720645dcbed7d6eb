-- `sizes::line::line_length` meets its contract: the head, then the residues, which have the same digits. Assumes nothing.
use mathlib.Core.Path.{◌≡◌, sym, ap₂, ◌∙◌}
use Prim.Native.Nat.{ℕ, ◌+◌, ◌*◌, ◌-◌, ◌≤◌}
use native.Mathlib.Nat.{mul-le-mul}
use native.Mathlib.Omega.{arith}
use Rattle.protocol.specs.Message.{kind_sort, message_size}
use Rattle.protocol.proofs.MessageRoundTrip.{few-digits}
use Rattle.judging.proofs.KindLaws.{few}
use Rattle.sizes.specs.Sizes.{longest_terms}
use Rattle.sizes.proofs.Longest.{fit-terms, few-residues, longest-length}
use Rattle.sizes.proofs.line.line_length.Lts
use Rattle.sizes.proofs.line.line_length.Tie
use Rattle.sizes.proofs.line.line_length.Reads
use Rattle.sizes.proofs.line.line_length.Goals as goal

abbrev After-message_size-residues : Type 0
After-message_size-residues = Lts.After-message_size Tie.the-claims Reads.Pre Reads.Post Tie.handed_clauses

pub message_size-residues-requires : goal.message_size-residues-requires
message_size-residues-requires c =
    let a = c.args in
    rw c.longest_terms.ensures
    (few (kind_sort a.kind) a.m a.k a.p (fit-terms a.kind a.q a.m a.k a.p c.requires).sides)

-- the residues of the longest message
residues : (c : After-message_size-residues)
    → let a = c.args in
    c.message_size-residues.result ≡ message_size a.kind (longest_terms a.q a.m a.k a.p)
residues c = rw c.longest_terms.ensures at c.message_size-residues.ensures

pub overflow_sub-q : goal.overflow_sub-q
overflow_sub-q c =
    let a = c.args in
    omega (arith, (fit-terms a.kind a.q a.m a.k a.p c.requires).big)

digits : (c : goal.After-digit_count) → c.digit_count.result ≤ 10
digits c =
    let a = c.args in
    let t = fit-terms a.kind a.q a.m a.k a.p c.requires in
    omega (arith, c.digit_count.ensures, few-digits (a.q - 1) (omega (arith, t.small)))

bytes : (c : goal.After-digit_count) → c.message_size-residues.result * (c.digit_count.result + 1) ≤ 3072 * 11
bytes c =
    let a = c.args in
    let d = digits c in
    let n = few-residues a.kind a.q a.m a.k a.p c.requires in
    mul-le-mul {n₁ = c.message_size-residues.result} {m₁ = c.digit_count.result + 1} {n₂ = 3072} {m₂ = 11}
    (omega (arith, residues c.before.before.before)) (omega arith)

pub overflow_add-result : goal.overflow_add-result
overflow_add-result c = let d = digits c in omega arith

pub overflow_mul-result : goal.overflow_mul-result
overflow_mul-result c = let b = bytes c in omega arith

pub overflow_add-result-2 : goal.overflow_add-result-2
overflow_add-result-2 c = let b = bytes c in omega (arith, c.line_length.ensures.few)

pub returns : goal.returns
returns c =
    let a = c.args in
    ap₂ (λ (x y : ℕ). x + y) c.line_length.ensures.bytes
    (ap₂ (λ (x y : ℕ). x * (y + 1)) (residues c.before.before.before) c.digit_count.ensures)
    ∙ sym (longest-length a.kind a.q a.m a.k a.p)
