-- A message whose head passed has at most 3,072 residues: `head_few`, `message-few`; one that passed whole has room: `has_room`. Assumes nothing.
use mathlib.Core.Path.{◌≡◌}
use mathlib.Core.Bool.{true}
use mathlib.Core.List.{List, ◌++◌}
use Prim.Native.Nat.{ℕ, ◌≤◌}
use native.Mathlib.Omega.{arith}
use lib.Dec.{eqb}
use lib.ListN.{length}
use borrow.Author.Tests.{leb-true, eqb-true}
use Rattle.algebra.specs.Count.{total}
use Rattle.protocol.specs.declared.Head.{Head}
use Rattle.protocol.specs.declared.Terms.{Terms}
use Rattle.protocol.specs.Judge.{Test, done}
use Rattle.protocol.specs.Bounds.{sides_fit, shape_tests, terms_tests, input_tests, room_tests}
use Rattle.protocol.specs.Message.{Message, kind_sort, message_size, message_tests}
use Rattle.protocol.proofs.Judge.{All, all_split, passed}
use Rattle.tape.proofs.Sides.{Sides, sides-of}
use Rattle.judging.specs.InOrder.{judged}
use Rattle.judging.specs.Groups.{kind_tests, number_tests, head_tests, count_tests, message_numbers}
use Rattle.judging.proofs.KindLaws.{few-columns, by_kind}

size_few : (kind : ℕ) (t : Terms) → Sides t.m t.k t.p → message_size kind t ≤ 3072
unfolding message_size
size_few kind t s =
    let less = few-columns t.m t.p in
    by_kind kind (λ l. total l ≤ 3072) t (omega (arith, s.few-kp)) (omega (arith, s.few-mk, s.few-mp)) (omega (arith, s.few-mk))
    (omega (arith, s.few-mk, s.few-mp, less)) (omega (arith, s.few-mp, less)) (omega arith)

count-few : (h : Head) (n : ℕ) → sides_fit (kind_sort h.kind) h.terms.m h.terms.k h.terms.p ≡ true
    → eqb n (message_size h.kind h.terms) ≡ true → n ≤ 3072
count-few h n fits count =
    let t = h.terms in
    omega (arith, eqb-true n (message_size h.kind t) count, size_few h.kind t (sides-of (kind_sort h.kind) t.m t.k t.p fits))

pub head_few : (h : Head) (n : ℕ) → judged (message_numbers h n) ≡ done tt → n ≤ 3072
unfolding message_numbers kind_tests number_tests head_tests count_tests
head_few h n e = let a = (passed (message_numbers h n) e).0 in count-few h n a.1.1.1.1.1.0 a.1.1.1.1.1.1.1.0

-- the same from protocol's tests
pub message-few : (a : Message) → All (message_tests a) → length a.residues ≤ 3072
unfolding message_tests terms_tests shape_tests input_tests
message-few a t = count-few a.head (length a.residues) t.1.1.1.1.1.0 t.1.1.1.1.1.1.1.0

pub has_room : (ts : List Test) (n room : ℕ) → judged (ts ++ room_tests n room) ≡ done tt → All ts × (n ≤ room)
unfolding room_tests
has_room ts n room e =
    let o = all_split ts (room_tests n room) (passed (ts ++ room_tests n room) e).0 in
    (o.0, leb-true n room o.1.0)
