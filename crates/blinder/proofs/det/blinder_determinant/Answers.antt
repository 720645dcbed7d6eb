-- `blinder::det::blinder_determinant` meets its contract. Assumes nothing.
use mathlib.Core.Path.{◌≡◌, refl, sym, ◌∙◌}
use mathlib.Core.List.{List, []}
use Prim.Native.Nat.{ℕ}
use native.Mathlib.Nat.{mod-lt}
use native.Mathlib.Omega.{arith}
use lib.Dec.{leb}
use lib.ListN.{length}
use Rattle.algebra.specs.Residue.{mul_mod}
use Rattle.algebra.proofs.Prime.{prime-test}
use Rattle.protocol.specs.declared.BlinderSession.{BlinderSession}
use Rattle.protocol.specs.declared.Refusal.{Refusal}
use Rattle.protocol.specs.declared.Refusal.TheVariants.{Singular}
use Rattle.protocol.specs.Judge.{refused, done}
use Rattle.protocol.specs.Tape.{Slot, slot_at}
use Rattle.protocol.specs.Message.{Message, message_in, message_size, message_parts}
use Rattle.protocol.specs.System.{blinder_determinant_effect, blinder_determinant_tests, blinder_determinant}
use Rattle.judging.specs.InOrder.{judged}
use Rattle.judging.proofs.KindLaws.{size-6}
use Rattle.judging.proofs.Leaving.{refused-leaves, step-leaves}
use Rattle.blinder.specs.Later.{later_step}
use Rattle.blinder.specs.Division.{divisor_of, Dividing}
use Rattle.blinder.proofs.Known.{determinant-known}
use Rattle.blinder.proofs.Division.{dividing-known, judged-singular, judged-regular, determinant-computed}
use Rattle.blinder.proofs.Order.{determinant-phases}
use Rattle.blinder.proofs.det.blinder_determinant.Goals as goal

-- ---- where the tests of every later step passed: P and Q have an inverse, or not
module _ (x : BlinderSession) (s : Slot) (scratch : List ℕ) (a : Message) (room : ℕ)
    (passed : judged (later_step 6 (leb (message_size 6 x.terms) room) x s scratch a) ≡ done tt) where
  dividing : Dividing x.terms s scratch
  dividing = dividing-known x s scratch a _ passed

  singular : {by : ℕ} → by ≡ divisor_of x.terms s scratch → by ≡ 0
      → judged (blinder_determinant_tests x s scratch a room) ≡ refused Singular
  unfolding divisor_of
  singular is z =
      determinant-phases x s scratch a room
      ∙ rw passed (judged-singular (prime-test _ dividing.prime) _ dividing.p-residues dividing.q-residues (sym is ∙ z))

  accepted : {by : ℕ} → by ≡ divisor_of x.terms s scratch → (by ≡ 0 → ⊥)
      → judged (blinder_determinant_tests x s scratch a room) ≡ done tt
  unfolding divisor_of
  accepted is some =
      determinant-phases x s scratch a room
      ∙ rw passed (judged-regular (prime-test _ dividing.prime) _ dividing.p-residues dividing.q-residues (λ z. some (is ∙ z)))

-- ---- where one of them did not
failed : (x : BlinderSession) (s : Slot) (scratch : List ℕ) (a : Message) (room : ℕ) {r : Refusal}
    → refused r ≡ judged (later_step 6 (leb (message_size 6 x.terms) room) x s scratch a)
    → judged (blinder_determinant_tests x s scratch a room) ≡ refused r
failed x s scratch a room told = determinant-phases x s scratch a room ∙ rw (sym told) refl

pub returns-in-Err : goal.returns-in-Err
unfolding blinder_determinant
returns-in-Err c =
    let a = c.args in
    let s = slot_at a.pool.now a.at.size a.at.index in
    let m = message_in a.a in
    rw c.refused.ensures
    (sym (refused-leaves a.s s a.scratch.now [] a.out.now _ (blinder_determinant_effect a.s s a.scratch.now m)
    (failed a.s s a.scratch.now m (length a.out.now) (rw c.has_room-fits.ensures at c.in-Err.ensures))))

pub divisor-by-requires : goal.divisor-by-requires
divisor-by-requires c =
    let a = c.args in
    let s = slot_at a.pool.now a.at.size a.at.index in
    let m = message_in a.a in
    let passed = sym (rw c.has_room-fits.ensures at c.in_default.ensures) in
    dividing-known a.s s a.scratch.now m _ passed

pub returns-then-by-eq0 : goal.returns-then-by-eq0
unfolding blinder_determinant
returns-then-by-eq0 c =
    let a = c.args in
    let s = slot_at a.pool.now a.at.size a.at.index in
    let m = message_in a.a in
    let passed = sym (rw c.has_room-fits.ensures at c.in_default.ensures) in
    rw c.refused-then-by-eq0.ensures
    (sym (refused-leaves a.s s a.scratch.now [] a.out.now _ (blinder_determinant_effect a.s s a.scratch.now m)
    (singular a.s s a.scratch.now m (length a.out.now) passed c.divisor-by.ensures c.if-by-eq0.true)))

pub compute-done-requires : goal.compute-done-requires
unfolding divisor_of mul_mod
compute-done-requires c =
    let a = c.args in
    let s = slot_at a.pool.now a.at.size a.at.index in
    let m = message_in a.a in
    let passed = sym (rw c.has_room-fits.ensures at c.in_default.ensures) in
    let some = c.if-by-eq0.false in
    let d = dividing a.s s a.scratch.now m (length a.out.now) passed in
    let f = (determinant-known a.s s m a.scratch.now (length a.out.now) (accepted a.s s a.scratch.now m (length a.out.now) passed c.divisor-by.ensures some)).fits in
    let size = size-6 a.s.terms in
    record {
      prime = d.prime;
      sides = d.placed.sides;
      unit = omega (arith, some);
      residue = rw c.divisor-by.ensures (mod-lt _ d.some-q);
      lent = d.lent;
      full = omega (arith, f.message.residues.size, size);
      room = omega (arith, f.write-room, size);
    }

pub spend_at-requires : goal.spend_at-requires
spend_at-requires c =
    let a = c.args in
    let s = slot_at a.pool.now a.at.size a.at.index in
    let m = message_in a.a in
    let passed = sym (rw c.has_room-fits.ensures at c.in_default.ensures) in
    (dividing a.s s a.scratch.now m (length a.out.now) passed).placed

pub returns : goal.returns
unfolding blinder_determinant blinder_determinant_effect message_parts
returns c =
    let a = c.args in
    let s = slot_at a.pool.now a.at.size a.at.index in
    let m = message_in a.a in
    let passed = sym (rw c.has_room-fits.ensures at c.in_default.ensures) in
    step-leaves a.s s a.scratch.now [] a.out.now _ (blinder_determinant_effect a.s s a.scratch.now m)
    (accepted a.s s a.scratch.now m (length a.out.now) passed c.divisor-by.ensures c.if-by-eq0.false)
    (c.compute-done.ensures ∙ determinant-computed a.s s a.scratch.now a.out.now m c.divisor-by.ensures)
    c.spend_at.ensures
