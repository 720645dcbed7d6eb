-- What the calls of a run leave is the run of the definition: no call is refused, and each message is handed on as it was sent.
--   fits                 what the tests say
--   zeros-taken, pool-taken, rooms-taken   how many words the run's slices have
--   dealt-for            dealing into empty pools
--   run-made             from what the three steps leave
-- Assumes nothing.
use mathlib.Core.Path.{◌≡◌, sym, ap, ap₂, ◌∙◌}
use mathlib.Core.List.{List, [], ◌++◌, append-nil}
use Prim.Native.Nat.{ℕ, ◌+◌, ◌*◌, ◌≤◌, ◌<◌}
use native.Mathlib.Omega.{arith}
use lib.ListN.{length, get_or, take, drop, replicate, length-replicate, get_or-replicate}
use lib.Seq.{get_or-take, length-take-le, drop-length, ext_get_or}
use Rattle.algebra.specs.Matrix.{zeros}
use Rattle.algebra.specs.Words.{over}
use Rattle.algebra.specs.Product.{right_share}
use Rattle.algebra.proofs.Lists.{length-tabulate, zeros-at, sub-residues}
use Rattle.protocol.specs.declared.Terms.{Terms}
use Rattle.protocol.specs.declared.Head.{Head}
use Rattle.protocol.specs.declared.RightSession.{RightSession}
use Rattle.protocol.specs.Judge.{done, Reply}
use Rattle.protocol.specs.Drawing.{drawn}
use Rattle.protocol.specs.Tape.{Slot, slot_at, pool_with}
use Rattle.protocol.specs.Deal.{deal, product_request}
use Rattle.protocol.specs.Message.{Message, message_layout, message_size}
use Rattle.protocol.specs.Product.{no_right, right_first, right_first_effect, left_step, left_effect, right_last, right_last_effect}
use Rattle.protocol.specs.Rehearsal.{Input, Run, request, rehearsal_tests, slot_size, run, dealt_run, left_slot, right_slot}
use Rattle.protocol.proofs.Judge.{passed}
use Rattle.protocol.proofs.StepTests.{left_step_lem, right-last}
use Rattle.protocol.proofs.ProductRight.{ProductCalls, ProductRight, one, two, three}
use Rattle.protocol.proofs.RehearsalRight.{RehearsalFits, rehearsal-tests, run_calls, rehearsal-dealt, rehearsal-steps, rehearsal-run}
use Rattle.judging.specs.InOrder.{judged}
use Rattle.judging.specs.Leaves.{Leaves, leaves}
use Rattle.dealer.specs.Dealt.{Pools, pools}
use Rattle.protocol.specs.Message.{message_with}
use Rattle.rehearse_lines.specs.Prints.{run_of}
use Rattle.rehearse.specs.Rooms.{Rooms, DealtFor}

-- ---- slices that are written whole, and an empty pool of one slot

over-all : (ws l : List ℕ) → length ws ≡ length l → over ws l ≡ ws
unfolding over
over-all ws l e = ap (λ (n : ℕ). ws ++ drop n l) e ∙ (ap (λ (r : List ℕ). ws ++ r) (drop-length l) ∙ append-nil ws)

zeros-length : (size : ℕ) → length (zeros size) ≡ size
unfolding zeros
zeros-length size = length-tabulate size (λ e. 0)

take-zeros : (n k : ℕ) → n ≤ k → take n (replicate {A = ℕ} k 0) ≡ zeros n
take-zeros n k h =
    let long : length (take n (replicate {A = ℕ} k 0)) ≡ n = length-take-le n (replicate {A = ℕ} k 0) (omega (arith, length-replicate {A = ℕ} k 0)) in
    ext_get_or 0 (take n (replicate {A = ℕ} k 0)) (zeros n) (long ∙ sym (zeros-length n)) (λ e l. at e (omega arith))
  where
    at : (e : ℕ) → e < n → get_or (take n (replicate {A = ℕ} k 0)) e 0 ≡ get_or (zeros n) e 0
    at e l = get_or-take n (replicate {A = ℕ} k 0) e 0 l ∙ get_or-replicate k e 0 0 (omega arith) ∙ sym (zeros-at n e l)

-- ---- the slices of a run

pub zeros-taken : (n k : ℕ) → n ≤ k → length (take n (replicate {A = ℕ} k 0)) ≡ n
zeros-taken n k h = length-take-le n (replicate {A = ℕ} k 0) (omega (arith, length-replicate {A = ℕ} k 0))

pub pool-taken : (t : Terms) (n k : ℕ) → n ≤ k → n ≡ slot_size t → take n (replicate {A = ℕ} k 0) ≡ zeros (slot_size t)
pool-taken t n k h e = take-zeros n k h ∙ ap zeros e

pub rooms-taken : (t : Terms) (one two share : ℕ) → one ≤ 2048 → two ≤ 3072 → share ≤ 1024
    → one ≡ t.k * t.p → two ≡ t.m * t.k + t.m * t.p → share ≡ t.m * t.p
    → Rooms t (length (take one (replicate {A = ℕ} 2048 0))) (length (take two (replicate {A = ℕ} 3072 0)))
    (length (take share (replicate {A = ℕ} 1024 0))) (length (take share (replicate {A = ℕ} 1024 0)))
unfolding message_size message_layout
rooms-taken t one two share a b c e f g = record {
  one = zeros-taken one 2048 a ∙ e;
  two = zeros-taken two 3072 b ∙ f;
  left-share = zeros-taken share 1024 c ∙ g;
  right-share = zeros-taken share 1024 c ∙ g;
}

-- ---- the run

same-run : {a a' b b' : Message} {u u' v v' : List ℕ} → a ≡ a' → b ≡ b' → u ≡ u' → v ≡ v'
    → ◌≡◌ {A = Run} (record { one = a; two = b; left_share = u; right_share = v }) (record { one = a'; two = b'; left_share = u'; right_share = v' })
same-run e f g h = rw (e, f, g, h)

module _ (i : Input) (ok : judged (rehearsal_tests i) ≡ done tt) where
  abbrev t : Terms
  t = i.terms

  pub fits : RehearsalFits i
  fits = (rehearsal-tests i).0 (record { all = (passed (rehearsal_tests i) ok).0 })

  abbrev size : ℕ
  size = slot_size t

  abbrev calls : ProductCalls
  calls = run_calls i

  abbrev a : Slot
  a = left_slot i

  abbrev b : Slot
  b = right_slot i

  held : ProductRight t a b calls
  held = rehearsal-steps i fits

  -- the messages and the shares have their sizes
  size-one : length (one t a b calls).sent.residues ≡ message_size 1 t
  size-one = ((left_step_lem t a i.x i.left_words (one t a b calls).sent (message_size 2 t) (t.m * t.p)).means held.step2).0.message.residues.size

  size-two : length (two t a b calls).sent.residues ≡ message_size 2 t
  unfolding right_first_effect
  size-two = ((right-last _ _ (two t a b calls).sent (t.m * t.p)).means held.step3).0.message.residues.size

  size-left : length (two t a b calls).result ≡ t.m * t.p
  unfolding left_effect drawn
  size-left = length-take-le (t.m * t.p) _ fits.left-enough

  size-right : length (three t a b calls).result ≡ t.m * t.p
  unfolding right_first_effect right_last_effect right_share
  size-right = (sub-residues {q = t.q} (omega (arith, fits.terms.big)) (t.m * t.p) _ _).size

  -- ---- dealing

  pub dealt-for : (n : ℕ) (a0 b0 a1 b1 : List ℕ) (r0 : Reply ℕ) → n ≡ size → a0 ≡ zeros size → b0 ≡ zeros size → length a1 ≡ n
      → ◌≡◌ {A = Pools} (record { answer = r0; first = a1; second = b1 }) (pools a0 b0 (deal a0 b0 n 0 (product_request t.tape t.q t.m t.k t.p i.dealer_words)))
      → DealtFor i a1 b1
  unfolding request
  dealt-for n a0 b0 a1 b1 r0 en ea eb long e0 = record {
    fits = ok;
    long = long ∙ en;
    first-is = ap (λ (p : Pools). p.first) (e0 ∙ left-0);
    second_is = ap (λ (p : Pools). p.second) (e0 ∙ left-0);
  }
    where
      left-0 : pools a0 b0 (deal a0 b0 n 0 (product_request t.tape t.q t.m t.k t.p i.dealer_words)) ≡ pools (zeros size) (zeros size) (done (dealt_run i))
      left-0 = rw (ea, eb, en, rehearsal-dealt i fits)

  module _ (a1 b1 : List ℕ) (p : DealtFor i a1 b1) where
    abbrev n : ℕ
    n = length a1

    -- ---- step 1

    module _ (y0 y1 b2 : List ℕ) (r1 : Reply ℕ) (s1 : RightSession) (h1 : Head) (ey : length y0 ≡ message_size 1 t)
        (e1 : ◌≡◌ {A = Leaves RightSession} (record { answer = r1; session = s1; head = h1; pool = b2; scratch = []; sent = y1; result = [] })
        (leaves no_right (slot_at b1 n 0) [] y0 [] (right_first t (slot_at b1 n 0) i.y (length y0)))) where
      left-1 : leaves no_right (slot_at b1 n 0) [] y0 [] (right_first t (slot_at b1 n 0) i.y (length y0)) ≡ leaves no_right b [] y0 [] (done (one t a b calls))
      left-1 = rw (p.second_is, p.long, ey, held.step1)

      sent-1 : message_with h1 y1 ≡ (one t a b calls).sent
      sent-1 =
          ap₂ message_with (ap (λ (z : Leaves RightSession). z.head) (e1 ∙ left-1))
          (ap (λ (z : Leaves RightSession). z.sent) (e1 ∙ left-1) ∙ over-all (one t a b calls).sent.residues y0 (size-one ∙ sym ey))

      session-1 : s1 ≡ (one t a b calls).session
      session-1 = ap (λ (z : Leaves RightSession). z.session) (e1 ∙ left-1)

      pool-1 : b2 ≡ pool_with b (one t a b calls).slot
      pool-1 = ap (λ (z : Leaves RightSession). z.pool) (e1 ∙ left-1)

      -- ---- step 2

      module _ (x0 x1 u0 u a2 : List ℕ) (r2 : Reply ℕ) (h2 : Head) (ex : length x0 ≡ message_size 2 t) (eu : length u0 ≡ t.m * t.p)
          (e2 : ◌≡◌ {A = Leaves Unit} (record { answer = r2; session = tt; head = h2; pool = a2; scratch = []; sent = x1; result = u })
          (leaves tt (slot_at a1 n 0) [] x0 u0 (left_step t (slot_at a1 n 0) i.x i.left_words (record { head = h1; residues = y1 }) (length x0) (length u0)))) where
        left-2 : leaves tt (slot_at a1 n 0) [] x0 u0 (left_step t (slot_at a1 n 0) i.x i.left_words (record { head = h1; residues = y1 }) (length x0) (length u0))
            ≡ leaves tt a [] x0 u0 (done (two t a b calls))
        left-2 = rw (p.long, p.first-is, sent-1, ex, eu, held.step2)

        sent-2 : message_with h2 x1 ≡ (two t a b calls).sent
        sent-2 =
            ap₂ message_with (ap (λ (z : Leaves Unit). z.head) (e2 ∙ left-2))
            (ap (λ (z : Leaves Unit). z.sent) (e2 ∙ left-2) ∙ over-all (two t a b calls).sent.residues x0 (size-two ∙ sym ex))

        share-2 : u ≡ (two t a b calls).result
        share-2 = ap (λ (z : Leaves Unit). z.result) (e2 ∙ left-2) ∙ over-all (two t a b calls).result u0 (size-left ∙ sym eu)

        -- ---- step 3

        module _ (v0 v b3 : List ℕ) (r3 : Reply ℕ) (s3 : RightSession) (h3 : Head) (ev : length v0 ≡ t.m * t.p)
            (e3 : ◌≡◌ {A = Leaves RightSession} (record { answer = r3; session = s3; head = h3; pool = b3; scratch = []; sent = []; result = v })
            (leaves s1 (slot_at b2 n 0) [] [] v0 (right_last s1 (slot_at b2 n 0) (record { head = h2; residues = x1 }) (length v0)))) where
          left-3 : leaves s1 (slot_at b2 n 0) [] [] v0 (right_last s1 (slot_at b2 n 0) (record { head = h2; residues = x1 }) (length v0))
              ≡ leaves (one t a b calls).session (slot_at (pool_with b (one t a b calls).slot) size 0) [] [] v0 (done (three t a b calls))
          left-3 = rw (session-1, pool-1, p.long, sent-2, ev, held.step3)

          share-3 : v ≡ (three t a b calls).result
          share-3 = ap (λ (z : Leaves RightSession). z.result) (e3 ∙ left-3) ∙ over-all (three t a b calls).result v0 (size-right ∙ sym ev)

          pub run-made : run_of h1 y1 h2 x1 u v ≡ run i
          run-made = same-run sent-1 sent-2 share-2 share-3 ∙ sym (rehearsal-run i fits)
