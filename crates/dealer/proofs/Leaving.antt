-- What the dealer's code leaves is what the definition of dealing says, for both sorts.
--   deal-refused   a refusal changes nothing
--   half_back      a half that was written over a lent slot
--   deal-done      both pools with their halves
-- Assumes nothing.
use mathlib.Core.Path.{◌≡◌, sym, ap, ◌∙◌}
use mathlib.Core.List.{List}
use Prim.Native.Nat.{ℕ, ◌+◌, ◌-◌, ◌*◌}
use lib.ListN.{length, take, drop}
use borrow.Rule.Slice.PartMut.{put_mid}
use Rattle.algebra.specs.Words.{over}
use Rattle.protocol.specs.declared.Refusal.{Refusal}
use Rattle.std.specs.Prelude.{Ok, Err}
use Rattle.protocol.specs.Judge.{refused, done}
use Rattle.protocol.specs.Drawing.{words_read}
use Rattle.protocol.specs.Tape.{slot_at, slot_words, pool_with}
use Rattle.protocol.specs.Deal.{Request, draw_size, deal_tests, dealt_over, dealt_effect, deal}
use Rattle.protocol.specs.Step.{answer_reply}
use Rattle.judging.specs.InOrder.{judged}
use Rattle.judging.proofs.InOrder.{refused-by, accepted-by}
use Rattle.tape.proofs.Slots.{slot-part, slot-back}
use Rattle.dealer.specs.Dealt.{Pools, pools, first_half_words, second_half_words}

pub half_back : (pool ys half : List ℕ) (size index : ℕ) → length ys ≡ size
    → ys ≡ over half (take (index * size + size - index * size) (drop (index * size) pool))
    → put_mid (index * size) (index * size + size - index * size) pool ys ≡ pool_with (slot_at pool size index) (over half (slot_words (slot_at pool size index)))
half_back pool ys half size index n e =
    slot-back pool ys size index n ∙ ap (pool_with (slot_at pool size index)) (e ∙ ap (over half) (slot-part pool size index))

module _ (first second : List ℕ) (size index : ℕ) (r : Request) where
  pub deal-refused : {e : Refusal} → judged (deal_tests (slot_at first size index) (slot_at second size index) r) ≡ refused e
      → ◌≡◌ {A = Pools} (record { answer = answer_reply (Err e); first = first; second = second })
      (pools first second (deal first second size index r))
  unfolding deal
  deal-refused h = ap (pools first second) (sym (refused-by _ _ h))

  pub deal-done : {read : ℕ} {first' second' : List ℕ} → judged (deal_tests (slot_at first size index) (slot_at second size index) r) ≡ done tt
      → read ≡ words_read r.q (draw_size r) r.words
      → first' ≡ pool_with (slot_at first size index) (over (first_half_words r) (slot_words (slot_at first size index)))
      → second' ≡ pool_with (slot_at second size index) (over (second_half_words r) (slot_words (slot_at second size index)))
      → ◌≡◌ {A = Pools} (record { answer = answer_reply (Ok read); first = first'; second = second' })
      (pools first second (deal first second size index r))
  unfolding deal dealt_effect dealt_over first_half_words second_half_words
  deal-done h e f s = rw (e, f, s) (sym (ap (pools first second) (accepted-by _ _ h)))
