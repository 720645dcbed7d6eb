-- A reply tells all that its answer does: equal replies are of equal answers.
--   reply-determines    of any judged call
--   answer-determines   of the answers of steps, dealings and drops
-- Assumes nothing.
use mathlib.Core.Path.{◌≡◌, refl, sym, ap, ◌∙◌}
use Prim.Native.Nat.{ℕ}
use native.Mathlib.Omega.{arith}
use Rattle.protocol.specs.declared.Refusal.{Refusal}
use Rattle.protocol.specs.Answer.{Answer}
use Rattle.std.specs.Prelude.{Ok, Err}
use Rattle.protocol.specs.Judge.{refusal_number, Judged, refused, done, Reply, reply_of}
use Rattle.protocol.specs.Step.{answer_reply}
use Rattle.protocol.proofs.Judge.{same-refusal, not-zero}

pub reply-determines : {A : Type 0} (zero : A) (a b : Judged A) → reply_of zero a ≡ reply_of zero b → a ≡ b
reply-determines {A} zero (refused r) (refused s) e = ap refused (same-refusal r s (ap (λ (x : Reply A). x.number) e))
reply-determines {A} zero (refused r) (done b) e = absurd (omega (arith, not-zero r, ap (λ (x : Reply A). x.number) e))
reply-determines {A} zero (done a) (refused s) e = absurd (omega (arith, not-zero s, ap (λ (x : Reply A). x.number) e))
reply-determines {A} zero (done a) (done b) e = ap done (ap (λ (x : Reply A). x.values) e)

-- an answer, as a judged call that gives the words read, and back
abbrev judged_as : Answer → Judged ℕ
judged_as (Ok n) = done n
judged_as (Err r) = refused r

abbrev answer_as : Judged ℕ → Answer
answer_as (done n) = Ok n
answer_as (refused r) = Err r

answer_back : (a : Answer) → answer_as (judged_as a) ≡ a
answer_back (Ok n) = refl
answer_back (Err r) = refl

answer-reply : (a : Answer) → answer_reply a ≡ reply_of 0 (judged_as a)
answer-reply (Ok n) = refl
answer-reply (Err r) = refl

pub answer-determines : (a b : Answer) → answer_reply a ≡ answer_reply b → a ≡ b
answer-determines a b e =
    sym (answer_back a)
    ∙ (ap answer_as (reply-determines 0 (judged_as a) (judged_as b) (sym (answer-reply a) ∙ (e ∙ answer-reply b))) ∙ answer_back b)
