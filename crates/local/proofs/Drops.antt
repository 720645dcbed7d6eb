-- The drops of right and solver, on what a call looks at.
--   drop-right-seen, drop-solver-seen
-- Assumes nothing.
use mathlib.Core.Path.{◌≡◌, refl, ap, ◌∙◌}
use mathlib.Core.Bool.{true}
use mathlib.Core.List.{List, []}
use Prim.Native.Nat.{ℕ}
use Rattle.algebra.specs.Count.{both}
use Rattle.protocol.specs.declared.Terms.{Terms}
use Rattle.protocol.specs.declared.RightSession.{RightSession}
use Rattle.protocol.specs.declared.SolverSession.{SolverSession}
use Rattle.protocol.specs.Judge.{Test, given, clear, done, judge}
use Rattle.protocol.specs.Bounds.{sides_fit, shape_tests, terms_tests}
use Rattle.protocol.specs.Tape.{Slot, is_slot, slot_words, Role, right, solver, sort_of, words_spent, slot_tests, half_tests, tape_tests}
use Rattle.protocol.specs.Step.{Outcome, is_open, open_tests}
use Rattle.protocol.specs.Product.{closed_right}
use Rattle.protocol.specs.System.{closed_solver}
use Rattle.protocol.specs.Drop.{dropped, drop_right, drop_solver}
use Rattle.protocol.proofs.Judge.{Pass, passed}
use Rattle.protocol.proofs.Tests.{open-tests}
use Rattle.judging.specs.InOrder.{judged}
use Rattle.judging.proofs.Fits.{open-placed}
use Rattle.local.specs.Seen.{seen, behind}
use Rattle.local.proofs.Outcomes.{on_done, entering, alike}
use Rattle.local.proofs.Slots.{seen-inside, spent_seen}
use Rattle.local.proofs.Tests.{open-seen, both-no, early-size, early-turn, session-cases}

module _ (role : Role) (due : ℕ) (t : Terms) (s : Slot) where
  open-fits : sides_fit (sort_of role) t.m t.k t.p ≡ true → is_slot s ≡ true → open_tests role due t s ≡ open_tests role due t (seen role t s)
  open-fits e f = rw (open-seen role t s e f due) refl

  pub open-judged : judged (open_tests role due t s) ≡ judged (open_tests role due t (seen role t s))
  unfolding open_tests terms_tests shape_tests slot_tests half_tests tape_tests given clear both
  open-judged =
      let in-pool = seen-inside role t s in
      let ts = open_tests role due t s in
      let us = open_tests role due t (seen role t s) in
      session-cases role due t s
      (λ o. early-turn ts us refl refl refl (rw (o, in-pool) refl) (rw o refl) (rw o refl))
      (λ o h. early-size ts us refl refl refl (rw (o, h) (simp both-no)) (rw (o, h) (simp both-no)))
      (λ o h. early-size ts us refl refl refl (rw (o, h) (simp both-no)) (rw (o, in-pool, h) (simp both-no)))
      (λ e f. ap judged (open-fits e f))

  -- a drop of any end that keeps no scratch
  drop-seen : {S : Type 0} (x : S) → judge (open_tests role due t s) (dropped x (words_spent role t (slot_words s)) [])
      ≡ on_done (entering 0 (behind role t s)) (judge (open_tests role due t (seen role t s)) (dropped x (words_spent role t (slot_words (seen role t s))) []))
  drop-seen x =
      alike (entering 0 (behind role t s)) (open_tests role due t s) (open_tests role due t (seen role t s)) (dropped x (words_spent role t (slot_words s)) [])
      (dropped x (words_spent role t (slot_words (seen role t s))) []) open-judged
      (λ h.
      let p = open-placed role t s ((open-tests role due t s).0 (record { all = (passed (open_tests role due t s) h).0 })) in
      rw (spent_seen role t s p.sides p.inside p.room) refl)

pub drop-right-seen : (x : RightSession) (s : Slot)
    → drop_right x s ≡ on_done (entering 0 (behind right x.terms s)) (drop_right x (seen right x.terms s))
unfolding drop_right
drop-right-seen x s = drop-seen right x.due x.terms s (closed_right x)

pub drop-solver-seen : (x : SolverSession) (s : Slot)
    → drop_solver x s ≡ on_done (entering 0 (behind solver x.terms s)) (drop_solver x (seen solver x.terms s))
unfolding drop_solver
drop-solver-seen x s = drop-seen solver x.due x.terms s (closed_solver x)
