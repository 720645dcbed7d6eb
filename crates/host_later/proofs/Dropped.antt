-- A drop, and a call that is lent no line.
--   drop-no-sent, drop-no-result   a drop sends nothing, and nothing results
--   nothing_lent                   what is left where a line and a result are empty
-- Assumes nothing.
use mathlib.Core.Path.{◌≡◌, refl, ap₂, ◌∙◌}
use mathlib.Core.Bool.{Bool, true, false, cond}
use mathlib.Core.List.{List, [], ◌∷◌}
use Prim.Native.Nat.{ℕ}
use native.Mathlib.Omega.{arith}
use lib.Dec.{eqb}
use lib.ListN.{length}
use Rattle.protocol.specs.Tape.{Slot}
use Rattle.protocol.specs.Step.{Outcome}
use Rattle.protocol.specs.Drop.{drop_right, drop_solver, drop_blinder}
use Rattle.entry.specs.declared.Session.{Session}
use Rattle.entry.specs.declared.Report.{Report}
use Rattle.entry.specs.Record.{BLINDER, SOLVER, right_of, solver_of, blinder_of, of_right, of_solver, of_blinder}
use Rattle.entry.specs.Steps.{recorded, drop_step}
use Rattle.entry.specs.Entry.{Left}
use Rattle.local.proofs.Recorded.{NoSent, NoResult, no-sent, no_result}

module _ (x : Session) (s : Slot) (scratch : List ℕ) where
  -- by the record's end
  abbrev dropped_by : (b c : Bool) → Outcome Session
  dropped_by b c =
      cond b (recorded of_solver (drop_solver (solver_of x) s))
      (cond c (recorded of_blinder (drop_blinder (blinder_of x) s scratch)) (recorded of_right (drop_right (right_of x) s)))

  pub drop-no-sent : NoSent (drop_step x s scratch)
  unfolding drop_step drop_solver drop_blinder drop_right
  drop-no-sent = go (eqb x.end SOLVER) (eqb x.end BLINDER)
    where
      go : (b c : Bool) → NoSent (dropped_by b c)
      go true c = no-sent of_solver _ _ refl
      go false true = no-sent of_blinder _ _ refl
      go false false = no-sent of_right _ _ refl

  pub drop-no-result : NoResult (drop_step x s scratch)
  unfolding drop_step drop_solver drop_blinder drop_right
  drop-no-result = go (eqb x.end SOLVER) (eqb x.end BLINDER)
    where
      go : (b c : Bool) → NoResult (dropped_by b c)
      go true c = no_result of_solver _ _ refl
      go false true = no_result of_blinder _ _ refl
      go false false = no_result of_right _ _ refl

-- ---- nothing lent

empty : (l : List ℕ) → length l ≡ 0 → [] ≡ l
empty [] h = refl
empty (w ∷ l) h = absurd (omega arith)

pub nothing_lent : {report : Report} {host pool scratch line result : List ℕ} {o : Left} → length line ≡ 0 → length result ≡ 0
    → ◌≡◌ {A = Left} (record { report = report; lent = record { host = host; pool = pool; scratch = scratch; line = line; result = result } }) o
    → ◌≡◌ {A = Left} (record { report = report; lent = record { host = host; pool = pool; scratch = scratch; line = []; result = [] } }) o
nothing_lent {report} {host} {pool} {scratch} {line} {result} h k e =
    let with-these : List ℕ → List ℕ → Left =
    λ l r. record { report = report; lent = record { host = host; pool = pool; scratch = scratch; line = l; result = r } } in
    ap₂ with-these (empty line h) (empty result k) ∙ e
