-- Three mornings of 1 by 1 by 1 products modulo 5, computed: both ends kept to the rules, so `window-right` speaks of their windows. The first party is left on
-- the first and the last day, which it missed, and right on the second; the other missed all three.
--   calls, premises           the list, and that its premises hold
--   days, kept                the run of days, each with both ends' sessions
--   shares, flags             the runs, as numbers
--   right-here                so the claim speaks of every window that fits
--   first_two, last-two, all  of two days one was missed by both, and of all three two
--   as-calls                  the same shares, summed and moved
-- Assumes nothing.
use mathlib.Core.Path.{◌≡◌, refl, ap, ap₂, ◌∙◌}
use mathlib.Core.Bool.{true}
use mathlib.Core.List.{List, [], ◌∷◌}
use mathlib.Core.Logic.{inl, inr}
use Prim.Native.Nat.{ℕ}
use Rattle.algebra.specs.Residue.{add_mod}
use Rattle.protocol.specs.declared.Terms.{Terms}
use Rattle.protocol.specs.Judge.{done}
use Rattle.protocol.specs.Tape.{left, right}
use Rattle.protocol.specs.Deal.{Request, product_request}
use Rattle.protocol.specs.Window.{window_fits, window_share, next_window, moves, flags_fit, missed_by_both}
use Rattle.history.specs.Ends.{right-first, left-only, right-last}
use Rattle.history.specs.Log.{first, second, Call, dealing, beginning, continuing, World, run, Premises}
use Rattle.history.specs.Seen.{view}
use Rattle.history.specs.Windows.{Day, Played, DayKept, Each, shares_of, flags_of, of_one, of_other, WindowRight}
use Rattle.history.proofs.Windows.{window-right}
use Rattle.protocol.proofs.Computing.{window-rules}
use Rattle.history_examples.proofs.Example.{slot-size, sizes, start, lent, msg, answers, distinct, own, other-role, three-slots, Ends-here, paired, arrived}
use Rattle.history_examples.proofs.Computing.{list-rules}

-- ---- the list

abbrev day-terms : (tape : ℕ) → Terms
day-terms i = record { session = record { 0 = 9 }; tape = record { 0 = i }; q = 5; m = 1; k = 1; p = 1 }

abbrev a-day : (tape x0 y0 a0 : ℕ) → Request
a-day i x0 y0 a0 = product_request (record { 0 = i }) 5 1 1 1 (x0 ∷ y0 ∷ a0 ∷ [])

-- Newest first. On each day a tape is dealt, right begins, left answers, right ends: sessions 0 and 1, then 2 and 3, 4 and 5
abbrev calls : List Call
calls =
    continuing second 2 0 4 (right-last (msg 2 (day-terms 3) (0 ∷ 2 ∷ [])) 1)
    ∷ beginning first 2 0 (day-terms 3) (left-only (1 ∷ []) (1 ∷ []) (msg 1 (day-terms 3) (3 ∷ [])) 2 1)
    ∷ beginning second 2 0 (day-terms 3) (right-first (1 ∷ []) 1)
    ∷ dealing first slot-size 2 (a-day 3 4 3 0)
    ∷ continuing first 1 0 2 (right-last (msg 2 (day-terms 2) (1 ∷ 2 ∷ [])) 1)
    ∷ beginning second 1 0 (day-terms 2) (left-only (1 ∷ []) (3 ∷ []) (msg 1 (day-terms 2) (4 ∷ [])) 2 1)
    ∷ beginning first 1 0 (day-terms 2) (right-first (0 ∷ []) 1)
    ∷ dealing second slot-size 1 (a-day 2 0 1 4)
    ∷ continuing second 0 0 0 (right-last (msg 2 (day-terms 1) (2 ∷ 4 ∷ [])) 1)
    ∷ beginning first 0 0 (day-terms 1) (left-only (1 ∷ []) (2 ∷ []) (msg 1 (day-terms 1) (4 ∷ [])) 2 1)
    ∷ beginning second 0 0 (day-terms 1) (right-first (1 ∷ []) 1)
    ∷ dealing first slot-size 0 (a-day 1 1 2 3)
    ∷ []

abbrev end : World
end = run sizes start lent calls

pub all-answers : answers calls ≡ 0 ∷ 0 ∷ 0 ∷ 0 ∷ 0 ∷ 0 ∷ 0 ∷ 0 ∷ 0 ∷ 0 ∷ 0 ∷ 0 ∷ []
unfolding list-rules
all-answers = refl

infixr 50 ◌and◌
◌and◌ : {A B : Type 0} → A → B → A × B
a and b = (a, b)

pub premises : Premises sizes end.log
unfolding list-rules
premises = (
  distinct end.log refl,
  record { own-half = own second right refl; own-scratch = λ e. other-role e (λ e. cc) }
      and record { own-half = own first left refl; own-scratch = λ e. other-role e (λ e. cc) }
      and record { own-half = own second right refl; own-scratch = λ e. other-role e (λ e. cc) }
      and (λ w. refl)
      and record { own-half = own first right refl; own-scratch = λ e. other-role e (λ e. cc) }
      and record { own-half = own second left refl; own-scratch = λ e. other-role e (λ e. cc) }
      and record { own-half = own first right refl; own-scratch = λ e. other-role e (λ e. cc) }
      and (λ w. refl)
      and record { own-half = own second right refl; own-scratch = λ e. other-role e (λ e. cc) }
      and record { own-half = own first left refl; own-scratch = λ e. other-role e (λ e. cc) }
      and record { own-half = own second right refl; own-scratch = λ e. other-role e (λ e. cc) }
      and (λ w. refl)
      and tt,
)

-- ---- the run

abbrev days : List Day
days = record { one = 1; other = 0 } ∷ record { one = 2; other = 3 } ∷ record { one = 5; other = 4 } ∷ []

ends : Ends-here end left 1 0 1 ((4 ∷ []) ∷ []) ((4 ∷ []) ∷ []) ((2 ∷ 4 ∷ []) ∷ []) ((2 ∷ 4 ∷ []) ∷ [])
    × Ends-here end left 3 2 2 ((4 ∷ []) ∷ []) ((4 ∷ []) ∷ []) ((1 ∷ 2 ∷ []) ∷ []) ((1 ∷ 2 ∷ []) ∷ [])
    × Ends-here end left 5 4 3 ((3 ∷ []) ∷ []) ((3 ∷ []) ∷ []) ((0 ∷ 2 ∷ []) ∷ []) ((0 ∷ 2 ∷ []) ∷ [])
unfolding list-rules
ends = (
  (refl, refl, refl, refl, refl, refl, refl, refl, refl, refl),
  (refl, refl, refl, refl, refl, refl, refl, refl, refl, refl),
  (refl, refl, refl, refl, refl, refl, refl, refl, refl, refl),
)

abbrev Sides : Terms → Type 0
Sides t = (t.q ≡ 5) × (t.m ≡ 1) × (t.k ≡ 1) × (t.p ≡ 1)

sides : Sides (view end.log 1).terms × Sides (view end.log 3).terms × Sides (view end.log 5).terms
unfolding list-rules
sides = ((refl, refl, refl, refl), (refl, refl, refl, refl), (refl, refl, refl, refl))

played : (n n' i : ℕ) (a b : List ℕ) → Ends-here end left n n' i (a ∷ []) (a ∷ []) (b ∷ []) (b ∷ []) → Sides (view end.log n).terms
    → Played end 5 n n'
played n n' i a b e s = record {
  paired = paired end left n n' i _ _ _ _ e;
  arrived = arrived end left n n' i _ _ e refl refl;
  modulus = s.0;
  one-row = s.1;
  one-term = s.2;
  one-column = s.3;
}

pub kept : Each (DayKept end 5) days
kept = inl (played 1 0 1 _ _ ends.0 sides.0) and inr (played 3 2 2 _ _ ends.1 sides.1) and inl (played 5 4 3 _ _ ends.2 sides.2) and tt

-- the first party's, and the other's
pub shares : (shares_of end of_one days ≡ 2 ∷ 2 ∷ 1 ∷ []) × (shares_of end of_other days ≡ 4 ∷ 3 ∷ 0 ∷ [])
unfolding list-rules
shares = (refl, refl)

pub flags : (flags_of end of_one days ≡ 1 ∷ 0 ∷ 1 ∷ []) × (flags_of end of_other days ≡ 1 ∷ 1 ∷ 1 ∷ [])
unfolding list-rules
flags = (refl, refl)

flags-fit : (flags_fit (1 ∷ 0 ∷ 1 ∷ []) ≡ done tt) × (flags_fit (1 ∷ 1 ∷ 1 ∷ []) ≡ done tt)
unfolding window-rules
flags-fit = (refl, refl)

-- so the claim speaks of every window that fits
pub right-here : (from w : ℕ) → window_fits 5 3 from w ≡ true → WindowRight end 5 days from w
right-here from w = window-right sizes start lent three-slots calls premises 5 days kept
    (ap flags_fit flags.0 ∙ flags-fit.0) (ap flags_fit flags.1 ∙ flags-fit.1) from w

-- ---- what it says

fits : (window_fits 5 3 0 2 ≡ true) × (window_fits 5 3 1 2 ≡ true) × (window_fits 5 3 0 3 ≡ true)
unfolding window-rules
fits = (refl, refl, refl)

counts : (missed_by_both (1 ∷ 0 ∷ 1 ∷ []) (1 ∷ 1 ∷ 1 ∷ []) 0 2 ≡ 1) × (missed_by_both (1 ∷ 0 ∷ 1 ∷ []) (1 ∷ 1 ∷ 1 ∷ []) 1 2 ≡ 1)
    × (missed_by_both (1 ∷ 0 ∷ 1 ∷ []) (1 ∷ 1 ∷ 1 ∷ []) 0 3 ≡ 2)
unfolding window-rules
counts = (refl, refl, refl)

-- the two shares of a window add to this number
abbrev AddsTo : (from w n : ℕ) → Type 0
AddsTo from w n = (r : WindowRight end 5 days from w) × (add_mod 5 r.share r.other-share ≡ n)

adds-to : (from w n : ℕ) → window_fits 5 3 from w ≡ true → missed_by_both (1 ∷ 0 ∷ 1 ∷ []) (1 ∷ 1 ∷ 1 ∷ []) from w ≡ n → AddsTo from w n
adds-to from w n f e =
    let r = right-here from w f in
    (r, r.adds ∙ (ap₂ (λ (x y : List ℕ). missed_by_both x y from w) flags.0 flags.1 ∙ e))

pub first_two : AddsTo 0 2 1
first_two = adds-to 0 2 1 fits.0 counts.0

pub last-two : AddsTo 1 2 1
last-two = adds-to 1 2 1 fits.1 counts.1

pub all : AddsTo 0 3 2
all = adds-to 0 3 2 fits.2 counts.2

-- as calls: one's shares 2 + 2 and then, moved by a day, 2 + 1; the other's 4 + 3 and 3 + 0
pub as-calls : (window_share 5 (2 ∷ 2 ∷ 1 ∷ []) 0 2 ≡ done 4) × (next_window 5 (2 ∷ 2 ∷ 1 ∷ []) 0 2 4 ≡ done 3)
    × (moves 5 (2 ∷ 2 ∷ 1 ∷ []) 0 2 1 ≡ done 3)
    × (window_share 5 (4 ∷ 3 ∷ 0 ∷ []) 0 2 ≡ done 2) × (next_window 5 (4 ∷ 3 ∷ 0 ∷ []) 0 2 2 ≡ done 3)
unfolding window-rules
as-calls = (refl, refl, refl, refl, refl)
