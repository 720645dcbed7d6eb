-- The calls over a record, on what they look at.
--   next-seen, drop-seen, first-seen
-- Assumes nothing.
use mathlib.Core.Path.{◌≡◌, refl, sym, ap, subst, ◌∙◌}
use mathlib.Core.Bool.{Bool, true, false, cond}
use mathlib.Core.List.{List, [], ◌∷◌}
use Prim.Native.Nat.{ℕ, ◌*◌, ◌≤◌}
use native.Mathlib.Omega.{arith}
use native.Mathlib.Decide.{dec_le}
use lib.Dec.{eqb}
use lib.ListN.{length, take, drop}
use lib.Seq.{take_all, length-take-le}
use borrow.Author.Tests.{eqb-true}
use Rattle.protocol.specs.declared.Terms.{Terms}
use Rattle.protocol.specs.Judge.{refused, done}
use Rattle.protocol.specs.Bounds.{product, system, sides_fit}
use Rattle.protocol.specs.Tape.{Slot, Role, left, right, blinder, solver, sort_of}
use Rattle.protocol.specs.Drawing.{words_read}
use Rattle.protocol.specs.Message.{Message, kind_known}
use Rattle.protocol.specs.Step.{Outcome}
use Rattle.protocol.specs.Product.{left_step, right_first, right_last}
use Rattle.protocol.specs.System.{scratch_size, solver_first, blinder_first, solver_second, blinder_second, solver_ending}
use Rattle.protocol.specs.Drop.{drop_right, drop_solver, drop_blinder}
use Rattle.drawing.specs.Sift.{kept_words}
use Rattle.entry.specs.declared.Session.{Session}
use Rattle.entry.specs.Record.{LEFT, RIGHT, BLINDER, SOLVER, right_of, solver_of, blinder_of, of_left, of_right, of_solver, of_blinder}
use Rattle.entry.specs.Steps.{recorded, first_step, blinder_ending, next_step, drop_step}
use Rattle.entry.specs.Entry.{takes_message}
use Rattle.local.specs.Seen.{least, seen, behind, seen_words, seen_message, opening_message, most_scratch, most_result, most_reply}
use Rattle.local.specs.Seen.{is_system, lent_room, share_room, end_role, session_role, session_terms, coin_count}
use Rattle.local.proofs.Outcomes.{on_done, entering}
use Rattle.local.proofs.Slots.{least-left, least-right}
use Rattle.local.proofs.Sifted.{Sifts}
use Rattle.local.proofs.Product.{right-first-seen, left-seen, right-last-seen}
use Rattle.local.proofs.Solver.{solver-first-seen, solver-second-seen, solver-ending-seen}
use Rattle.local.proofs.Blinder.{blinder-first-seen, blinder-second-seen, blinder-ending-seen, drop-blinder-seen}
use Rattle.local.proofs.Drops.{drop-right-seen, drop-solver-seen}

pub recorded-entering : {S : Type 0} (f : S → Session) (n : ℕ) (rest : List ℕ) (o : Outcome S)
    → recorded f (on_done (entering n rest) o) ≡ on_done (entering n rest) (recorded f o)
recorded-entering f n rest (refused r) = refl
recorded-entering f n rest (done e) = refl

-- a step's law, with the record
carried : {S : Type 0} (f : S → Session) (n : ℕ) (rest : List ℕ) (o p : Outcome S) → o ≡ on_done (entering n rest) p
    → recorded f o ≡ on_done (entering n rest) (recorded f p)
carried f n rest o p e = ap (recorded f) e ∙ recorded-entering f n rest p

-- ---- the step that is due

module _ (x : Session) (s : Slot) (scratch : List ℕ) (a : Message) (room share : ℕ) (known : kind_known a.head.kind ≡ true) where
  abbrev slot : Role → Terms → Slot
  slot role t = seen role t s

  abbrev seen_next : Outcome Session
  seen_next = next_step x (slot (session_role x) (session_terms x)) (take most_scratch scratch) (seen_message a) (least room most_reply) (least share most_result)

  pub next-seen : next_step x s scratch a room share ≡ on_done (entering 0 (behind (session_role x) (session_terms x) s)) seen_next
  unfolding next_step session_role session_terms solver_of blinder_of
  next-seen = go (eqb x.end SOLVER) (eqb x.end BLINDER) (eqb x.due 2) (eqb x.due 3) refl refl refl refl
    where
      b₀ : Message
      b₀ = seen_message a

      low : List ℕ
      low = take most_scratch scratch

      few : ℕ
      few = least room most_reply

      go : (b c d e : Bool) → eqb x.end SOLVER ≡ b → eqb x.end BLINDER ≡ c → eqb x.due 2 ≡ d → eqb x.due 3 ≡ e
          → next_step x s scratch a room share ≡ on_done (entering 0 (behind (session_role x) (session_terms x) s)) seen_next
      go true c true e i j k l =
          let y = solver_of x in
          rw (i, k) (carried of_solver 0 (behind solver x.terms s) (solver_second y s a room) (solver_second y (slot solver x.terms) b₀ few)
          (solver-second-seen y s a room known))
      go true c false e i j k l =
          let y = solver_of x in
          rw (i, k) (carried of_solver 0 (behind solver x.terms s) (solver_ending y s a room) (solver_ending y (slot solver x.terms) b₀ few)
          (solver-ending-seen y s a room known))
      go false true d true i j k l =
          let y = blinder_of x in
          rw (i, j, l) (carried of_blinder 0 (behind blinder x.terms s) (blinder_second y s scratch a room)
          (blinder_second y (slot blinder x.terms) low b₀ few) (blinder-second-seen y s scratch a room known))
      go false true d false i j k l =
          let y = blinder_of x in
          rw (i, j, l) (carried of_blinder 0 (behind blinder x.terms s) (blinder_ending y s scratch a share)
          (blinder_ending y (slot blinder x.terms) low b₀ (least share most_result)) (blinder-ending-seen y s scratch a share known))
      go false false d e i j k l =
          let y = right_of x in
          rw (i, j) (carried of_right 0 (behind right y.terms s) (right_last y s a share)
          (right_last y (slot right y.terms) b₀ (least share most_result)) (right-last-seen y s a share known))

-- ---- the drop

module _ (x : Session) (s : Slot) (scratch : List ℕ) where
  abbrev seen_drop : Outcome Session
  seen_drop = drop_step x (seen (session_role x) (session_terms x) s) (take most_scratch scratch)

  pub drop-seen : drop_step x s scratch ≡ on_done (entering 0 (behind (session_role x) (session_terms x) s)) seen_drop
  unfolding drop_step session_role session_terms solver_of blinder_of
  drop-seen = go (eqb x.end SOLVER) (eqb x.end BLINDER) refl refl
    where
      go : (b c : Bool) → eqb x.end SOLVER ≡ b → eqb x.end BLINDER ≡ c
          → drop_step x s scratch ≡ on_done (entering 0 (behind (session_role x) (session_terms x) s)) seen_drop
      go true c i j =
          let y = solver_of x in
          rw i (carried of_solver 0 (behind solver x.terms s) (drop_solver y s) (drop_solver y (seen solver x.terms s)) (drop-solver-seen y s))
      go false true i j =
          let y = blinder_of x in
          rw (i, j) (carried of_blinder 0 (behind blinder x.terms s) (drop_blinder y s scratch)
          (drop_blinder y (seen blinder x.terms s) (take most_scratch scratch)) (drop-blinder-seen y s scratch))
      go false false i j =
          let y = right_of x in
          rw (i, j) (carried of_right 0 (behind right y.terms s) (drop_right y s) (drop_right y (seen right y.terms s)) (drop-right-seen y s))

-- ---- first steps

-- a scratch's first words, by their number
taken-room : (k : ℕ) (l : List ℕ) → length (take k l) ≡ least (length l) k
taken-room k l =
    elim (dec_le (length l) k) [
      | yes h ↦ ap length (take_all k l h) ∙ sym (least-left (length l) k h)
      | no h ↦ length-take-le k l (omega arith) ∙ sym (least-right (length l) k (omega arith))
    ]

none_read : (q : ℕ) (ws : List ℕ) → words_read q 0 ws ≡ 0
unfolding words_read
none_read q [] = refl
none_read q (w ∷ ws) = refl

same-either : (b : Bool) → ◌≡◌ {A = ℕ} (cond b 0 0) 0
same-either true = refl
same-either false = refl

module _ (t : Terms) (s : Slot) (scratch input raw : List ℕ) (a : Message) (room share : ℕ) where
  -- the raw words that are looked at, and how many are read
  abbrev kept : (end : ℕ) → List ℕ
  kept end = take (coin_count end t) (kept_words t.q raw)

  abbrev read : (end : ℕ) → ℕ
  read end = words_read t.q (coin_count end t) raw

  abbrev seen_first : (end : ℕ) → Outcome Session
  seen_first end =
      first_step end t (seen (end_role end) t s) (take (lent_room end) scratch) (seen_words input) (kept end) (opening_message a) room (least share (share_room end))

  abbrev Claim : (end : ℕ) → Type 0
  Claim end =
      (takes_message end ≡ true → kind_known a.head.kind ≡ true)
      → first_step end t s scratch input raw a room share ≡ on_done (entering (read end) (behind (end_role end) t s)) (seen_first end)

  left-sifts : Sifts product (t.m * t.p) t raw (kept LEFT) (read LEFT)
  unfolding coin_count end_role
  left-sifts = record { words = λ e. rw e refl; count = λ e. rw e refl }

  blinder-sifts : Sifts system (scratch_size t) t raw (kept BLINDER) (read BLINDER)
  unfolding coin_count end_role
  blinder-sifts = record { words = λ e. rw e refl; count = λ e. rw e refl }

  at_left : Claim LEFT
  unfolding first_step is_system share_room end_role takes_message
  at_left known =
      carried (λ (u : Unit). of_left t) (read LEFT) (behind left t s) (left_step t s input raw a room share)
      (left_step t (seen left t s) (seen_words input) (kept LEFT) (opening_message a) room (least share most_result))
      (left-seen t s input raw (kept LEFT) (read LEFT) left-sifts a room share (known refl))

  at-blinder : Claim BLINDER
  unfolding first_step is_system lent_room end_role takes_message
  at-blinder known =
      let law = blinder-first-seen t s (length scratch) input raw (kept BLINDER) (read BLINDER) blinder-sifts a room (known refl) in
      rw (taken-room most_scratch scratch)
      (carried of_blinder (read BLINDER) (behind blinder t s)
      (blinder_first t s (length scratch) (take (t.m * t.m) input) (drop (t.m * t.m) input) raw a room)
      (blinder_first t (seen blinder t s) (least (length scratch) most_scratch) (take (t.m * t.m) (seen_words input)) (drop (t.m * t.m) (seen_words input))
      (kept BLINDER) (opening_message a) room) law)

  -- right and solver draw nothing
  right-reads : read RIGHT ≡ 0
  unfolding coin_count
  right-reads = rw (same-either (sides_fit (sort_of (end_role RIGHT)) t.m t.k t.p)) (none_read t.q raw)

  solver-reads : read SOLVER ≡ 0
  unfolding coin_count
  solver-reads = rw (same-either (sides_fit (sort_of (end_role SOLVER)) t.m t.k t.p)) (none_read t.q raw)

  at_right : Claim RIGHT
  unfolding first_step end_role
  at_right known =
      rw right-reads
      (carried of_right 0 (behind right t s) (right_first t s input room) (right_first t (seen right t s) (seen_words input) room)
      (right-first-seen t s input room))

  at-solver : Claim SOLVER
  unfolding first_step end_role
  at-solver known =
      rw solver-reads
      (carried of_solver 0 (behind solver t s) (solver_first t s (take (t.m * t.m) input) (drop (t.m * t.m) input) room)
      (solver_first t (seen solver t s) (take (t.m * t.m) (seen_words input)) (drop (t.m * t.m) (seen_words input)) room)
      (solver-first-seen t s input room))

  at_none : (end : ℕ) → eqb end LEFT ≡ false → eqb end RIGHT ≡ false → eqb end BLINDER ≡ false → eqb end SOLVER ≡ false → Claim end
  unfolding first_step
  at_none end i j k l known = rw (i, j, k, l) refl

  pub first-seen : (end : ℕ) → Claim end
  first-seen end = go (eqb end LEFT) (eqb end RIGHT) (eqb end BLINDER) (eqb end SOLVER) refl refl refl refl
    where
      go : (b c d e : Bool) → eqb end LEFT ≡ b → eqb end RIGHT ≡ c → eqb end BLINDER ≡ d → eqb end SOLVER ≡ e → Claim end
      go true c d e i j k l = subst Claim (sym (eqb-true end LEFT i)) at_left
      go false true d e i j k l = subst Claim (sym (eqb-true end RIGHT j)) at_right
      go false false true e i j k l = subst Claim (sym (eqb-true end BLINDER k)) at-blinder
      go false false false true i j k l = subst Claim (sym (eqb-true end SOLVER l)) at-solver
      go false false false false i j k l = at_none end i j k l
