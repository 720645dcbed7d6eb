-- Every accepted call is a dealing or a move; so what dealings and moves keep holds after every list of calls.
--   begin-moves, continue-moves   an accepted step is a move
--   along                         the induction over calls; keeps: the invariant alone
-- Assumes nothing.
use mathlib.Core.Path.{◌≡◌, refl, sym, ap, ap₂, ◌∙◌}
use mathlib.Core.Bool.{true}
use mathlib.Core.List.{List, [], ◌∷◌}
use mathlib.Core.Option.{Option, some, none}
use Prim.Native.Nat.{ℕ, zero, suc}
use native.Mathlib.Omega.{arith}
use lib.ListN.{get_or}
use Rattle.protocol.specs.declared.Terms.{Terms}
use Rattle.protocol.specs.Judge.{Judged, refused, done}
use Rattle.protocol.specs.Tape.{is_slot, slot_words, status_of, tape_at, q_at, m_at, k_at, p_at}
use Rattle.protocol.specs.Deal.{Dealt, deal}
use Rattle.protocol.specs.Step.{Effect, Outcome}
use Rattle.history.specs.Ends.{Session, absent, due_in, First, Later, Step, begins, goes_on, run_step}
use Rattle.history.specs.Log.{Party, opposite, State, Call, dealing, beginning, continuing, Dealing, Did, Entry, dealt, did, World, begun_in, slot_of, after_dealing, advance_dealing, advance_step, advance, fresh, run, holds, place, number_of, Kept, Premises}
use Rattle.history.specs.Claim.{Empty}
use Rattle.history.specs.Contents.{served_words, half_words, place_words}
use Rattle.history.proofs.Words.{tape-number, tape-q, tape-m, tape-k, tape-p}
use Rattle.history.proofs.Accepted.{Begins, Continues}
use Rattle.history.proofs.Steps.{begins-sound, continues-sound}
use Rattle.history.proofs.Facts.{untouched≢, same-server, same_some, one-half}
use Rattle.history.proofs.Named.{unbegun}
use Rattle.history.proofs.Kept.{Agrees, agrees_on, Home, Inv, ready-place, used-place, inside-start, state_after, Way, Move, move-keeps, deal-keeps}

module _ (size : Party → ℕ) (start : Party → List ℕ) (empty : Empty size start) where
  module _ (st : State) (l : List Entry) (v : Inv size start st l) (w : Party) (i b n : ℕ) where
    abbrev entry : Step → Effect Session → Did
    entry k f = record { party = w; index = i; scratch = b; name = n; step = k; on = st; effect = f }

    -- what the slot's words say, where its description is known
    words_are : is_slot (slot_of size start w i) ≡ true → {d : Dealing} {o : Option ℕ} → place l w i ≡ holds d o
        → slot_words (slot_of size st.pools w i) ≡ half_words st.sessions w d o (slot_words (slot_of size d.on.pools w i))
    words_are inside e = v.shown w i inside ∙ ap (place_words size start st.sessions w i) e

    -- a first step
    begin-moves : (t : Terms) (k : First) (f : Effect Session) → run_step (begins t k) (st.sessions n) (slot_of size st.pools w i) (st.scratches b) ≡ done f
        → Kept l (entry (begins t k) f) → st.sessions n ≡ absent → Move size start l (entry (begins t k) f)
    begin-moves t k f acts p new = record {
      dealing = d;
      server = none;
      stands = found.1;
      inside = inside;
      agrees = record {
        is-begun = g.is-begun;
        role-is = g.role-is ∙ sym (p.own-half d none found.1);
        tape-is =
            ap (λ (t : Terms). t.tape.0) g.terms-are ∙ sym g.first.half.tape-is ∙ ap (λ (z : List ℕ). get_or z tape_at 0) words ∙ tape-number _ _ d _;
        q-is = ap (λ (t : Terms). t.q) g.terms-are ∙ sym g.first.half.q-is ∙ ap (λ (z : List ℕ). get_or z q_at 0) words ∙ tape-q _ _ d _;
        m-is = ap (λ (t : Terms). t.m) g.terms-are ∙ sym g.first.half.m-is ∙ ap (λ (z : List ℕ). get_or z m_at 0) words ∙ tape-m _ _ d _;
        k-is = ap (λ (t : Terms). t.k) g.terms-are ∙ sym g.first.half.k-is ∙ ap (λ (z : List ℕ). get_or z k_at 0) words ∙ tape-k _ _ d _;
        p-is = ap (λ (t : Terms). t.p) g.terms-are ∙ sym g.first.half.p-is ∙ ap (λ (z : List ℕ). get_or z p_at 0) words ∙ tape-p _ _ d _;
      };
      way = Way.fresh t k refl refl new g;
      acted = acts;
    }
      where
        g : Begins t k (slot_of size st.pools w i) f
        g = begins-sound t k (slot_of size st.pools w i) (st.scratches b) f acts

        inside : is_slot (slot_of size start w i) ≡ true
        inside = inside-start size start v w i g.first.half.inside

        found : (d : Dealing) × (place l w i ≡ holds d none)
        found = ready-place size start st.sessions w i (empty w i inside) (place l w i) (sym (ap status_of (v.shown w i inside)) ∙ g.first.half.status-is)

        d : Dealing
        d = found.0

        words : slot_words (slot_of size st.pools w i) ≡ half_words st.sessions w found.0 none (slot_words (slot_of size found.0.on.pools w i))
        words = words_are inside found.1

    -- a later step or a drop
    continue-moves : (k : Later) (f : Effect Session) → run_step (goes_on k) (st.sessions n) (slot_of size st.pools w i) (st.scratches b) ≡ done f
        → Premises size l → Kept l (entry (goes_on k) f) → Move size start l (entry (goes_on k) f)
    continue-moves k f acts q p = record {
      dealing = found.0;
      server = some n;
      stands = stands;
      inside = inside;
      agrees = agrees_on g.is-begun g.role-is g.terms-are (v.taken w i found.0 n stands);
      way = Way.onward k refl refl g;
      acted = acts;
    }
      where
        g : Continues k (st.sessions n) (slot_of size st.pools w i) f
        g = continues-sound k (st.sessions n) (slot_of size st.pools w i) (st.scratches b) f acts

        inside : is_slot (slot_of size start w i) ≡ true
        inside = inside-start size start v w i g.session-open.half.inside

        -- the half that lies here is in use for some session ..
        found : (d : Dealing) × (n : ℕ) × (place l w i ≡ holds d (some n))
        found = used-place size start st.sessions w i (empty w i inside) (place l w i) (sym (ap status_of (v.shown w i inside)) ∙ g.session-open.half.status-is)

        words : slot_words (slot_of size st.pools w i) ≡ half_words st.sessions w found.0 (some found.1) (slot_words (slot_of size found.0.on.pools w i))
        words = words_are inside found.2

        number : (due : ℕ) → slot_words (slot_of size st.pools w i) ≡ served_words w found.0 due (slot_words (slot_of size found.0.on.pools w i))
            → get_or (slot_words (slot_of size st.pools w i)) tape_at 0 ≡ number_of found.0
        number zero e = ap (λ (z : List ℕ). get_or z tape_at 0) e ∙ tape-number _ _ found.0 _
        number (suc _) e = ap (λ (z : List ℕ). get_or z tape_at 0) e ∙ tape-number _ _ found.0 _

        -- .. and the session of the call is on a half with the same number and role: this one
        hm : Home l n
        hm = v.home n g.session-open.is_open

        at_home : Agrees (st.sessions n) hm.party hm.dealing
        at_home = v.taken hm.party hm.index hm.dealing n hm.stands

        stands : place l w i ≡ holds found.0 (some n)
        stands =
            let same = one-half l q.0 w hm.party i hm.index found.2 hm.stands
            (sym (number (due_in (st.sessions found.1)) words) ∙ g.session-open.half.tape-is ∙ at_home.tape-is)
            (p.own-half found.0 (some found.1) found.2 ∙ sym g.role-was ∙ at_home.role-is)
            in
            let both-are : place l w i ≡ place l hm.party hm.index = ap₂ (place l) same.0 same.1 in
            found.2 ∙ ap (λ (n : ℕ). holds found.0 (some n)) (same_some (same-server (sym found.2 ∙ both-are ∙ hm.stands)))

  -- The principle: what holds at the start and is kept by every dealing and by every move holds after every list of calls, with the invariant
  module _ (lent : ℕ → List ℕ) (P : State → List Entry → Type 0) (base : P (fresh start lent) [])
      (deal-step : (l : List Entry) (d : Dealing) (x : Dealt) → Inv size start d.on l → Premises size (dealt d ∷ l)
      → deal (d.on.pools d.holder) (d.on.pools (opposite d.holder)) d.size d.index d.request ≡ done x → P d.on l
      → P (after_dealing d.holder x d.on) (dealt d ∷ l))
      (move_step : (l : List Entry) (e : Did) → Inv size start e.on l → Premises size (did e ∷ l) → Move size start l e → P e.on l
      → P (state_after size start e) (did e ∷ l)) where
    abbrev Goal : World → Type 0
    Goal o = Premises size o.log → Inv size start o.state o.log × P o.state o.log

    pub along : (cs : List Call) → Goal (run size start lent cs)
    along [] = λ p. (
      record { sizes = λ w. refl; shown = λ w i h. refl; tails = λ w. refl; fine = λ d h. absurd h; taken = λ w i d n e. untouched≢ e; home = λ n o. absurd (omega arith) },
      base,
    )
    along (c ∷ cs) = go c (along cs)
      where
        o : World
        o = run size start lent cs

        go : (c : Call) → Goal o → Goal (advance size o c)
        go (dealing holder len i r) v = by_result (deal (o.state.pools holder) (o.state.pools (opposite holder)) len i r) refl
          where
            by_result : (x : Judged Dealt) → deal (o.state.pools holder) (o.state.pools (opposite holder)) len i r ≡ x → Goal (advance_dealing holder len i r o x)
            by_result (refused n) e = v
            by_result (done x) e = λ p.
                let a = v (p.0.1, p.1.1) in
                let d : Dealing = record { holder = holder; size = len; index = i; request = r; on = o.state } in
                (deal-keeps size start o.log d a.0 x e p.1.0, deal-step o.log d x a.0 p e a.1)
        go (beginning w i b t k) v = by_result (run_step (begins t k) (o.state.sessions n) (slot_of size o.state.pools w i) (o.state.scratches b)) refl
          where
            n : ℕ
            n = begun_in (run size start lent cs).log

            by_result : (x : Outcome Session) → run_step (begins t k) (o.state.sessions n) (slot_of size o.state.pools w i) (o.state.scratches b) ≡ x
                → Goal (advance_step size w i b n (begins t k) o x)
            by_result (refused r) e = v
            by_result (done f) e = λ p.
                let a = v (p.0, p.1.1) in
                let mv = begin-moves o.state o.log a.0 w i b n t k f e p.1.0 (unbegun size start lent cs n (omega arith)) in
                (move-keeps size start o.log _ a.0 p.0 mv, move_step o.log _ a.0 p mv a.1)
        go (continuing w i b n k) v = by_result (run_step (goes_on k) (o.state.sessions n) (slot_of size o.state.pools w i) (o.state.scratches b)) refl
          where
            by_result : (x : Outcome Session) → run_step (goes_on k) (o.state.sessions n) (slot_of size o.state.pools w i) (o.state.scratches b) ≡ x
                → Goal (advance_step size w i b n (goes_on k) o x)
            by_result (refused r) e = v
            by_result (done f) e = λ p.
                let a = v (p.0, p.1.1) in
                let mv = continue-moves o.state o.log a.0 w i b n k f e (p.0, p.1.1) p.1.0 in
                (move-keeps size start o.log _ a.0 p.0 mv, move_step o.log _ a.0 p mv a.1)

  pub keeps : (lent : ℕ → List ℕ) (cs : List Call) → Premises size (run size start lent cs).log → Inv size start (run size start lent cs).state (run size start lent cs).log
  keeps lent cs p = (along lent (λ st l. Unit) tt (λ l d x v q h u. tt) (λ l e v q mv u. tt) cs p).0
