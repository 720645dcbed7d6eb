-- Two products and a system interleaved, a drop, and slots dealt again, computed: the premises of demand 2 hold of the list, and each field of the claim is met by
-- it or by a part of it (`singular` by proofs/Example, `singular-here`).
--   calls                     the list; answering, halfway, served, dropping: what comes before a point of it
--   premises, earlier         its premises hold, and those of its parts
--   first-product, second-product, the-system   shares and z, as numbers
--   blinder-taken, left-taken                   a blinder's and a left end's first step
--   right-taken, blinder-goes-on, drop-taken    later steps and a drop
--   blinder-home, dealt-again                   an open session's half; a tape dealt over one that has served
--   stood-halfway, stood-ended                  what either end holds completes the other's view, also with messages under way
-- Assumes nothing.
use mathlib.Core.Path.{◌≡◌, refl, sym, ap, ap₂, ◌∙◌, subst, subst₂}
use mathlib.Core.Bool.{true}
use mathlib.Core.List.{List, [], ◌∷◌, ◌++◌}
use mathlib.Core.Option.{Option, some, none}
use mathlib.Core.Logic.{inl, inr}
use Prim.Native.Nat.{ℕ, zero, suc, ◌+◌, ◌≤◌}
use native.Mathlib.Omega.{arith}
use native.Mathlib.Decide.{ℕ_discrete}
use lib.ListN.{length, take}
use Rattle.algebra.specs.Count.{both, parts, part}
use Rattle.algebra.specs.Elimination.{step, regular}
use Rattle.algebra.specs.Words.{over}
use Rattle.protocol.specs.declared.Terms.{Terms}
use Rattle.protocol.specs.Judge.{Judged, refused, done}
use Rattle.protocol.specs.Drawing.{residues_of}
use Rattle.protocol.specs.Bounds.{columns, field_fits, sides_fit, system}
use Rattle.protocol.specs.Tape.{header_size, is_slot, tape_size, Role, left, right, blinder, solver}
use Rattle.protocol.specs.Deal.{Request, Dealt, product_request, draw_size, drawn_parts, deal, mask_fits}
use Rattle.protocol.specs.Message.{Message, message_size}
use Rattle.protocol.specs.Step.{Outcome}
use Rattle.protocol.specs.System.{scratch_size, coins_of, scratch_parts}
use Rattle.protocol.specs.View.{View, facing}
use Rattle.protocol.specs.Completion.{said, Taken}
use Rattle.protocol.proofs.Tests.{early}
use Rattle.history.specs.Ends.{Session, Step, due_in, right-first, left-only, solver-first, blinder-first, right-last, solver-second, solver-last, blinder-second, blinder-last, solver-drop, begins, goes_on, run_step, First, Later}
use Rattle.history.specs.Log.{Party, first, second, opposite, Call, dealing, beginning, continuing, try_step, begun_in, Dealing, Did, Entry, dealt, did, World}
use Rattle.history.specs.Log.{slot_of, advance_dealing, advance_step, advance, run, half_role, holds, Premises, choose, party-eq, role_by, Place, untouched, place}
use Rattle.history.specs.Log.{WasDone, lent_to}
use Rattle.history.specs.Contents.{half}
use Rattle.history.specs.Seen.{view}
use Rattle.history.specs.Right.{newest, result, Paired, AddTo, OnlySolution, Demand2, DealtNow, HasServed, TakenNow, TermsOf, SentTo, FairLater, SoFar, Stood}
use Rattle.history.proofs.Rightness.{demand-2}
use Rattle.history.proofs.Facts.{none≢}
use Rattle.history_examples.proofs.Example.{slot-size, sizes, start, lent, product-terms, system-terms, msg, a-product, a-system, answers, distinct, own, other-role, NoBlinder, no-session, three-slots, Ends-here, paired, arrived}
use Rattle.history_examples.proofs.Computing.{list-rules}

-- ---- the list

-- the second product: q 10, X of two rows, Y of two columns
abbrev pub ten-terms : (tape : ℕ) → Terms
ten-terms i = record { session = record { 0 = 9 }; tape = record { 0 = i }; q = 10; m = 2; k = 1; p = 2 }

abbrev a-ten : (tape : ℕ) → Request
a-ten i = product_request (record { 0 = i }) 10 2 1 2 (6 ∷ 1 ∷ 8 ∷ 5 ∷ 9 ∷ 0 ∷ 3 ∷ 7 ∷ [])

-- a first step, which begins session n (the list names it so: n is said for the reader), and a later step or drop of session n
abbrev begin : (n : ℕ) → Party → (index scratch : ℕ) → Terms → First → Call
begin n w i b t k = beginning w i b t k

abbrev go_on : (n : ℕ) → Party → (index scratch : ℕ) → Later → Call
go_on n w i b k = continuing w i b n k

-- Newest first in each part. Three tapes are dealt. The right ends of both products and the solver begin: sessions 0, 2 and 1. Left of the first product
-- answers: session 3
abbrev blinder-begins : First
blinder-begins = blinder-first (1 ∷ []) (1 ∷ []) (2 ∷ 1 ∷ 2 ∷ []) (msg 1 (system-terms 2) (3 ∷ 1 ∷ [])) 3

abbrev left-answers : First
left-answers = left-only (3 ∷ 7 ∷ []) (2 ∷ 4 ∷ 6 ∷ 8 ∷ []) (msg 1 (ten-terms 3) (6 ∷ 4 ∷ [])) 6 4

abbrev pub answering : List Call
answering =
    begin 3 second 0 0 (product-terms 1) (left-only (3 ∷ 5 ∷ []) (5 ∷ []) (msg 1 (product-terms 1) (3 ∷ 3 ∷ [])) 3 1)
    ∷ begin 2 second 2 0 (ten-terms 3) (right-first (4 ∷ 9 ∷ []) 2)
    ∷ begin 1 second 1 0 (system-terms 2) (solver-first (2 ∷ []) (3 ∷ []) 2)
    ∷ begin 0 first 0 0 (product-terms 1) (right-first (2 ∷ 6 ∷ []) 2)
    ∷ dealing first slot-size 2 (a-ten 3)
    ∷ dealing first slot-size 1 (a-system 2)
    ∷ dealing second slot-size 0 (a-product 1)
    ∷ []

-- the blinder and the other left begin, sessions 4 and 5, and the solver goes on; a dealing where right's half is still in use is refused
abbrev to-halfway : List Call
to-halfway =
    go_on 1 second 1 0 (solver-second (msg 2 (system-terms 2) (3 ∷ 0 ∷ 2 ∷ [])) 1)
    ∷ begin 5 first 2 0 (ten-terms 3) left-answers
    ∷ dealing first slot-size 0 (a-system 4)
    ∷ begin 4 first 1 3 (system-terms 2) blinder-begins
    ∷ []

abbrev pub halfway : List Call
halfway = to-halfway ++ answering

-- the first product ends
abbrev to-served : List Call
to-served = go_on 0 first 0 0 (right-last (msg 2 (product-terms 1) (4 ∷ 2 ∷ 3 ∷ [])) 1) ∷ []

abbrev served : List Call
served = to-served ++ halfway

-- its slots are dealt again, for a system, whose solver begins: session 6. The blinder goes on
abbrev to-dropping : List Call
to-dropping =
    go_on 4 first 1 3 (blinder-second (msg 3 (system-terms 2) (4 ∷ [])) 2)
    ∷ begin 6 second 0 0 (system-terms 4) (solver-first (2 ∷ []) (3 ∷ []) 2)
    ∷ dealing first slot-size 0 (a-system 4)
    ∷ []

abbrev pub dropping : List Call
dropping = to-dropping ++ served

-- that solver drops its session, and the other product and the system end
abbrev to_end : List Call
to_end =
    go_on 4 first 1 3 (blinder-last (msg 5 (system-terms 2) (1 ∷ [])) 1)
    ∷ go_on 2 second 2 0 (right-last (msg 2 (ten-terms 3) (9 ∷ 8 ∷ 7 ∷ 8 ∷ 3 ∷ 3 ∷ [])) 4)
    ∷ go_on 1 second 1 0 (solver-last (msg 4 (system-terms 2) (1 ∷ 4 ∷ [])) 1)
    ∷ go_on 6 second 0 0 solver-drop
    ∷ []

abbrev pub calls : List Call
calls = to_end ++ dropping

-- what stands after such a list
abbrev pub after : List Call → World
after cs = run sizes start lent cs

pub all-answers : answers calls ≡ 0 ∷ 0 ∷ 0 ∷ 0 ∷ 0 ∷ 0 ∷ 0 ∷ 0 ∷ 0 ∷ 0 ∷ 6 ∷ 0 ∷ 0 ∷ 0 ∷ 0 ∷ 0 ∷ 0 ∷ 0 ∷ 0 ∷ []
unfolding list-rules
all-answers = refl

-- ---- the premises

infixr 50 ◌and◌
◌and◌ : {A B : Type 0} → A → B → A × B
a and b = (a, b)

-- no blinder's session is open when session 4 begins
calm : (n : ℕ) → NoBlinder ((after answering).state.sessions n)
unfolding list-rules
calm zero d r = other-role r (λ e. cc)
calm (suc zero) d r = other-role r (λ e. cc)
calm (suc (suc zero)) d r = other-role r (λ e. cc)
calm (suc (suc (suc zero))) d r = omega (arith, d)
calm (suc (suc (suc (suc n)))) d r = no-session answering 4 (suc (suc (suc (suc n)))) refl (omega arith) d r

pub premises : Premises sizes (after calls).log
unfolding list-rules
premises = (
  distinct (after calls).log refl,
  record { own-half = own first blinder refl; own-scratch = λ e. refl }
      and record { own-half = own second right refl; own-scratch = λ e. other-role e (λ e. cc) }
      and record { own-half = own second solver refl; own-scratch = λ e. other-role e (λ e. cc) }
      and record { own-half = own second solver refl; own-scratch = λ e. other-role e (λ e. cc) }
      and record { own-half = own first blinder refl; own-scratch = λ e. refl }
      and record { own-half = own second solver refl; own-scratch = λ e. other-role e (λ e. cc) }
      and (λ w. refl)
      and record { own-half = own first right refl; own-scratch = λ e. other-role e (λ e. cc) }
      and record { own-half = own second solver refl; own-scratch = λ e. other-role e (λ e. cc) }
      and record { own-half = own first left refl; own-scratch = λ e. other-role e (λ e. cc) }
      and record { own-half = own first blinder refl; own-scratch = λ e n d r. absurd (calm n d r) }
      and record { own-half = own second left refl; own-scratch = λ e. other-role e (λ e. cc) }
      and record { own-half = own second right refl; own-scratch = λ e. other-role e (λ e. cc) }
      and record { own-half = own second solver refl; own-scratch = λ e. other-role e (λ e. cc) }
      and record { own-half = own first right refl; own-scratch = λ e. other-role e (λ e. cc) }
      and (λ w. refl)
      and (λ w. refl)
      and (λ w. refl)
      and tt,
)

-- what holds of a list held of its earlier part
step_back : (w : Party) (i b n : ℕ) (k : Step) (o : World) → Premises sizes (try_step sizes w i b n k o).log → Premises sizes o.log
step_back w i b n k o = go (run_step k (o.state.sessions n) (slot_of sizes o.state.pools w i) (o.state.scratches b))
  where
    go : (x : Outcome Session) → Premises sizes (advance_step sizes w i b n k o x).log → Premises sizes o.log
    go (refused r) p = p
    go (done e) p = (p.0, p.1.1)

earlier : (later cs : List Call) → Premises sizes (after (later ++ cs)).log → Premises sizes (after cs).log
earlier [] cs p = p
earlier (c ∷ later) cs p = earlier later cs (back c (after (later ++ cs)) p)
  where
    back : (c : Call) (o : World) → Premises sizes (advance sizes o c).log → Premises sizes o.log
    back (dealing holder len i r) o = go (deal (o.state.pools holder) (o.state.pools (opposite holder)) len i r)
      where
        go : (x : Judged Dealt) → Premises sizes (advance_dealing holder len i r o x).log → Premises sizes o.log
        go (refused n) p = p
        go (done d) p = (p.0.1, p.1.1)
    back (beginning w i b t k) o = step_back w i b (begun_in o.log) (begins t k) o
    back (continuing w i b n k) o = step_back w i b n (goes_on k) o

-- so demand 2 speaks of this list and of its parts
pub right-here : Demand2 sizes (after calls)
right-here = demand-2 sizes start lent three-slots calls premises

pub dropping-kept : Premises sizes (after dropping).log
dropping-kept = earlier to_end dropping premises

served-kept : Premises sizes (after served).log
served-kept = earlier to-dropping served dropping-kept

pub halfway-kept : Premises sizes (after halfway).log
halfway-kept = earlier to-served halfway served-kept

pub answering-kept : Premises sizes (after answering).log
answering-kept = earlier to-halfway answering halfway-kept

-- ---- product and system, at the end of the list

-- the first product: left is session 3 and right session 0. The second: 5 and 2. The system: the blinder is session 4 and the solver session 1
ends : Ends-here (after calls) left 3 0 1 ((3 ∷ 3 ∷ []) ∷ []) ((3 ∷ 3 ∷ []) ∷ []) ((4 ∷ 2 ∷ 3 ∷ []) ∷ []) ((4 ∷ 2 ∷ 3 ∷ []) ∷ [])
    × Ends-here (after calls) left 5 2 3 ((6 ∷ 4 ∷ []) ∷ []) ((6 ∷ 4 ∷ []) ∷ []) ((9 ∷ 8 ∷ 7 ∷ 8 ∷ 3 ∷ 3 ∷ []) ∷ []) ((9 ∷ 8 ∷ 7 ∷ 8 ∷ 3 ∷ 3 ∷ []) ∷ [])
    × Ends-here (after calls) blinder 4 1 2 ((3 ∷ 1 ∷ []) ∷ (4 ∷ []) ∷ (1 ∷ []) ∷ []) ((3 ∷ 1 ∷ []) ∷ (4 ∷ []) ∷ (1 ∷ []) ∷ [])
    ((3 ∷ 0 ∷ 2 ∷ []) ∷ (1 ∷ 4 ∷ []) ∷ []) ((3 ∷ 0 ∷ 2 ∷ []) ∷ (1 ∷ 4 ∷ []) ∷ [])
unfolding list-rules
ends = (
  (refl, refl, refl, refl, refl, refl, refl, refl, refl, refl),
  (refl, refl, refl, refl, refl, refl, refl, refl, refl, refl),
  (refl, refl, refl, refl, refl, refl, refl, refl, refl, refl),
)

gave : (result (after calls).log 3 ≡ 5 ∷ []) × (result (after calls).log 0 ≡ 3 ∷ [])
    × (result (after calls).log 5 ≡ 2 ∷ 4 ∷ 6 ∷ 8 ∷ []) × (result (after calls).log 2 ≡ 0 ∷ 3 ∷ 2 ∷ 5 ∷ []) × (result (after calls).log 4 ≡ 3 ∷ [])
unfolding list-rules
gave = (refl, refl, refl, refl, refl)

-- (3, 5) × (2, 6) = 1 modulo 7: the shares are 5 and 3
pub first-product : AddTo (view (after calls).log 3) (view (after calls).log 0) (5 ∷ []) (3 ∷ [])
first-product =
    subst₂ (AddTo (view (after calls).log 3) (view (after calls).log 0)) gave.0 gave.1
    (right-here.product 3 0 (paired (after calls) left 3 0 1 _ _ _ _ ends.0) (arrived (after calls) left 3 0 1 _ _ ends.0 refl refl))

-- (3, 7) × (4, 9) = (2, 7, 8, 3) modulo 10: the shares are (2, 4, 6, 8) and (0, 3, 2, 5)
pub second-product : AddTo (view (after calls).log 5) (view (after calls).log 2) (2 ∷ 4 ∷ 6 ∷ 8 ∷ []) (0 ∷ 3 ∷ 2 ∷ 5 ∷ [])
second-product =
    subst₂ (AddTo (view (after calls).log 5) (view (after calls).log 2)) gave.2 gave.3
    (right-here.product 5 2 (paired (after calls) left 5 2 3 _ _ _ _ ends.1) (arrived (after calls) left 5 2 3 _ _ ends.1 refl refl))

-- (2 + 1) × 3 = 3 + 1 modulo 5
pub the-system : OnlySolution (view (after calls).log 4) (view (after calls).log 1) (3 ∷ [])
the-system =
    subst (OnlySolution (view (after calls).log 4) (view (after calls).log 1)) gave.4
    (right-here.system 4 1 (paired (after calls) blinder 4 1 2 _ _ _ _ ends.2) (unfold list-rules in refl) (arrived (after calls) blinder 4 1 2 _ _ ends.2 refl refl))

-- ---- what is read off a place and off a session's newest step

abbrev Lies : Place → (holder : Party) → Request → Option ℕ → Type 0
Lies untouched h r s = ⊥
Lies (holds d s') h r s = (d.holder ≡ h) × (d.request ≡ r) × (s' ≡ s)

lies : (c : Place) (h : Party) (r : Request) (s : Option ℕ) → Lies c h r s → (d : Dealing) × (c ≡ holds d s) × (d.holder ≡ h) × (d.request ≡ r)
lies untouched h r s e = absurd e
lies (holds d s') h r s e = (d, ap (holds d) e.2, e.0, e.1)

role-there : (w h : Party) (d : Dealing) (r : Request) → d.holder ≡ h → d.request ≡ r → half_role w d ≡ role_by (party-eq h w) r.sort
unfolding half_role
role-there w h d r eh er = ap₂ (λ (h : Party) (r : Request). role_by (party-eq h w) r.sort) eh er

-- terms with a request's numbers
abbrev Same : Terms → Request → Type 0
Same t r = (t.tape.0 ≡ r.tape.0) × (t.q ≡ r.q) × (t.m ≡ r.m) × (t.k ≡ r.k) × (t.p ≡ r.p)

terms-of : (t : Terms) (d : Dealing) (r : Request) → d.request ≡ r → 1 ≤ t.session.0 → Same t r → TermsOf t d
terms-of t d r e h s = record {
  session = h;
  tape-is = s.0 ∙ ap (λ (r : Request). r.tape.0) (sym e);
  q-is = s.1 ∙ ap (λ (r : Request). r.q) (sym e);
  m-is = s.2 ∙ ap (λ (r : Request). r.m) (sym e);
  k-is = s.3 ∙ ap (λ (r : Request). r.k) (sym e);
  p-is = s.4 ∙ ap (λ (r : Request). r.p) (sym e);
}

newest-done : (l : List Entry) (n : ℕ) (e : Did) → newest l n ≡ some e → WasDone e l × (e.name ≡ n)
newest-done [] n e h = none≢ h
newest-done (dealt d ∷ l) n e h = newest-done l n e h
newest-done (did x ∷ l) n e h = go (ℕ_discrete x.name n) h (newest-done l n e)
  where
    same : some x ≡ some e → x ≡ e
    same h = cc

    go : (c : Dec (x.name ≡ n)) → choose c (some x) (newest l n) ≡ some e → (newest l n ≡ some e → WasDone e l × (e.name ≡ n))
        → WasDone e (did x ∷ l) × (e.name ≡ n)
    go (yes p) h rec = (inl (same h), subst (λ (e : Did). e.name ≡ n) (same h) p)
    go (no p) h rec = let r = rec h in (inr r.0, r.1)

abbrev sent_in : Option Did → Option Message
sent_in none = none
sent_in (some e) = some e.effect.sent

-- the message that session n sent last
sent-last : (o : World) (role : Role) (t : Terms) (kind n : ℕ) (a : Message) → sent_in (newest o.log n) ≡ some a → (view o.log n).role ≡ facing role
    → (view o.log n).terms ≡ t
    → a.head.kind ≡ kind → SentTo o role t kind a
sent-last o role t kind n a h hr ht hk = go (newest o.log n) refl h
  where
    same : {b : Message} → some b ≡ some a → b ≡ a
    same h = cc

    go : (x : Option Did) → newest o.log n ≡ x → sent_in x ≡ some a → SentTo o role t kind a
    go none q h = none≢ h
    go (some e) q h =
        let d = newest-done o.log n e q in
        record {
          step = e;
          was-done = d.0;
          role-is = ap (λ (n : ℕ). (view o.log n).role) d.1 ∙ hr;
          terms-are = ap (λ (n : ℕ). (view o.log n).terms) d.1 ∙ ht;
          message-is = same h;
          kind-is = hk;
        }

-- ---- steps and dealings that keep to the rules

-- before the blinder and the second left begin
answering-facts : (sent_in (newest (after answering).log 1) ≡ some (msg 1 (system-terms 2) (3 ∷ 1 ∷ [])))
    × ((view (after answering).log 1).role ≡ solver)
    × ((view (after answering).log 1).terms ≡ system-terms 2)
    × (sent_in (newest (after answering).log 2) ≡ some (msg 1 (ten-terms 3) (6 ∷ 4 ∷ [])))
    × ((view (after answering).log 2).role ≡ right)
    × ((view (after answering).log 2).terms ≡ ten-terms 3)
    × Lies (place (after answering).log first 1) first (a-system 2) none × Lies (place (after answering).log first 2) first (a-ten 3) none
    × Taken blinder (system-terms 2) ((1 ∷ []) ∷ (1 ∷ []) ∷ []) × Taken left (ten-terms 3) ((3 ∷ 7 ∷ []) ∷ [])
    × (scratch_size (system-terms 2) ≡ 3) × (length ((after answering).state.scratches 3) ≡ 4) × (length (residues_of 5 (2 ∷ 1 ∷ 2 ∷ [])) ≡ 3)
    × (regular 5 1 (part 0 (scratch_parts (system-terms 2) (coins_of (system-terms 2) (2 ∷ 1 ∷ 2 ∷ [])))) ≡ true)
    × (message_size 2 (system-terms 2) ≡ 3) × (message_size 2 (ten-terms 3) ≡ 6) × (length (residues_of 10 (2 ∷ 4 ∷ 6 ∷ 8 ∷ [])) ≡ 4)
unfolding list-rules
answering-facts = (refl, refl, refl, refl, refl, refl, (refl, refl, refl), (refl, refl, refl), refl, refl, refl, refl, refl, refl, refl, refl, refl)

pub blinder-taken : TakenNow sizes (after answering) first 1 3 (begun_in (after answering).log) (begins (system-terms 2) blinder-begins)
blinder-taken =
    let f = answering-facts in
    let d = lies _ _ _ _ f.6 in
    (demand-2 sizes start lent three-slots answering answering-kept).first_taken (system-terms 2) blinder-begins first 1 3 d.0 d.1
    (role-there first first d.0 (a-system 2) d.2 d.3) (terms-of (system-terms 2) d.0 (a-system 2) d.3 (omega arith) (refl, refl, refl, refl, refl)) (
      f.8,
      sent-last (after answering) blinder (system-terms 2) 1 1 _ f.0 f.1 f.2 refl,
      omega (arith, f.14),
      omega (arith, f.10, f.11),
      omega (arith, f.10, f.12),
      f.13,
    )

pub left-taken : TakenNow sizes (after answering) first 2 0 (begun_in (after answering).log) (begins (ten-terms 3) left-answers)
left-taken =
    let f = answering-facts in
    let d = lies _ _ _ _ f.7 in
    (demand-2 sizes start lent three-slots answering answering-kept).first_taken (ten-terms 3) left-answers first 2 0 d.0 d.1
    (role-there first first d.0 (a-ten 3) d.2 d.3) (terms-of (ten-terms 3) d.0 (a-ten 3) d.3 (omega arith) (refl, refl, refl, refl, refl))
    (f.9, sent-last (after answering) left (ten-terms 3) 1 2 _ f.3 f.4 f.5 refl, omega (arith, f.15), omega arith, omega (arith, f.16))

-- halfway: message 2 of the first product and message 3 of the system are under way
halfway-facts : (sent_in (newest (after halfway).log 3) ≡ some (msg 2 (product-terms 1) (4 ∷ 2 ∷ 3 ∷ [])))
    × ((view (after halfway).log 3).role ≡ left)
    × ((view (after halfway).log 3).terms ≡ product-terms 1)
    × (sent_in (newest (after halfway).log 1) ≡ some (msg 3 (system-terms 2) (4 ∷ [])))
    × ((view (after halfway).log 1).role ≡ solver)
    × ((view (after halfway).log 1).terms ≡ system-terms 2)
    × Lies (place (after halfway).log first 0) second (a-product 1) (some 0) × Lies (place (after halfway).log first 1) first (a-system 2) (some 4)
    × ((view (after halfway).log 0).terms ≡ product-terms 1) × ((view (after halfway).log 4).terms ≡ system-terms 2)
    × (due_in ((after halfway).state.sessions 0) ≡ 2)
    × (due_in ((after halfway).state.sessions 4) ≡ 3)
    × (lent_to (after halfway).log 4 ≡ 3)
    × (message_size 4 (system-terms 2) ≡ 2)
    × ((view (after halfway).log 4).role ≡ blinder)
unfolding list-rules
halfway-facts = (refl, refl, refl, refl, refl, refl, (refl, refl, refl), (refl, refl, refl), refl, refl, refl, refl, refl, refl, refl)

halfway-right : Demand2 sizes (after halfway)
halfway-right = demand-2 sizes start lent three-slots halfway halfway-kept

pub right-taken : TakenNow sizes (after halfway) first 0 0 0 (goes_on (right-last (msg 2 (product-terms 1) (4 ∷ 2 ∷ 3 ∷ [])) 1))
right-taken =
    let f = halfway-facts in
    let d = lies _ _ _ _ f.6 in
    halfway-right.later-taken (right-last (msg 2 (product-terms 1) (4 ∷ 2 ∷ 3 ∷ [])) 1) first 0 0 0 d.0 d.1 (role-there first second d.0 (a-product 1) d.2 d.3)
    (λ e. other-role e (λ e. cc))
    (subst (λ (t : Terms). FairLater (after halfway) t (due_in ((after halfway).state.sessions 0)) (right-last (msg 2 (product-terms 1) (4 ∷ 2 ∷ 3 ∷ [])) 1)) (sym f.8)
    (f.10, sent-last (after halfway) right (product-terms 1) 2 3 _ f.0 f.1 f.2 refl, omega arith, early _ _ 0 refl))

pub blinder-goes-on : TakenNow sizes (after halfway) first 1 3 4 (goes_on (blinder-second (msg 3 (system-terms 2) (4 ∷ [])) 2))
blinder-goes-on =
    let f = halfway-facts in
    let d = lies _ _ _ _ f.7 in
    halfway-right.later-taken (blinder-second (msg 3 (system-terms 2) (4 ∷ [])) 2) first 1 3 4 d.0 d.1
    (role-there first first d.0 (a-system 2) d.2 d.3) (λ e. f.12)
    (subst (λ (t : Terms). FairLater (after halfway) t (due_in ((after halfway).state.sessions 4)) (blinder-second (msg 3 (system-terms 2) (4 ∷ [])) 2)) (sym f.9)
    (f.11, sent-last (after halfway) blinder (system-terms 2) 3 1 _ f.3 f.4 f.5 refl, omega (arith, f.13), early _ _ 4 refl))

-- the blinder's half lies somewhere, and serves session 4; by `halfway-facts` at the first party's place 1
pub blinder-home : (w : Party) × (i : ℕ) × (d : Dealing) × (place (after halfway).log w i ≡ holds d (some 4)) × (half_role w d ≡ blinder)
blinder-home =
    let h = halfway-right.home 4 (omega (arith, halfway-facts.11)) in
    (h.0, h.1, h.2, h.3, h.4 ∙ halfway-facts.14)

-- the halves of the first tape have served, so its slots are dealt again
served-facts : (field_fits system 5 ≡ true) × (sides_fit system 1 1 2 ≡ true)
    × (is_slot (slot_of sizes (after served).state.pools first 0) ≡ true) × (is_slot (slot_of sizes (after served).state.pools second 0) ≡ true)
    × (tape_size blinder 1 1 2 ≡ header_size + 5) × (tape_size solver 1 1 2 ≡ slot-size)
    × HasServed (after served).state.sessions (place (after served).log first 0) × HasServed (after served).state.sessions (place (after served).log second 0)
    × (draw_size (a-system 4) ≡ 8) × (length (residues_of 5 (a-system 4).words) ≡ 8) × (mask_fits system 5 1 (drawn_parts (a-system 4)) ≡ true)
unfolding list-rules
served-facts = (refl, refl, refl, refl, refl, refl, refl, refl, refl, refl, refl)

by-party : (P : Party → Type 0) → P first → P second → (w : Party) → P w
by-party P a b first = a
by-party P a b second = b

pub dealt-again : DealtNow (after served) first slot-size 0 (a-system 4)
dealt-again =
    let f = served-facts in
    (demand-2 sizes start lent three-slots served served-kept).dealing-taken first slot-size 0 (a-system 4) (record {
      modulus = (omega arith, omega arith);
      field = f.0;
      sides = f.1;
      number = omega arith;
      stated = λ w. refl;
      inside = by-party (λ (w : Party). is_slot (slot_of sizes (after served).state.pools w 0) ≡ true) f.2 f.3;
      room = omega (arith, f.4);
      other-room = omega (arith, f.5);
      free = by-party (λ (w : Party). HasServed (after served).state.sessions (place (after served).log w 0)) f.6 f.7;
      enough = omega (arith, f.8, f.9);
      mask = f.10;
    })

-- the second system's solver may drop its session
dropping-facts : Lies (place (after dropping).log second 0) first (a-system 4) (some 6) × (due_in ((after dropping).state.sessions 6) ≡ 2)
unfolding list-rules
dropping-facts = ((refl, refl, refl), refl)

pub drop-taken : TakenNow sizes (after dropping) second 0 0 6 (goes_on solver-drop)
drop-taken =
    let d = lies _ _ _ _ dropping-facts.0 in
    (demand-2 sizes start lent three-slots dropping dropping-kept).later-taken solver-drop second 0 0 6 d.0 d.1 (role-there second first d.0 (a-system 4) d.2 d.3)
    (λ e. other-role e (λ e. cc)) (omega (arith, dropping-facts.1))

-- ---- what stands behind the views

-- left of the second product is session 5 and right session 2, which awaits message 2; the blinder, session 4, awaits message 3
halfway-ends : Ends-here (after halfway) left 5 2 3 ((6 ∷ 4 ∷ []) ∷ []) ((6 ∷ 4 ∷ []) ∷ []) [] ((9 ∷ 8 ∷ 7 ∷ 8 ∷ 3 ∷ 3 ∷ []) ∷ [])
    × Ends-here (after halfway) blinder 4 1 2 ((3 ∷ 1 ∷ []) ∷ []) ((3 ∷ 1 ∷ []) ∷ (4 ∷ []) ∷ []) ((3 ∷ 0 ∷ 2 ∷ []) ∷ []) ((3 ∷ 0 ∷ 2 ∷ []) ∷ [])
unfolding list-rules
halfway-ends = ((refl, refl, refl, refl, refl, refl, refl, refl, refl, refl), (refl, refl, refl, refl, refl, refl, refl, refl, refl, refl))

so_far : (o : World) (r : Role) (n n' i : ℕ) (a sent' b sent : List (List ℕ)) → Ends-here o r n n' i a sent' b sent → a ≡ take (length a) sent' → b ≡ take (length b) sent
    → SoFar (view o.log n) (view o.log n')
so_far o r n n' i a sent' b sent h ea eb = record {
  there = h.6 ∙ ea ∙ ap₂ (λ (x y : List (List ℕ)). take (length x) y) (sym h.6) (sym h.7);
  back = h.8 ∙ eb ∙ ap₂ (λ (x y : List (List ℕ)). take (length x) y) (sym h.8) (sym h.9);
}

-- the same two ends, from the other's side
turned : (o : World) (r : Role) (n n' : ℕ) → facing (facing r) ≡ r → Paired o r n n' → Paired o (facing r) n' n
turned o r n n' e c = record { begun = c.other-begun; other-begun = c.begun; role-is = c.other-role; other-role = c.role-is ∙ sym e; same-tape = sym c.same-tape }

turned-far : (v v' : View) → SoFar v v' → SoFar v' v
turned-far v v' f = record { there = f.back; back = f.there }

-- from both sides
stood-both : (o : World) → Demand2 sizes o → (r : Role) (n n' i : ℕ) (a sent' b sent : List (List ℕ)) → facing (facing r) ≡ r → Ends-here o r n n' i a sent' b sent
    → a ≡ take (length a) sent' → b ≡ take (length b) sent → Stood (view o.log n) (view o.log n') × Stood (view o.log n') (view o.log n)
stood-both o d r n n' i a sent' b sent e h ea eb =
    let p = paired o r n n' i a sent' b sent h in
    let f = so_far o r n n' i a sent' b sent h ea eb in
    (d.stood r n n' p f, d.stood (facing r) n' n (turned o r n n' e p) (turned-far _ _ f))

-- all four roles, with messages under way
pub stood-halfway : (Stood (view (after halfway).log 5) (view (after halfway).log 2) × Stood (view (after halfway).log 2) (view (after halfway).log 5))
    × (Stood (view (after halfway).log 4) (view (after halfway).log 1) × Stood (view (after halfway).log 1) (view (after halfway).log 4))
stood-halfway = (
  stood-both (after halfway) halfway-right left 5 2 3 _ _ _ _ refl halfway-ends.0 refl refl,
  stood-both (after halfway) halfway-right blinder 4 1 2 _ _ _ _ refl halfway-ends.1 refl refl,
)

-- and at the end
pub stood-ended : (Stood (view (after calls).log 3) (view (after calls).log 0) × Stood (view (after calls).log 0) (view (after calls).log 3))
    × (Stood (view (after calls).log 4) (view (after calls).log 1) × Stood (view (after calls).log 1) (view (after calls).log 4))
stood-ended = (
  stood-both (after calls) right-here left 3 0 1 _ _ _ _ refl ends.0 refl refl,
  stood-both (after calls) right-here blinder 4 1 2 _ _ _ _ refl ends.2 refl refl,
)
