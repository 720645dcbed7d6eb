-- A list of calls in which every kind of call is both accepted and refused, computed: its premises hold, so the claim speaks of such lists. It has the
-- system of RULES 9.3, the same with a singular sum, its product, dropped sessions, places that are dealt again, and one session number for all. Assumes nothing.
use mathlib.Core.Path.{◌≡◌, refl, sym, ap, ap₂, ◌∙◌, subst, subst₂}
use mathlib.Core.Logic.{◌≢◌, ◌⊎◌, inl, inr}
use mathlib.Core.Bool.{Bool, true, false, cond}
use mathlib.Core.List.{List, [], ◌∷◌, ◌++◌}
use mathlib.Core.Option.{Option, some, none}
use Prim.Native.Nat.{ℕ, zero, suc, ◌+◌, ◌≤◌, ◌<◌}
use native.Mathlib.Omega.{arith}
use lib.Dec.{eqb}
use lib.ListN.{length, take, replicate}
use borrow.Author.Tests.{ltb-true, eq-eqb}
use Rattle.algebra.specs.Count.{both, eq_list, sum_lists, count}
use Rattle.algebra.specs.Inverse.{id_mat, are_inverse, has_inverse}
use Rattle.algebra.specs.Elimination.{step, solution}
use Rattle.protocol.specs.declared.Terms.{Terms}
use Rattle.std.specs.Prelude.{Ok, Err}
use Rattle.protocol.specs.declared.Refusal.TheVariants.{Singular}
use Rattle.protocol.specs.Bounds.{product}
use Rattle.protocol.specs.Tape.{header_size, EMPTY, READY, SPENT, is_slot, slot_words, header_words, status_of, spent, Role, sort_of, left, right, blinder, solver}
use Rattle.protocol.specs.Deal.{Request, product_request, system_request, deal, deal_answer}
use Rattle.protocol.specs.Message.{Message}
use Rattle.protocol.specs.Step.{answer_number, answer_after}
use Rattle.protocol.specs.View.{View, facing, kinds_sent, Finished}
use Rattle.protocol.specs.Completion.{completions, Counted, answer_for, answer_seen}
use Rattle.history.specs.Ends.{Session, is_begun, due_in, role_in, right-first, left-only, solver-first, blinder-first, right-last, solver-second, solver-last, blinder-second, blinder-last, right-drop, solver-drop, blinder-drop, Step, goes_on, run_first, run_later}
use Rattle.history.specs.Log.{Party, first, second, opposite, Call, dealing, beginning, continuing, Dealing, Did, Entry, dealt, did, World, begun_in, slot_of, run, half_role, holds, WasDealt, number_of, Distinct, Premises}
use Rattle.history.specs.Contents.{half}
use Rattle.history.specs.Seen.{view, as-answered}
use Rattle.history.specs.Claim.{Demand3}
use Rattle.history.specs.Right.{newest, result, Paired, Arrived, AddTo, sum_of, OnlySolution, Demand2}
use Rattle.history.proofs.Demand.{demand-3}
use Rattle.history.proofs.Rightness.{demand-2}
use Rattle.history.proofs.Facts.{same-dealing, none≢}
use Rattle.history.proofs.Named.{unbegun}
use Rattle.history_examples.proofs.Computing.{list-rules}

-- a slot that the solver's half of a system with one unknown fills
abbrev pub slot-size : ℕ
slot-size = header_size + 6

-- three such slots, and one word more
abbrev pub sizes : Party → ℕ
sizes w = slot-size

abbrev blank : List ℕ
blank = EMPTY ∷ replicate (header_size + 5) 9

abbrev pub start : Party → List ℕ
start w = blank ++ (blank ++ (blank ++ (9 ∷ [])))

abbrev pub lent : ℕ → List ℕ
lent b = 9 ∷ 9 ∷ 9 ∷ 9 ∷ []

-- every session bears the number 9
abbrev pub product-terms : (tape : ℕ) → Terms
product-terms i = record { session = record { 0 = 9 }; tape = record { 0 = i }; q = 7; m = 1; k = 2; p = 1 }

abbrev pub system-terms : (tape : ℕ) → Terms
system-terms i = record { session = record { 0 = 9 }; tape = record { 0 = i }; q = 5; m = 1; k = 1; p = 2 }

abbrev pub msg : ℕ → Terms → List ℕ → Message
msg kind t residues = record { head = record { kind = kind; terms = t }; residues = residues }

-- the tapes of RULES 9.3
abbrev pub a-product : (tape : ℕ) → Request
a-product i = product_request (record { 0 = i }) 7 1 2 1 (1 ∷ 4 ∷ 6 ∷ 3 ∷ 2 ∷ [])

abbrev pub a-system : (tape : ℕ) → Request
a-system i = system_request (record { 0 = i }) 5 1 2 (1 ∷ 4 ∷ 2 ∷ 0 ∷ 3 ∷ 3 ∷ 2 ∷ 1 ∷ [])

-- Each part of the list comes before those that follow it in time, newest first in each. Sessions have their names from 0 up, as their first steps are accepted.
-- A system whose sum is singular: its solver is session 0 of the first party, its blinder session 1 of the second, on scratch 3
abbrev opening : List Call
opening =
    beginning first 0 0 (system-terms 5) (solver-first (2 ∷ []) (3 ∷ []) 2)
    ∷ dealing second slot-size 1 (a-system 5)
    ∷ dealing second slot-size 3 (a-system 5)
    ∷ []

abbrev one : List Call
one =
    beginning second 1 3 (system-terms 5) (blinder-first (3 ∷ []) (1 ∷ []) [] (msg 1 (system-terms 5) (3 ∷ 1 ∷ [])) 3)
    ∷ beginning first 1 0 (system-terms 5) (solver-first (2 ∷ []) (3 ∷ []) 2)
    ∷ opening

abbrev singular : List Call
singular =
    continuing second 1 3 1 blinder-drop
    ∷ continuing second 0 3 1 blinder-drop
    ∷ continuing first 1 0 0 solver-drop
    ∷ continuing first 1 0 0 (solver-last (msg 4 (system-terms 5) (3 ∷ 4 ∷ [])) 1)
    ∷ continuing second 1 3 1 (blinder-second (msg 3 (system-terms 5) (4 ∷ [])) 2)
    ∷ continuing first 1 0 0 (solver-second (msg 2 (system-terms 5) (3 ∷ 0 ∷ 2 ∷ [])) 1)
    ∷ beginning second 1 3 (system-terms 5) (blinder-first (3 ∷ []) (1 ∷ []) (2 ∷ 1 ∷ 2 ∷ []) (msg 1 (system-terms 5) (3 ∷ 1 ∷ [])) 3)
    ∷ one

-- the system of RULES 9.3 at the same place, the halves the other way round: sessions 2 and 3, on the same scratch
abbrev two : List Call
two =
    beginning second 1 0 (system-terms 7) (solver-first (2 ∷ []) (3 ∷ []) 2)
    ∷ dealing first slot-size 1 (a-system 7)
    ∷ singular

abbrev regular-run : List Call
regular-run =
    continuing first 1 3 3 (blinder-last (msg 5 (system-terms 7) (1 ∷ [])) 1)
    ∷ continuing first 1 3 3 (blinder-last (msg 5 (system-terms 7) (1 ∷ [])) 0)
    ∷ continuing second 1 0 2 (solver-last (msg 4 (system-terms 7) (1 ∷ 4 ∷ [])) 1)
    ∷ continuing second 1 0 2 (solver-last (msg 4 (system-terms 5) (1 ∷ 4 ∷ [])) 1)
    ∷ continuing first 1 3 3 (blinder-second (msg 3 (system-terms 7) (4 ∷ [])) 2)
    ∷ continuing first 1 3 3 (blinder-second (msg 5 (system-terms 7) (4 ∷ [])) 2)
    ∷ continuing second 1 0 2 (solver-second (msg 2 (system-terms 7) (3 ∷ 0 ∷ 2 ∷ [])) 1)
    ∷ continuing second 1 0 2 (solver-second (msg 2 (system-terms 7) (5 ∷ 0 ∷ 2 ∷ [])) 1)
    ∷ beginning first 1 3 (system-terms 7) (blinder-first (1 ∷ []) (1 ∷ []) (2 ∷ 1 ∷ 2 ∷ []) (msg 1 (system-terms 7) (3 ∷ 1 ∷ [])) 3)
    ∷ two

-- the product of RULES 9.3: right is session 4 of the first party, left session 5 of the second
abbrev with-product : List Call
with-product =
    continuing first 0 0 4 right-drop
    ∷ continuing first 0 0 4 (right-last (msg 2 (product-terms 4) (4 ∷ 2 ∷ 3 ∷ [])) 1)
    ∷ continuing first 0 0 4 (right-last (msg 2 (product-terms 4) (4 ∷ 2 ∷ 7 ∷ [])) 1)
    ∷ beginning second 0 0 (product-terms 4) (left-only (3 ∷ 5 ∷ []) (5 ∷ []) (msg 1 (product-terms 4) (3 ∷ 3 ∷ [])) 3 1)
    ∷ beginning second 0 0 (product-terms 4) (left-only (3 ∷ 5 ∷ []) (5 ∷ []) (msg 1 (product-terms 6) (3 ∷ 3 ∷ [])) 3 1)
    ∷ beginning first 0 0 (product-terms 4) (right-first (2 ∷ 6 ∷ []) 2)
    ∷ beginning first 0 0 (product-terms 4) (right-first (2 ∷ []) 2)
    ∷ dealing second slot-size 0 (a-product 4)
    ∷ regular-run

-- a product at the same place, and a system at another, whose sessions 6 and 7 are dropped
abbrev calls : List Call
calls =
    continuing first 2 0 7 solver-drop
    ∷ beginning first 2 0 (system-terms 8) (solver-first (2 ∷ []) (3 ∷ []) 2)
    ∷ dealing second slot-size 2 (a-system 8)
    ∷ continuing second 0 0 6 right-drop
    ∷ beginning second 0 0 (product-terms 6) (right-first (2 ∷ 6 ∷ []) 2)
    ∷ dealing first slot-size 0 (a-product 6)
    ∷ with-product

abbrev end : World
end = run sizes start lent calls

-- the number of each call's answer (RULES 8.2), 0 where it is accepted; newest first
abbrev answer_to : World → Call → ℕ
answer_to o (dealing holder len i r) = answer_number (deal_answer (deal (o.state.pools holder) (o.state.pools (opposite holder)) len i r))
answer_to o (beginning w i b t k) = answer_number (answer_after (run_first t k (slot_of sizes o.state.pools w i) (o.state.scratches b)))
answer_to o (continuing w i b n k) = answer_number (answer_after (run_later k (o.state.sessions n) (slot_of sizes o.state.pools w i) (o.state.scratches b)))

abbrev pub answers : List Call → List ℕ
answers [] = []
answers (c ∷ cs) = answer_to (run sizes start lent cs) c ∷ answers cs

pub all-answers : answers calls
    ≡ 0 ∷ 0 ∷ 0 ∷ 0 ∷ 0 ∷ 0
    ∷ 5 ∷ 0 ∷ 8 ∷ 0 ∷ 7 ∷ 0 ∷ 4 ∷ 0
    ∷ 0 ∷ 4 ∷ 0 ∷ 7 ∷ 0 ∷ 5 ∷ 0 ∷ 8 ∷ 0
    ∷ 0 ∷ 0
    ∷ 0 ∷ 6 ∷ 5 ∷ 10 ∷ 0 ∷ 0 ∷ 0
    ∷ 9 ∷ 0
    ∷ 6 ∷ 0 ∷ 4
    ∷ []
unfolding list-rules
all-answers = refl

-- ---- what stands then

-- the first party's left half of the second product, of which nothing was used; the second party's right half, spent by a drop; P's and U0's words, zeroed, with
-- what follows them; behind each tape the words from before the dealing
pub then-stands : (slot_words (slot_of sizes end.state.pools first 0) ≡ header_words READY 6 product 7 1 2 1 ++ (1 ∷ 4 ∷ 2 ∷ 9 ∷ 9 ∷ 9 ∷ []))
    × (slot_words (slot_of sizes end.state.pools second 0) ≡ header_words SPENT 6 product 7 1 2 1 ++ (0 ∷ 0 ∷ 0 ∷ 9 ∷ 9 ∷ 9 ∷ []))
    × (end.state.scratches 3 ≡ 0 ∷ 0 ∷ 0 ∷ 9 ∷ [])
    × ((view end.log 4).half ≡ (6 ∷ 3 ∷ []) ∷ (2 ∷ []) ∷ [])
unfolding list-rules
then-stands = (refl, refl, refl, refl)

-- ---- the premises

abbrev numbers : List Entry → List ℕ
numbers [] = []
numbers (dealt d ∷ l) = number_of d ∷ numbers l
numbers (did e ∷ l) = numbers l

abbrev unlike : ℕ → List ℕ → Bool
unlike n [] = true
unlike n (k ∷ l) = cond (eqb k n) false (unlike n l)

abbrev all-unlike : List ℕ → Bool
all-unlike [] = true
all-unlike (n ∷ l) = cond (unlike n l) (all-unlike l) false

unlike-dealt : (n : ℕ) (l : List Entry) → unlike n (numbers l) ≡ true → (d : Dealing) → WasDealt d l → number_of d ≢ n
unlike-dealt n [] e d w = absurd w
unlike-dealt n (did x ∷ l) e d w = unlike-dealt n l e d w
unlike-dealt n (dealt x ∷ l) e d w = go (eqb (number_of x) n) refl e (λ f. unlike-dealt n l f d) w
  where
    go : (b : Bool) → eqb (number_of x) n ≡ b → cond b false (unlike n (numbers l)) ≡ true → (unlike n (numbers l) ≡ true → WasDealt d l → number_of d ≢ n)
        → (x ≡ d) ⊎ WasDealt d l → number_of d ≢ n
    go true q f rec w z = let y : ◌≡◌ {A = ℕ} 0 1 = cc in omega arith
    go false q f rec (inl i) z = let y : ◌≡◌ {A = Bool} true false = sym (eq-eqb (number_of x) n (ap number_of i ∙ z)) ∙ q in let y' : ◌≡◌ {A = ℕ} 0 1 = cc in omega arith
    go false q f rec (inr i) z = rec f i z

pub distinct : (l : List Entry) → all-unlike (numbers l) ≡ true → Distinct l
distinct [] e = tt
distinct (did x ∷ l) e = distinct l e
distinct (dealt x ∷ l) e = go (unlike (number_of x) (numbers l)) refl e (λ f. distinct l f)
  where
    go : (b : Bool) → unlike (number_of x) (numbers l) ≡ b → cond b (all-unlike (numbers l)) false ≡ true → (all-unlike (numbers l) ≡ true → Distinct l)
        → ((d : Dealing) → WasDealt d l → number_of d ≢ number_of x) × Distinct l
    go true q f rec = (unlike-dealt (number_of x) l q, rec f)
    go false q f rec = absurd (let y : ◌≡◌ {A = ℕ} 0 1 = cc in omega arith)

pub own : (w : Party) (r : Role) {d₀ : Dealing} {o₀ : Option ℕ} → half_role w d₀ ≡ r → (d : Dealing) (o : Option ℕ) → holds d₀ o₀ ≡ holds d o → half_role w d ≡ r
own w r h d o e = subst (λ (z : Dealing). half_role w z ≡ r) (same-dealing e) h

pub other-role : {A : Type 0} {a b : Role} → a ≡ b → (a ≡ b → ◌≡◌ {A = ℕ} 0 1) → A
other-role e f = absurd (omega (arith, f e))

-- no blinder's session is open when another one begins: of the m sessions that were begun by then, by their names, and of the others because they are none
abbrev pub NoBlinder : Session → Type 0
NoBlinder x = 0 < due_in x → role_in x ≡ blinder → ⊥

pub no-session : (cs : List Call) (m n : ℕ) → begun_in (run sizes start lent cs).log ≡ m → m ≤ n → NoBlinder ((run sizes start lent cs).state.sessions n)
no-session cs m n e h d r = omega (arith, d, ap due_in (unbegun sizes start lent cs n (omega (arith, e, h))))

calm-one : (n : ℕ) → NoBlinder ((run sizes start lent one).state.sessions n)
unfolding list-rules
calm-one zero d r = other-role r (λ e. cc)
calm-one (suc n) d r = no-session one 1 (suc n) refl (omega arith) d r

calm-two : (n : ℕ) → NoBlinder ((run sizes start lent two).state.sessions n)
unfolding list-rules
calm-two zero d r = omega (arith, d)
calm-two (suc zero) d r = omega (arith, d)
calm-two (suc (suc zero)) d r = other-role r (λ e. cc)
calm-two (suc (suc (suc n))) d r = no-session two 3 (suc (suc (suc n))) refl (omega arith) d r

premises : Premises sizes end.log
unfolding list-rules
premises = (
  distinct end.log refl,
  (
    record { own-half = own first solver refl; own-scratch = λ e. other-role e (λ e. cc) },
    (
      record { own-half = own first solver refl; own-scratch = λ e. other-role e (λ e. cc) },
      (
        (λ w. refl),
        (
          record { own-half = own second right refl; own-scratch = λ e. other-role e (λ e. cc) },
          (
            record { own-half = own second right refl; own-scratch = λ e. other-role e (λ e. cc) },
            (
              (λ w. refl),
              (
                record { own-half = own first right refl; own-scratch = λ e. other-role e (λ e. cc) },
                (
                  record { own-half = own second left refl; own-scratch = λ e. other-role e (λ e. cc) },
                  (
                    record { own-half = own first right refl; own-scratch = λ e. other-role e (λ e. cc) },
                    (
                      (λ w. refl),
                      (
                        record { own-half = own first blinder refl; own-scratch = λ e. refl },
                        (
                          record { own-half = own second solver refl; own-scratch = λ e. other-role e (λ e. cc) },
                          (
                            record { own-half = own first blinder refl; own-scratch = λ e. refl },
                            (
                              record { own-half = own second solver refl; own-scratch = λ e. other-role e (λ e. cc) },
                              (
                                record { own-half = own first blinder refl; own-scratch = λ e n d r. absurd (calm-two n d r) },
                                (
                                  record { own-half = own second solver refl; own-scratch = λ e. other-role e (λ e. cc) },
                                  (
                                    (λ w. refl),
                                    (
                                      record { own-half = own second blinder refl; own-scratch = λ e. refl },
                                      (
                                        record { own-half = own first solver refl; own-scratch = λ e. other-role e (λ e. cc) },
                                        (
                                          record { own-half = own second blinder refl; own-scratch = λ e. refl },
                                          (
                                            record { own-half = own first solver refl; own-scratch = λ e. other-role e (λ e. cc) },
                                            (
                                              record { own-half = own second blinder refl; own-scratch = λ e n d r. absurd (calm-one n d r) },
                                              (
                                                record { own-half = own first solver refl; own-scratch = λ e. other-role e (λ e. cc) },
                                                ((λ w. refl), tt),
                                              ),
                                            ),
                                          ),
                                        ),
                                      ),
                                    ),
                                  ),
                                ),
                              ),
                            ),
                          ),
                        ),
                      ),
                    ),
                  ),
                ),
              ),
            ),
          ),
        ),
      ),
    ),
  ),
)

pub three-slots : (w : Party) (i : ℕ) → is_slot (slot_of sizes start w i) ≡ true → status_of (slot_words (slot_of sizes start w i)) ≡ 0
unfolding is_slot slot_words status_of
three-slots w zero h = refl
three-slots w (suc zero) h = refl
three-slots w (suc (suc zero)) h = refl
three-slots w (suc (suc (suc i))) h = absurd (let y : suc (suc (suc i)) < 3 = ltb-true _ _ h in omega arith)

-- so demand 3 speaks of this list
pub of-this-list : Demand3 sizes start lent calls end
of-this-list = demand-3 sizes start lent three-slots calls premises

-- ---- what it says, for one

-- of the blinder of the second system, and of right in the first product: the other end's inputs of RULES 9.3 are counted
blinder-counts : Counted (view end.log 3) ((2 ∷ []) ∷ (3 ∷ []) ∷ [])
unfolding list-rules sum_lists count eq_list id_mat are_inverse has_inverse
blinder-counts = record { taken = refl; sum = refl }

right-counts : Counted (view end.log 4) ((3 ∷ 5 ∷ []) ∷ [])
unfolding list-rules
right-counts = record { taken = refl; sum = refl }

-- both are finished, and the blinder has seen the solution
ended : (is_begun (end.state.sessions 3) ≡ true) × ((view end.log 3).role ≡ blinder) × (length (view end.log 3).received ≡ 3)
    × (answer_seen (view end.log 3) ≡ 3 ∷ []) × (answer_for (view end.log 3) ((2 ∷ []) ∷ (3 ∷ []) ∷ []) ≡ 3 ∷ [])
    × (is_begun (end.state.sessions 4) ≡ true) × ((view end.log 4).role ≡ right) × (length (view end.log 4).received ≡ 1)
unfolding list-rules
ended = (refl, refl, refl, refl, refl, refl, refl, refl)

pub finished-by : (v : View) (r : Role) (n : ℕ) → v.role ≡ r → length v.received ≡ n → n ≡ length (kinds_sent (facing r) v.terms) → Finished v
finished-by v r n e l h = l ∙ h ∙ ap (λ (r : Role). length (kinds_sent (facing r) v.terms)) (sym e)

-- so each of these inputs has one completion
pub counted-once : (completions (view end.log 3) ((2 ∷ []) ∷ (3 ∷ []) ∷ []) ≡ 1) × (completions (view end.log 4) ((3 ∷ 5 ∷ []) ∷ []) ≡ 1)
counted-once = (
  (of-this-list.secret 3 ended.0 (view end.log 3) as-answered).finished-blinder ended.1 (finished-by (view end.log 3) blinder 3 ended.1 ended.2 refl)
      ((2 ∷ []) ∷ (3 ∷ []) ∷ []) blinder-counts (ended.4 ∙ sym ended.3),
  (of-this-list.secret 4 ended.5 (view end.log 4) as-answered).finished-product (ap sort_of ended.6) (finished-by (view end.log 4) right 1 ended.6 ended.7 refl)
      ((3 ∷ 5 ∷ []) ∷ []) right-counts,
)

-- ---- demand 2, for the same list

pub right-here : Demand2 sizes end
right-here = demand-2 sizes start lent three-slots calls premises

-- what two sessions of a list are: their roles, their tape's number, and the messages a to the one and b to the other, as they were sent and received
abbrev pub Ends-here : World → Role → (n n' tape : ℕ) (a sent' b sent : List (List ℕ)) → Type 0
Ends-here o r n n' i a sent' b sent =
    (is_begun (o.state.sessions n) ≡ true)
    × (is_begun (o.state.sessions n') ≡ true)
    × ((view o.log n).role ≡ r)
    × ((view o.log n').role ≡ facing r)
    × ((view o.log n).terms.tape.0 ≡ i)
    × ((view o.log n').terms.tape.0 ≡ i)
    × ((view o.log n).received ≡ a)
    × ((view o.log n').sent ≡ sent')
    × ((view o.log n').received ≡ b)
    × ((view o.log n).sent ≡ sent)

pub paired : (o : World) (r : Role) (n n' i : ℕ) (a sent' b sent : List (List ℕ)) → Ends-here o r n n' i a sent' b sent → Paired o r n n'
paired o r n n' i a sent' b sent h = record { begun = h.0; other-begun = h.1; role-is = h.2; other-role = h.3; same-tape = h.4 ∙ sym h.5 }

pub arrived : (o : World) (r : Role) (n n' i : ℕ) (a b : List (List ℕ)) → Ends-here o r n n' i a a b b → length a ≡ length (kinds_sent (facing r) (view o.log n).terms)
    → length b ≡ length (kinds_sent (facing (facing r)) (view o.log n').terms) → Arrived (view o.log n) (view o.log n')
arrived o r n n' i a b h la lb = record {
  finished = finished-by (view o.log n) r (length a) h.2 (ap length h.6) la;
  other-finished = finished-by (view o.log n') (facing r) (length b) h.3 (ap length h.8) lb;
  there = h.6 ∙ sym h.7;
  back = h.8 ∙ sym h.9;
}

-- RULES 9.3's product: left is session 5 and right session 4. Its system: the blinder is session 3 and the solver session 2. The system with a singular sum:
-- the blinder is session 1 and the solver session 0
product-met : Ends-here end left 5 4 4 ((3 ∷ 3 ∷ []) ∷ []) ((3 ∷ 3 ∷ []) ∷ []) ((4 ∷ 2 ∷ 3 ∷ []) ∷ []) ((4 ∷ 2 ∷ 3 ∷ []) ∷ [])
unfolding list-rules
product-met = (refl, refl, refl, refl, refl, refl, refl, refl, refl, refl)

system-met : Ends-here end blinder 3 2 7 ((3 ∷ 1 ∷ []) ∷ (4 ∷ []) ∷ (1 ∷ []) ∷ []) ((3 ∷ 1 ∷ []) ∷ (4 ∷ []) ∷ (1 ∷ []) ∷ [])
    ((3 ∷ 0 ∷ 2 ∷ []) ∷ (1 ∷ 4 ∷ []) ∷ []) ((3 ∷ 0 ∷ 2 ∷ []) ∷ (1 ∷ 4 ∷ []) ∷ [])
unfolding list-rules
system-met = (refl, refl, refl, refl, refl, refl, refl, refl, refl, refl)

singular-met : Ends-here end blinder 1 0 5 ((3 ∷ 1 ∷ []) ∷ (4 ∷ []) ∷ []) ((3 ∷ 1 ∷ []) ∷ (4 ∷ []) ∷ []) ((3 ∷ 0 ∷ 2 ∷ []) ∷ []) ((3 ∷ 0 ∷ 2 ∷ []) ∷ (3 ∷ 4 ∷ []) ∷ [])
unfolding list-rules
singular-met = (refl, refl, refl, refl, refl, refl, refl, refl, refl, refl)

gave : (result end.log 5 ≡ 5 ∷ []) × (result end.log 4 ≡ 3 ∷ []) × (result end.log 3 ≡ 3 ∷ [])
unfolding list-rules
gave = (refl, refl, refl)

-- so the shares 5 and 3 add to the product, and z 3 is the only solution
pub product-here : AddTo (view end.log 5) (view end.log 4) (5 ∷ []) (3 ∷ [])
product-here = subst₂ (AddTo (view end.log 5) (view end.log 4)) gave.0 gave.1
    (right-here.product 5 4 (paired end left 5 4 4 _ _ _ _ product-met) (arrived end left 5 4 4 _ _ product-met refl refl))

pub system-here : OnlySolution (view end.log 3) (view end.log 2) (3 ∷ [])
system-here = subst (OnlySolution (view end.log 3) (view end.log 2)) gave.2
    (right-here.system 3 2 (paired end blinder 3 2 7 _ _ _ _ system-met) (unfold list-rules in refl) (arrived end blinder 3 2 7 _ _ system-met refl refl))

-- and the singular sum was answered by 10: the solver's last step was handed message 4 as it was sent
abbrev step_in : Option Did → Option Step
step_in none = none
step_in (some e) = some e.step

singular-step : (step_in (newest end.log 0) ≡ some (goes_on (solver-last (msg 4 (system-terms 5) (3 ∷ 4 ∷ [])) 1)))
    × (has_inverse (view end.log 1).terms.q (view end.log 1).terms.m (sum_of (view end.log 1) (view end.log 0)) ≡ false)
unfolding list-rules sum_lists count eq_list id_mat are_inverse has_inverse
singular-step = (refl, refl)

pub singular-here : (e : Did) × (newest end.log 0 ≡ some e) × (e.effect.answer ≡ Err Singular)
singular-here = go (newest end.log 0) refl singular-step.0
  where
    same : {k k' : Step} → some k ≡ some k' → k ≡ k'
    same h = cc

    go : (x : Option Did) → newest end.log 0 ≡ x → step_in x ≡ some (goes_on (solver-last (msg 4 (system-terms 5) (3 ∷ 4 ∷ [])) 1))
        → (e : Did) × (newest end.log 0 ≡ some e) × (e.effect.answer ≡ Err Singular)
    go none q h = none≢ h
    go (some e) q h = (
      e,
      q,
      right-here.singular 1 0 (paired end blinder 1 0 5 _ _ _ _ singular-met) e (msg 4 (system-terms 5) (3 ∷ 4 ∷ [])) 1 q (same h)
          (ap (take 2) singular-met.6 ∙ sym (ap (take 2) singular-met.7))
          (ap (λ (z : List (List ℕ)). take 1 z ++ ((3 ∷ 4 ∷ []) ∷ [])) singular-met.8 ∙ sym singular-met.9)
          ∙ ap (λ (b : Bool). cond b (Ok 0) (Err Singular)) singular-step.1,
    )
