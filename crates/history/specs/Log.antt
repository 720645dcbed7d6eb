-- Lists of calls, what they leave, and the premises on hosts and numbers (RULES 10.2.1, 10.2.2).
--   State, Call, run          two pools, scratches and sessions; a call; what stands after a list of calls
--   Entry, World              the log: each accepted call with the state that it was called on
--   begun_in                   how many first steps were accepted: the name of the session that the next one begins
--   Place, place              what was last dealt at a place, and the session that its half serves
--   Premises                  what RULES 3.7 supposes of numbers and hosts, of the accepted calls alone
-- Assumes nothing.
use Rattle.std.specs.Prelude.{◌≡◌, ◌≢◌, ◌⊎◌, List, [], ◌∷◌, ℕ, suc, ◌<◌}
use Rattle.std.proofs.Math.Option.{Option, some, none}
use Rattle.std.proofs.Math.Decide.{ℕ_discrete}
use Rattle.protocol.specs.declared.Terms.{Terms}
use Rattle.protocol.specs.Judge.{Judged, refused, done}
use Rattle.protocol.specs.Bounds.{Sort}
use Rattle.algebra.specs.Words.{over}
use Rattle.protocol.specs.Tape.{Slot, slot_at, pool_with, Role, blinder}
use Rattle.protocol.specs.Deal.{Request, first_role, second_role, Dealt, deal}
use Rattle.protocol.specs.Step.{Effect, Outcome}
use Rattle.history.specs.Ends.{Session, absent, due_in, role_in, First, Later, Step, begins, goes_on, role_of, run_step}

-- ---- small choices

abbrev pub choose : {P A : Type 0} → Dec P → A → A → A
choose (yes _) a b = a
choose (no _) a b = b

abbrev pub both? : {P Q : Type 0} → Dec P → Dec Q → Dec (P × Q)
both? (yes a) (yes b) = yes (a, b)
both? (yes a) (no h) = no (λ x. h x.1)
both? (no h) d = no (λ x. h x.0)

-- f, with a at n
abbrev pub set_at : {A : Type 0} → ℕ → A → (ℕ → A) → ℕ → A
set_at n a f n' = choose (ℕ_discrete n n') a (f n')

-- ---- the state

-- the two parties; each has a pool
pub data Party : Type 0 where
  first second : Party
  deriving Discrete as party-eq

abbrev pub opposite : Party → Party
opposite first = second
opposite second = first

-- both pools, the scratches that hosts lend to blinders (RULES 5.2), and the sessions, each under its name: how many were begun before it
pub record State : Type 0 where
  pub pools : Party → List ℕ
  pub scratches : ℕ → List ℕ
  pub sessions : ℕ → Session

-- ---- calls

-- A dealing names the party that gets the left or the blinder's half. A step or drop names a slot of a party's pool and a scratch (of no account but
-- to a blinder). A first step begins a session, and the list names it; a later step or a drop names the session that it goes on with. So no call can make up
-- or put back a pool, a scratch or a session, and a slot has its pool's size. A dealing states one size for both pools
pub data Call : Type 0 where
  dealing : (holder : Party) (size index : ℕ) → Request → Call
  beginning : (party : Party) (index scratch : ℕ) → Terms → First → Call
  continuing : (party : Party) (index scratch name : ℕ) → Later → Call

-- an accepted dealing, and the state that it was called on
pub record Dealing : Type 0 where
  pub holder : Party
  pub size : ℕ
  pub index : ℕ
  pub request : Request
  pub on : State

-- an accepted step or drop, the state that it was called on, and its effect
pub record Did : Type 0 where
  pub party : Party
  pub index : ℕ
  pub scratch : ℕ
  pub name : ℕ
  pub step : Step
  pub on : State
  pub effect : Effect Session

-- the log: accepted calls, newest first
pub data Entry : Type 0 where
  dealt : Dealing → Entry
  did : Did → Entry

pub record World : Type 0 where
  pub state : State
  pub log : List Entry

-- how many first steps were accepted. RULES 10.2.1: every accepted first step begins a session of the list; so this number names the one that the next
-- first step begins, whatever session number its terms bear
abbrev pub begun_by : Step → ℕ → ℕ
begun_by (begins t k) n = suc n
begun_by (goes_on k) n = n

abbrev pub begun_in : List Entry → ℕ
begun_in [] = 0
begun_in (dealt d ∷ l) = begun_in l
begun_in (did e ∷ l) = begun_by e.step (begun_in l)

-- each pool is cut into slots of one size
abbrev pub slot_of : (size : Party → ℕ) → (Party → List ℕ) → Party → ℕ → Slot
slot_of size pools w i = slot_at (pools w) (size w) i

abbrev pub pools_set : (w : Party) → List ℕ → (Party → List ℕ) → Party → List ℕ
pools_set w pool pools w' = choose (party-eq w w') pool (pools w')

-- the state that an accepted dealing, and an accepted step, leave
abbrev pub after_dealing : Party → Dealt → State → State
after_dealing holder d st =
    record { pools = λ w. choose (party-eq holder w) d.first d.second; scratches = st.scratches; sessions = st.sessions }

abbrev pub after_step : (size : Party → ℕ) (w : Party) (index scratch name : ℕ) → Effect Session → State → State
after_step size w i b n e st = record {
  pools = pools_set w (pool_with (slot_of size st.pools w i) e.slot) st.pools;
  scratches = set_at b (over e.scratch (st.scratches b)) st.scratches;
  sessions = set_at n e.session st.sessions;
}

-- a refused call changes nothing
abbrev pub advance_dealing : Party → (size index : ℕ) → Request → World → Judged Dealt → World
advance_dealing holder len i r o (refused n) = o
advance_dealing holder len i r o (done d) =
    record { state = after_dealing holder d o.state; log = dealt (record { holder = holder; size = len; index = i; request = r; on = o.state }) ∷ o.log }

abbrev pub advance_step : (size : Party → ℕ) (w : Party) (index scratch name : ℕ) → Step → World → Outcome Session → World
advance_step size w i b n k o (refused r) = o
advance_step size w i b n k o (done e) = record {
  state = after_step size w i b n e o.state;
  log = did (record { party = w; index = i; scratch = b; name = n; step = k; on = o.state; effect = e }) ∷ o.log;
}

-- a step or drop of session n
abbrev pub try_step : (size : Party → ℕ) (w : Party) (index scratch name : ℕ) → Step → World → World
try_step size w i b n k o = advance_step size w i b n k o (run_step k (o.state.sessions n) (slot_of size o.state.pools w i) (o.state.scratches b))

-- one call
abbrev pub advance : (size : Party → ℕ) → World → Call → World
advance size o (dealing holder len i r) =
    advance_dealing holder len i r o (deal (o.state.pools holder) (o.state.pools (opposite holder)) len i r)
advance size o (beginning w i b t k) = try_step size w i b (begun_in o.log) (begins t k) o
advance size o (continuing w i b n k) = try_step size w i b n (goes_on k) o

-- no session yet
abbrev pub fresh : (Party → List ℕ) → (ℕ → List ℕ) → State
fresh start lent = record { pools = start; scratches = lent; sessions = λ n. absent }

-- what stands after a list of calls, newest first, on pools and scratches as they are at the start
abbrev pub run : (size : Party → ℕ) → (Party → List ℕ) → (ℕ → List ℕ) → List Call → World
run size start lent [] = record { state = fresh start lent; log = [] }
run size start lent (c ∷ cs) = advance size (run size start lent cs) c

-- ---- places, read off the log

-- the role of the party w's half of a tape that was dealt with `holder` as the left or blinder
abbrev pub role_by : {P : Type 0} → Dec P → Sort → Role
role_by (yes _) sort = first_role sort
role_by (no _) sort = second_role sort

unfoldable pub half_role : Party → Dealing → Role
half_role w d = role_by (party-eq d.holder w) d.request.sort

-- nothing was dealt there; or the last accepted dealing there, and the session whose first step was accepted on the party's half since
pub data Place : Type 0 where
  untouched : Place
  holds : Dealing → Option ℕ → Place

abbrev pub serving : ℕ → Place → Place
serving n untouched = untouched
serving n (holds d o) = holds d (some n)

-- is slot j of w' the slot i of w?
unfoldable pub here : (w' : Party) (j : ℕ) (w : Party) (i : ℕ) → Dec ((w' ≡ w) × (j ≡ i))
here w' j w i = both? (party-eq w' w) (ℕ_discrete j i)

abbrev pub place_after : {P : Type 0} → Dec P → Step → ℕ → Place → Place
place_after (yes _) (begins t k) n c = serving n c
place_after (yes _) (goes_on k) n c = c
place_after (no _) k n c = c

abbrev pub place : List Entry → Party → ℕ → Place
place [] w i = untouched
place (dealt d ∷ l) w i = choose (ℕ_discrete d.index i) (holds d none) (place l w i)
place (did d ∷ l) w i = place_after (here d.party d.index w i) d.step d.name (place l w i)

-- ---- premises (RULES 3.7)

abbrev pub WasDealt : Dealing → List Entry → Type 0
WasDealt d [] = ⊥
WasDealt d (dealt d' ∷ l) = (d' ≡ d) ⊎ WasDealt d l
WasDealt d (did e ∷ l) = WasDealt d l

abbrev pub WasDone : Did → List Entry → Type 0
WasDone e [] = ⊥
WasDone e (dealt d ∷ l) = WasDone e l
WasDone e (did e' ∷ l) = (e' ≡ e) ⊎ WasDone e l

abbrev pub number_of : Dealing → ℕ
number_of d = d.request.tape.0

-- every accepted dealing has a tape number of its own
abbrev pub Distinct : List Entry → Type 0
Distinct [] = Unit
Distinct (dealt d ∷ l) = ((d' : Dealing) → WasDealt d' l → number_of d' ≢ number_of d) × Distinct l
Distinct (did e ∷ l) = Distinct l

-- no end's call was lent the other end's half
abbrev pub OwnHalf : List Entry → Did → Type 0
OwnHalf l e = (d : Dealing) (o : Option ℕ) → place l e.party e.index ≡ holds d o → half_role e.party d ≡ role_of e.step

-- the scratch that session n was lent by its first step
abbrev pub lent_after : {P : Type 0} → Dec P → Step → (scratch before : ℕ) → ℕ
lent_after (yes _) (begins t k) b b' = b
lent_after (yes _) (goes_on k) b b' = b'
lent_after (no _) k b b' = b'

abbrev pub lent_to : List Entry → ℕ → ℕ
lent_to [] n = 0
lent_to (dealt d ∷ l) n = lent_to l n
lent_to (did e ∷ l) n = lent_after (ℕ_discrete e.name n) e.step e.scratch (lent_to l n)

-- the scratch of an open blinder's session was lent to no other session's call, and that session was lent no other scratch
abbrev pub OwnScratchBy : List Entry → Did → Step → Type 0
OwnScratchBy l e (begins t k) = role_of e.step ≡ blinder
    → (n : ℕ) → 0 < due_in (e.on.sessions n) → role_in (e.on.sessions n) ≡ blinder → lent_to l n ≢ e.scratch
OwnScratchBy l e (goes_on k) = role_of e.step ≡ blinder → lent_to l e.name ≡ e.scratch

pub record Kept (l : List Entry) (e : Did) : Type 0 where
  pub own-half : OwnHalf l e
  pub own-scratch : OwnScratchBy l e e.step

-- a dealing, which states one length for both pools, states the length of each
abbrev pub Stated : (size : Party → ℕ) → Dealing → Type 0
Stated size d = (w : Party) → d.size ≡ size w

abbrev pub AllKept : (size : Party → ℕ) → List Entry → Type 0
AllKept size [] = Unit
AllKept size (dealt d ∷ l) = Stated size d × AllKept size l
AllKept size (did e ∷ l) = Kept l e × AllKept size l

abbrev pub Premises : (size : Party → ℕ) → List Entry → Type 0
Premises size l = Distinct l × AllKept size l
