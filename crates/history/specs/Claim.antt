-- DEMAND 3 (RULES 10.3): what holds after every list of calls. proofs/Demand proves it.
--   Empty                     the pools at the start
--   Never, server, Ends       words of the claim about places, halves and sessions
--   OnHalf, times_of, times    words of the claim about steps
--   EntryOf                   the call behind an entry of the log
--   Demand3, DEMAND-3         the claim
-- Assumes nothing.
use Rattle.std.specs.Prelude.{◌≡◌, ◌≢◌, ◌↔◌, true, List, [], ◌∷◌, ◌++◌, ℕ, suc, ◌*◌, ◌/◌, ◌≤◌, ◌<◌, length, drop}
use Rattle.std.proofs.Math.Option.{Option, some, none}
use Rattle.std.proofs.Math.Decide.{ℕ_discrete}
use Rattle.protocol.specs.Judge.{done}
use Rattle.protocol.specs.Deal.{Dealt, deal}
use Rattle.protocol.specs.Tape.{is_slot, slot_words, status_of, EMPTY, blinder}
use Rattle.protocol.specs.View.{View}
use Rattle.protocol.specs.Completion.{Secret}
use Rattle.history.specs.Ends.{Session, absent, is_begun, due_in, role_in, First, Later, Step, begins, goes_on, StepKind, kind-eq, Next, due, due-last, row, kind_first, kind_later}
use Rattle.history.specs.Ends.{kind_of, role_of, run_step}
use Rattle.history.specs.Log.{choose, both?, Party, opposite, Call, dealing, beginning, continuing, Dealing, Did, Entry, dealt, did, World, begun_in, slot_of, run, half_role, holds, here, place, WasDone, lent_to, Premises}
use Rattle.history.specs.Contents.{half_words, tenant, scratch_words}
use Rattle.history.specs.Seen.{view, Stands}

-- ---- the start

-- every slot of both pools is empty; their other words are anything (RULES 10.2.1)
abbrev pub Empty : (size : Party → ℕ) (start : Party → List ℕ) → Type 0
Empty size start = (w : Party) (i : ℕ) → is_slot (slot_of size start w i) ≡ true → status_of (slot_words (slot_of size start w i)) ≡ EMPTY

-- ---- places and halves

-- no dealing was accepted at the place
abbrev pub Never : (index : ℕ) → List Entry → Type 0
Never i [] = Unit
Never i (dealt d ∷ l) = (d.index ≢ i) × Never i l
Never i (did e ∷ l) = Never i l

-- the session whose first step was accepted on a party's half at the place, in this part of the log
abbrev pub server_after : {P : Type 0} → Dec P → Step → ℕ → Option ℕ → Option ℕ
server_after (yes _) (begins t k) n o = some n
server_after (yes _) (goes_on k) n o = o
server_after (no _) k n o = o

abbrev pub server : List Entry → Party → (index : ℕ) → Option ℕ
server [] w i = none
server (dealt d ∷ l) w i = server l w i
server (did e ∷ l) w i = server_after (here e.party e.index w i) e.step e.name (server l w i)

-- ---- sessions

-- the session as its last accepted step left it
abbrev pub current : List Entry → (name : ℕ) → Session
current [] n = absent
current (dealt d ∷ l) n = current l n
current (did e ∷ l) n = choose (ℕ_discrete e.name n) e.effect.session (current l n)

-- no message is due next
abbrev pub Closes : Next → Type 0
Closes (due kind) = kind ≡ 0
Closes due-last = ⊥

-- the steps that end a session: each end's last, which for the solver may be refused by 10, and drops. Left's one step begins and ends it
abbrev pub EndsFirst : First → Type 0
EndsFirst k = Closes (row (kind_first k)).next

abbrev pub EndsLater : Later → Type 0
EndsLater k = Closes (row (kind_later k)).next

abbrev pub Ends : Step → Type 0
Ends (begins t k) = EndsFirst k
Ends (goes_on k) = EndsLater k

-- the call of a step or drop: the list l before it names the session that a first step begins
abbrev pub CallOf : List Entry → Did → Step → Call → Type 0
CallOf l e (begins t k) c = (c ≡ beginning e.party e.index e.scratch t k) × (e.name ≡ begun_in l)
CallOf l e (goes_on k) c = c ≡ continuing e.party e.index e.scratch e.name k

-- the entry is that of the call c, which the definitions accept on what stands in o, with this effect
abbrev pub EntryOf : (size : Party → ℕ) → Entry → Call → World → Type 0
EntryOf size (dealt d) c o =
    (c ≡ dealing d.holder d.size d.index d.request)
    × (d.on ≡ o.state)
    × (x : Dealt)
    × (deal (o.state.pools d.holder) (o.state.pools (opposite d.holder)) d.size d.index d.request ≡ done x)
EntryOf size (did e) c o =
    CallOf o.log e e.step c
    × (e.on ≡ o.state)
    × (run_step e.step (o.state.sessions e.name) (slot_of size o.state.pools e.party e.index) (o.state.scratches e.scratch) ≡ done e.effect)

-- ---- steps

-- a first step finds a half that serves no session, and a later step or a drop one that serves its own
abbrev pub ServedBy : Did → Step → Option ℕ → Type 0
ServedBy e (begins t k) o = o ≡ none
ServedBy e (goes_on k) o = o ≡ some e.name

pub record OnHalf (l : List Entry) (e : Did) : Type 0 where
  pub dealing : Dealing
  pub server : Option ℕ
  pub stands : place l e.party e.index ≡ holds dealing server
  pub role-is : half_role e.party dealing ≡ role_of e.step
  pub served-by : ServedBy e e.step server

abbrev pub AllOnHalves : List Entry → Type 0
AllOnHalves [] = Unit
AllOnHalves (dealt d ∷ l) = AllOnHalves l
AllOnHalves (did e ∷ l) = OnHalf l e × AllOnHalves l

-- how many accepted steps and drops of session n have this label
abbrev pub times_by : {A : Type 0} → ((a b : A) → Dec (a ≡ b)) → (label : Did → A) → (name : ℕ) → A → List Entry → ℕ
times_by same label n a [] = 0
times_by same label n a (dealt x ∷ l) = times_by same label n a l
times_by same label n a (did e ∷ l) = choose (both? (ℕ_discrete e.name n) (same (label e) a)) (suc (times_by same label n a l)) (times_by same label n a l)

-- how often session n had this very step or drop accepted
abbrev pub times_of : (name : ℕ) → StepKind → List Entry → ℕ
times_of n k l = times_by kind-eq (λ e. kind_of e.step) n k l

-- how often session n had a step or a drop accepted while the message kind d was due; a first step counts under 0
abbrev pub times : (name due : ℕ) → List Entry → ℕ
times n d l = times_by ℕ_discrete (λ e. due_in (e.on.sessions e.name)) n d l

-- ---- demand 3

-- o: what stands after the list cs, on slots of `size` words, from the pools `start` and the scratches `lent`
pub record Demand3 (size : Party → ℕ) (start : Party → List ℕ) (lent : ℕ → List ℕ) (cs : List Call) (o : World) : Type 0 where
  -- 1. a slot where nothing was dealt has its starting words, ..
  pub never : (w : Party) (i : ℕ) → is_slot (slot_of size start w i) ≡ true → Never i o.log
      → slot_words (slot_of size o.state.pools w i) ≡ slot_words (slot_of size start w i)
  -- .. and so has what follows a pool's last whole slot
  pub tails : (w : Party) → drop (length (start w) / size w * size w) (o.state.pools w) ≡ drop (length (start w) / size w * size w) (start w)
  -- 2. any other slot shows its latest accepted dealing: ready until a first step, in use while that step's session is open, spent from its end on;
  -- behind the tape stands what stood there before that dealing (`half_words`)
  pub last : (w : Party) (newer older : List Entry) (d : Dealing) → o.log ≡ newer ++ dealt d ∷ older → Never d.index newer
      → slot_words (slot_of size o.state.pools w d.index)
      ≡ half_words o.state.sessions w d (server newer w d.index) (slot_words (slot_of size d.on.pools w d.index))
  -- a session is closed (0 is due) exactly from a step on that ends it
  pub sessions : (n : ℕ) → o.state.sessions n ≡ current o.log n
  pub ends : (e : Did) → WasDone e o.log → (due_in e.effect.session ≡ 0) ↔ Ends e.step
  -- the list names its sessions (RULES 10.2.1): the names below the number of these steps, and no others, have a session that was begun
  pub named : (n : ℕ) → (is_begun (o.state.sessions n) ≡ true) ↔ (n < begun_in o.log)
  -- an entry of the log is a call of the list, accepted on what the calls before it left; every other call changed nothing
  pub made_by : (newer older : List Entry) (x : Entry) → o.log ≡ newer ++ x ∷ older
      → (later : List Call) × (c : Call) × (earlier : List Call) × (cs ≡ later ++ c ∷ earlier) × ((run size start lent earlier).log ≡ older)
      × EntryOf size x c (run size start lent earlier)
  -- 3. at the start of a scratch stand P and U0 of the blinder's session that it was lent to last, and zeros from that session's end on; the rest is as lent
  pub scratches : (b : ℕ) → o.state.scratches b ≡ scratch_words lent o.state.sessions b (tenant o.log b)
  pub open-tenant : (n : ℕ) → 0 < due_in (o.state.sessions n) → role_in (o.state.sessions n) ≡ blinder
      → (e : Did) × (tenant o.log (lent_to o.log n) ≡ some e) × (e.name ≡ n)
  -- 4. steps and drops are accepted on the half that serves their session alone, and a first step on one that serves none
  pub on-halves : AllOnHalves o.log
  -- so each half served one session at most: a half is named by its tape's number and its role
  pub one-session : (n n' : ℕ) → is_begun (o.state.sessions n) ≡ true → is_begun (o.state.sessions n') ≡ true
      → (view o.log n).terms.tape.0 ≡ (view o.log n').terms.tape.0 → (view o.log n).role ≡ (view o.log n').role → n ≡ n'
  -- and each step of a session was accepted once at most, as was a drop ..
  pub once : (n : ℕ) (k : StepKind) → times_of n k o.log ≤ 1
  -- .. which takes the place of the step that was due: one of the two at most
  pub one-turn : (n d : ℕ) → times n d o.log ≤ 1
  -- 5. the counts, for the view of every session of the list, and for that with another message sent, which the other end accepted (RULES 10.3.4)
  pub secret : (n : ℕ) → is_begun (o.state.sessions n) ≡ true → (v : View) → Stands o.log (view o.log n) v → Secret v

-- one claim about every list of calls, accepted or refused, in any order, with anything handed to them (RULES 10.2.1)
abbrev pub DEMAND-3 : Type 0
DEMAND-3 = (size : Party → ℕ) (start : Party → List ℕ) (lent : ℕ → List ℕ) → Empty size start → (cs : List Call) → Premises size (run size start lent cs).log
    → Demand3 size start lent cs (run size start lent cs)
