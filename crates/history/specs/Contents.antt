-- What a slot and a scratch hold after a list of calls, read off the log and the sessions.
--   half, tape_on              the matrices of a party's half, and its tape over the words from before the dealing
--   half_words, place_words     the words of a slot in each life of its half
--   tenant, scratch_words      the blinder's session that a scratch was lent to last, and the words of a scratch
-- Assumes nothing.
use Rattle.std.specs.Prelude.{List, [], ◌∷◌, ◌++◌, ℕ, zero, suc}
use Rattle.std.proofs.Math.Option.{Option, some, none}
use Rattle.std.proofs.Math.Decide.{ℕ_discrete}
use Rattle.algebra.specs.Matrix.{zeros}
use Rattle.algebra.specs.Count.{join}
use Rattle.protocol.specs.declared.Terms.{Terms}
use Rattle.algebra.specs.Words.{over}
use Rattle.protocol.specs.Tape.{slot_words, header_words, READY, IN-USE, SPENT, body_size, Role, left, right, blinder, solver}
use Rattle.protocol.specs.Deal.{Request, drawn_parts, dealt_b, dealt_v, first_half, second_half}
use Rattle.protocol.specs.Message.{no_terms}
use Rattle.protocol.specs.System.{scratch_size}
use Rattle.history.specs.Ends.{Session, due_in, Step, begins, goes_on, First, opening, role_first}
use Rattle.history.specs.Log.{Party, party-eq, Dealing, Did, Entry, dealt, did, slot_of, half_role, Place, untouched, holds}

-- ---- halves

-- the matrices that RULES 3.3 and 3.4 give from all that the dealing was handed: the first half is left's or blinder's
abbrev pub half_by : {P : Type 0} → Dec P → Request → List (List ℕ)
half_by (yes _) r = first_half r.sort (drawn_parts r)
half_by (no _) r = second_half r.sort (drawn_parts r) (dealt_b r (drawn_parts r)) (dealt_v r (drawn_parts r))

-- the party w's half
unfoldable pub half : Party → Dealing → List (List ℕ)
half w d = half_by (party-eq d.holder w) d.request

-- the tape with this status and these matrices, over the words that stood there before the dealing
abbrev pub tape_on : (status : ℕ) (matrices : List ℕ) → Dealing → (before : List ℕ) → List ℕ
tape_on status ms d before =
    let r = d.request in
    over (header_words status r.tape.0 r.sort r.q r.m r.k r.p ++ ms) before

-- while a session that is due this is on the half: in use, and spent from its end (0) on
abbrev pub served_words : Party → Dealing → (due : ℕ) → (before : List ℕ) → List ℕ
served_words w d zero before = tape_on SPENT (zeros (body_size (half_role w d) d.request.m d.request.k d.request.p)) d before
served_words w d (suc _) before = tape_on IN-USE (join (half w d)) d before

-- by the session whose first step was accepted on the half, if there is one
abbrev pub half_words : (sessions : ℕ → Session) → Party → Dealing → Option ℕ → (before : List ℕ) → List ℕ
half_words sessions w d none before = tape_on READY (join (half w d)) d before
half_words sessions w d (some n) before = served_words w d (due_in (sessions n)) before

-- the words of a slot
abbrev pub place_words : (size : Party → ℕ) (start : Party → List ℕ) (sessions : ℕ → Session) → Party → (index : ℕ) → Place → List ℕ
place_words size start sessions w i untouched = slot_words (slot_of size start w i)
place_words size start sessions w i (holds d o) = half_words sessions w d o (slot_words (slot_of size d.on.pools w i))

-- ---- scratches

-- a blinder's first step takes the scratch: the last such step on it
abbrev pub tenant_of : Role → Did → Option Did → Option Did
tenant_of left e o = o
tenant_of right e o = o
tenant_of solver e o = o
tenant_of blinder e o = some e

abbrev pub tenant_by : Did → First → Option Did → Option Did
tenant_by e k o = tenant_of (role_first k) e o

abbrev pub tenant_after : {P : Type 0} → Dec P → Did → Step → Option Did → Option Did
tenant_after (yes _) e (begins t k) o = tenant_by e k o
tenant_after (yes _) e (goes_on k) o = o
tenant_after (no _) e k o = o

abbrev pub tenant : List Entry → (scratch : ℕ) → Option Did
tenant [] b = none
tenant (dealt d ∷ l) b = tenant l b
tenant (did e ∷ l) b = tenant_after (ℕ_discrete e.scratch b) e e.step (tenant l b)

-- what a step keeps in its scratch: a blinder's first P, then U0
abbrev pub kept_by : Role → (coins : List ℕ) → List ℕ
kept_by left coins = []
kept_by right coins = []
kept_by solver coins = []
kept_by blinder coins = coins

abbrev pub coins_by : Terms → First → List ℕ
coins_by t k = kept_by (role_first k) ((opening k).coins t)

abbrev pub coins_in : Step → List ℕ
coins_in (begins t k) = coins_by t k
coins_in (goes_on k) = []

-- as many words of the scratch, by the turn that is due: the coins while the session is open, and zeros from its end on
abbrev pub kept_words : (due : ℕ) → Terms → (coins : List ℕ) → List ℕ
kept_words zero t coins = zeros (scratch_size t)
kept_words (suc _) t coins = coins

-- the terms that a first step was handed
abbrev pub terms_by : Step → Terms
terms_by (begins t k) = t
terms_by (goes_on k) = no_terms

abbrev pub scratch_words : (lent : ℕ → List ℕ) (sessions : ℕ → Session) (scratch : ℕ) → Option Did → List ℕ
scratch_words lent sessions b none = lent b
scratch_words lent sessions b (some e) = over (kept_words (due_in (sessions e.name)) (terms_by e.step) (coins_in e.step)) (e.on.scratches b)
