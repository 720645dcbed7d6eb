-- What the end of each session has seen, collected from the log: protocol's View.
--   input_of, coins_drawn       the input and the coins of a first step
--   taken_first, taken_later    the message that a step takes
--   view                      the view of a session of the list
--   Stands                    the same with another message sent, which the other end accepted
-- Assumes nothing.
use Rattle.std.specs.Prelude.{◌≡◌, List, [], ◌∷◌, ◌++◌, ℕ}
use Rattle.std.proofs.Math.Decide.{ℕ_discrete}
use Rattle.protocol.specs.declared.Terms.{Terms}
use Rattle.protocol.specs.Answer.{Answer}
use Rattle.std.specs.Prelude.{Ok, Err}
use Rattle.protocol.specs.Bounds.{product}
use Rattle.protocol.specs.Tape.{left, sort_of}
use Rattle.protocol.specs.Message.{Message, no_terms}
use Rattle.protocol.specs.Step.{Effect}
use Rattle.protocol.specs.View.{View, facing}
use Rattle.protocol.specs.Completion.{said}
use Rattle.history.specs.Ends.{Session, First, Later, opening, going, Step, begins, goes_on, role_first, role_of}
use Rattle.history.specs.Log.{Party, Did, Entry, dealt, did, Place, untouched, holds, place, WasDone}
use Rattle.history.specs.Contents.{half}

-- ---- what a step adds

abbrev pub input_of : First → List (List ℕ)
input_of k = (opening k).input

abbrev pub coins_drawn : Terms → First → List ℕ
coins_drawn t k = (opening k).coins t

abbrev pub taken_first : First → List Message
taken_first k = (opening k).taken

abbrev pub taken_later : Later → List Message
taken_later k = (going k).taken

-- a message that a step refuses, be it by 10, isn't accepted
abbrev pub heard : Answer → List Message → List (List ℕ)
heard (Ok n) [] = []
heard (Ok n) (a ∷ ms) = a.residues ∷ []
heard (Err r) ms = []

-- the party's half as it was dealt there
abbrev pub half_at : Party → Place → List (List ℕ)
half_at w untouched = []
half_at w (holds d o) = half w d

-- ---- the view of a session

-- the view that a first step begins, and the one that a later step goes on with
abbrev pub view_first : Terms → First → (half : List (List ℕ)) → Effect Session → View
view_first t k ls f = record {
  role = role_first k;
  terms = t;
  input = input_of k;
  half = ls;
  coins = coins_drawn t k;
  sent = said f.sent;
  received = heard f.answer (taken_first k);
}

abbrev pub view_later : View → Later → Effect Session → View
view_later v k f = record {
  role = v.role;
  terms = v.terms;
  input = v.input;
  half = v.half;
  coins = v.coins;
  sent = v.sent ++ said f.sent;
  received = v.received ++ heard f.answer (taken_later k);
}

abbrev pub view_after : {P : Type 0} → Dec P → List Entry → Did → Step → View → View
view_after (yes _) l e (begins t k) v = view_first t k (half_at e.party (place l e.party e.index)) e.effect
view_after (yes _) l e (goes_on k) v = view_later v k e.effect
view_after (no _) l e k v = v

abbrev pub no_view : View
no_view = record { role = left; terms = no_terms; input = []; half = []; coins = []; sent = []; received = [] }

abbrev pub view : List Entry → (name : ℕ) → View
view [] n = no_view
view (dealt d ∷ l) n = view l n
view (did e ∷ l) n = view_after (ℕ_discrete e.name n) l e e.step (view l n)

-- ---- another message than the step answered

-- the same view with another message sent
abbrev pub with_sent : Message → View → View
with_sent a v = record { role = v.role; terms = v.terms; input = v.input; half = v.half; coins = v.coins; sent = a.residues ∷ []; received = v.received }

abbrev pub taken_by : Step → List Message
taken_by (begins t k) = taken_first k
taken_by (goes_on k) = taken_later k

-- a step of the other end on the other half of the view's tape accepted this message
pub record AcceptedBy (l : List Entry) (v : View) (a : Message) : Type 0 where
  pub in-product : sort_of v.role ≡ product
  pub step : Did
  pub was-done : WasDone step l
  pub other-end : role_of step.step ≡ facing v.role
  pub same-tape : (view l step.name).terms.tape.0 ≡ v.terms.tape.0
  pub message : taken_by step.step ≡ a ∷ []

-- RULES 10.3.2: the view as the steps answered, or, in a product, with a message in its place that the other end accepted
pub data Stands (l : List Entry) (v : View) : View → Type 0 where
  as-answered : Stands l v v
  as-accepted : (a : Message) → AcceptedBy l v a → Stands l v (with_sent a v)
